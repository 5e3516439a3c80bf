-- Meaning: the lines of a header (LSP 3.17, 'Base Protocol', 'Header Part'). A field is a name, a colon and a value, and ends in CR LF.
use Rattle.std.specs.Prelude.{ℕ, ◌&&◌, ◌||◌, ◌==◌, nat_eq, nat_le, if◌then◌else◌, Bool, List, [], ◌∷◌, ◌+◌, ◌*◌, ◌-◌, length, take, drop, codes, bytes_eq, map, position, take_while, Option, Some, None}
use Rattle.std.specs.List.{ends_with, list_all}
use Rattle.std.specs.Option.{option_map_or}
use Rattle.std.specs.Char.{is_ascii_digit, to_ascii_lowercase}
use Prim.Native.Char.{code}
use Rattle.yl_frames.specs.declared.field.HeaderLine.{HeaderLine}
use Rattle.yl_frames.specs.declared.field.HeaderLine.TheVariants.{Empty, Length, Other, Bad}

abbrev pub is_blank : ℕ → Bool
is_blank c = (c == 0x20) || (c == 0x09)

-- the number that these digits write after those of n
abbrev pub number_after : ℕ → List ℕ → Option ℕ
number_after n [] = Some n
number_after n (c ∷ cs) = if is_ascii_digit c then number_after (n * 10 + (c - code "0")) cs else None

-- the number that a word of 1 to 10 decimal digits is
abbrev pub number_of_word : List ℕ → Option ℕ
number_of_word word = if nat_le 1 (length word) && nat_le (length word) 10 then number_after 0 word else None

-- the number of such a word and then spaces and tabs
abbrev pub number_before_blanks : List ℕ → Option ℕ
number_before_blanks value =
    let digits = length (take_while is_ascii_digit value) in if list_all is_blank (drop digits value) then number_of_word (take digits value) else None

-- the number in a value, which may have spaces and tabs about it
abbrev pub length_of_value : List ℕ → Option ℕ
length_of_value value = number_before_blanks (drop (length (take_while is_blank value)) value)

-- the name counts in upper and lower case
abbrev pub field_of_parts : List ℕ → List ℕ → HeaderLine
field_of_parts name value =
    if bytes_eq (map to_ascii_lowercase name) (codes "content-length") then option_map_or Length (length_of_value value) Bad else Other

-- a field, without the CR LF at its end. The empty one ends the header
abbrev pub field_of : List ℕ → HeaderLine
field_of field =
    if length field == 0 then Empty else option_map_or (λ colon. field_of_parts (take colon field) (drop (colon + 1) field)) (position (λ c. c == code ":") field) Bad

-- what a line is, which ends in CR
unfoldable pub line_of : List ℕ → HeaderLine
line_of line = if ends_with nat_eq line (0x0D ∷ []) then field_of (take (length line - 1) line) else Bad
