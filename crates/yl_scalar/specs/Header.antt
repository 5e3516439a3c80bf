-- Meaning: the header of a block scalar, which follows its `|` or `>`: YAML 1.2.2, 8.1.1.
use Rattle.std.specs.Prelude.{ℕ, Bool, ◌&&◌, ◌||◌, ◌==◌, nat_lt, nat_le, if◌then◌else◌, List, [], ◌∷◌, ◌+◌, ◌-◌, take, drop, slice_index, Option, Some, None, option_map}
use Rattle.std.specs.List.{prefix_len}
use Rattle.std.specs.Option.{option_map_or}
use Prim.Native.Char.{code}
use Rattle.yl_text.specs.Character.{is_white, is_blank, without_front}

-- c-indentation-indicator
abbrev pub is_indicator_digit : ℕ → Bool
is_indicator_digit c = nat_le (code "1") c && nat_le c (code "9")

-- c-chomping-indicator
abbrev pub is_chomping : ℕ → Bool
is_chomping c = c == code "+" || c == code "-"

-- the indentation indicator, or 0, and the number of characters of the indicators, which come in
-- either order
abbrev pub indicators : List ℕ → ℕ × ℕ
indicators [] = (0, 0)
indicators (c ∷ cs) =
    if is_indicator_digit c then (c - code "0", if is_chomping (slice_index cs 0) then 2 else 1)
    else if is_chomping c then (if is_indicator_digit (slice_index cs 0) then (slice_index cs 0 - code "0", 2) else (0, 1))
    else (0, 0)

-- the content column that an indentation indicator gives, if it is not 0: n + digit, where `least`
-- is n + 1
abbrev pub explicit_content : ℕ → ℕ → Option ℕ
explicit_content least digit = if nat_lt 0 digit then Some ((least - 1) + digit) else None

-- the index of the first character after the indicators that is neither white space nor in a
-- comment after white space (s-b-comment), if there is one
abbrev pub misfit_behind : List ℕ → Option ℕ
misfit_behind cs =
    if is_blank cs then None
    else if nat_lt 0 (prefix_len is_white cs) && slice_index (without_front cs) 0 == code "#" then None
    else Some (prefix_len is_white cs)

-- the index of the first character of the header that does not fit, if there is one
abbrev pub misfit : List ℕ → Option ℕ
misfit header = option_map (λ place. (indicators header).1 + place) (misfit_behind (drop (indicators header).1 header))

-- the header up to and including its first character that does not fit, or all of it
abbrev pub up_to_misfit : List ℕ → List ℕ
up_to_misfit header = option_map_or (λ place. take (place + 1) header) (misfit header) header
