-- Meaning: text in double quotes, as it is printed. A text is the list of its bytes in UTF-8.
use Rattle.std.specs.Prelude.{ℕ, Bool, ◌==◌, nat_le, not, ◌&&◌, if◌then◌else◌, true, List, [], ◌∷◌, ◌++◌, codes}
use Rattle.std.specs.List.{flat_map}
use Rattle.std.specs.Fmt.{digits}
use Rattle.std.specs.Str.{chars}

-- printable ASCII, and neither a quote (34) nor a backslash (92)
abbrev pub stands_for_itself : ℕ → Bool
stands_for_itself c = nat_le 32 c && nat_le c 126 && not (c == 34) && not (c == 92)

-- a character between the quotes: itself; a quote or a backslash behind a backslash; or its number in hexadecimal
abbrev pub escaped_character : ℕ → List ℕ
escaped_character c =
    if stands_for_itself c then c ∷ []
    else (if c == 34 then codes "\\\"" else (if c == 92 then codes "\\\\" else codes "\\u{" ++ digits 16 true c ++ codes "}"))

abbrev pub escaped_text : List ℕ → List ℕ
escaped_text text = flat_map escaped_character (chars text)

abbrev pub text_in_quotes : List ℕ → List ℕ
text_in_quotes text = codes "\"" ++ escaped_text text ++ codes "\""
