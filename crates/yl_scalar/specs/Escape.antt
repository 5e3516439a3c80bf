-- Meaning: escapes in double quotes: YAML 1.2.2, 5.7.
use Rattle.std.specs.Prelude.{ℕ, ◌&&◌, ◌||◌, ◌==◌, nat_lt, nat_le, if◌then◌else◌, List, [], ◌∷◌, take, length, Option, Some, None, option_map}
use Rattle.std.specs.List.{list_all}
use Rattle.std.specs.Char.{is_digit}
use Rattle.std.specs.Str.Parse.{digits_value}
use Prim.Native.Char.{code}

-- the character that this one stands for after a backslash (c-ns-esc-char)
abbrev pub simple_escape : ℕ → Option ℕ
simple_escape c =
    if c == code "0" then Some 0x00 else if c == code "a" then Some 0x07 else if c == code "b" then Some 0x08
    else if c == code "t" || c == code "\t" then Some 0x09 else if c == code "n" then Some 0x0A
    else if c == code "v" then Some 0x0B else if c == code "f" then Some 0x0C else if c == code "r" then Some 0x0D
    else if c == code "e" then Some 0x1B else if c == code " " || c == code "\"" || c == code "/" || c == code "\\" then Some c
    else if c == code "N" then Some 0x85 else if c == code "_" then Some 0xA0
    else if c == code "L" then Some 0x2028 else if c == code "P" then Some 0x2029 else None

-- the number of hexadecimal digits that follow it (ns-esc-8-bit, ns-esc-16-bit, ns-esc-32-bit)
abbrev pub hex_len : ℕ → ℕ
hex_len c = if c == code "x" then 2 else if c == code "u" then 4 else if c == code "U" then 8 else 0

-- the character that these digits give: not a surrogate, and at most U+10FFFF
abbrev pub hex_value : List ℕ → Option ℕ
hex_value ds =
    let n = digits_value 16 ds in
    if list_all (λ c. is_digit c 16) ds && (nat_lt n 0xD800 || (nat_le 0xE000 n && nat_le n 0x10FFFF)) then Some n else None

-- the character that the escape after a backslash stands for, and the number of its characters
-- after the first one
abbrev pub escape : List ℕ → Option (ℕ × ℕ)
escape [] = None
escape (c ∷ cs) =
    if nat_lt 0 (hex_len c)
    then (if nat_le (hex_len c) (length cs) then option_map (λ x. (x, hex_len c)) (hex_value (take (hex_len c) cs)) else None)
    else option_map (λ x. (x, 0)) (simple_escape c)
