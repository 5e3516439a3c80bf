-- Meaning: which characters a text may have: YAML 1.2.2, chapter 5.1, by their code points. A line
-- has no breaks.
use Rattle.std.specs.Prelude.{ℕ, Bool, not, ◌&&◌, ◌||◌, ◌==◌, nat_le, List, Option}
use Rattle.std.specs.List.{position}

-- c-printable, outside quoted scalars
abbrev pub is_allowed : ℕ → Bool
is_allowed c =
    c == 0x09 || (nat_le 0x20 c && nat_le c 0x7E) || c == 0x85 || (nat_le 0xA0 c && nat_le c 0xD7FF)
    || (nat_le 0xE000 c && nat_le c 0xFFFD) || (nat_le 0x10000 c && nat_le c 0x10FFFF)

-- some of these: printable ASCII without tab, and U+00A0 to U+D7FF
abbrev pub is_common : ℕ → Bool
is_common c = (nat_le 0x20 c && nat_le c 0x7E) || (nat_le 0xA0 c && nat_le c 0xD7FF)

-- nb-json, inside quoted scalars
abbrev pub is_quoted_character : ℕ → Bool
is_quoted_character c = c == 0x09 || nat_le 0x20 c

-- the index of the first character that is not allowed outside quoted scalars
abbrev pub first_bad : List ℕ → Option ℕ
first_bad = position (λ c. not (is_allowed c))
