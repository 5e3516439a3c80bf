-- Meaning: printable ASCII: the part of c-printable (YAML 1.2.2, 5.1, [1]) that is one byte in
-- UTF-8, without tab and breaks.
use Rattle.std.specs.Prelude.{ℕ, Bool, not, ◌&&◌, nat_le, List}
use Rattle.std.specs.List.{prefix_len}

abbrev pub is_printable_ascii : ℕ → Bool
is_printable_ascii b = nat_le 0x20 b && nat_le b 0x7E

-- the index of the first byte that is not printable ASCII, or the length
abbrev pub special_place : List ℕ → ℕ
special_place = prefix_len is_printable_ascii

-- the byte is not printable ASCII
abbrev pub is_special : ℕ → Bool
is_special b = not (is_printable_ascii b)
