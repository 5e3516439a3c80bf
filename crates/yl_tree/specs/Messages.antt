-- Meaning: findings whose messages name a key or an anchor.
use Prim.Native.Char.{code}
use Rattle.std.specs.Prelude.{ℕ, false, ◌||◌, ◌==◌, nat_lt, if◌then◌else◌, List, [], ◌∷◌, ◌++◌, ◌+◌, ◌/◌, ◌%◌, codes, encode_utf8, Option, Some, None}
use Rattle.std.specs.List.{flat_map}
use Rattle.std.specs.Fmt.{digit_glyph}
use Rattle.std.specs.Str.{chars}
use Rattle.yl_text.specs.declared.finding.RuleId.{RuleId}
use Rattle.yl_text.specs.declared.position.Pos.{Pos}
use Rattle.yl_text.specs.Finding.{FindingValue, one_finding}

-- a control character as `\x` and two digits to base 16, in lower case; any other character in
-- UTF-8
abbrev pub printed_character : ℕ → List ℕ
printed_character c = if nat_lt c (code " ") || c == 0x7F
    then codes "\\x" ++ digit_glyph false (c / 16) ∷ digit_glyph false (c % 16) ∷ [] else encode_utf8 c

-- the finding at a place, which counts from 0, if there is one; the message is a name between words
abbrev pub name_finding : RuleId → Option Pos → List ℕ → List ℕ → List ℕ → List FindingValue
name_finding rule None front name back = []
name_finding rule (Some place) front name back = one_finding rule (place.line + 1) (place.col + 1)
    (front ++ (flat_map printed_character (chars name) ++ back))
