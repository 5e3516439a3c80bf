use Rattle.std.proofs.Common.{◌≡◌, ◌+◌, length}
use Rattle.std.specs.Str.{encode_utf8_all}
use Rattle.yl_text.proofs.places.walk_one_by_one.Given as goal

abbrev pub invariant-loop-c : goal.invariant-loop-c
invariant-loop-c l = (l.byte ≡ length (encode_utf8_all l.yielded)) × (l.left + length l.yielded ≡ l.characters)
