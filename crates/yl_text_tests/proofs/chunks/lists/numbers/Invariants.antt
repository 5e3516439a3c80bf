use Rattle.std.proofs.Common.{◌≡◌, ◌≤◌, vec_len, vec_capacity}
use Rattle.yl_text_tests.proofs.chunks.lists.numbers.Given as goal

abbrev pub invariant-loop-i : goal.invariant-loop-i
invariant-loop-i g l = (vec_len l.numbers ≡ l.i) × (l.count ≤ vec_capacity l.numbers)
