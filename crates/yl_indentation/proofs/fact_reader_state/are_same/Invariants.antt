use Rattle.std.proofs.Common.{◌≡◌, length, take}
use Rattle.yl_indentation.proofs.fact_reader_state.are_same.Given as goal

abbrev pub invariant-loop-opened : goal.invariant-loop-opened
invariant-loop-opened l = take (length l.yielded) l.one ≡ take (length l.yielded) l.other
