use Rattle.std.proofs.Common.{◌≡◌, ◌++◌, length, true}
use Rattle.yl_dump.specs.Writing.{Leaves, states_left}
use Rattle.yl_dump.proofs.lines.write_states.Given as goal

abbrev pub invariant-loop-alloc : goal.invariant-loop-alloc
invariant-loop-alloc g l = record {
  states : l.scanner.states ≡ true;
  leaves : Leaves (g.W.Write.contents l.fn.out) (g.W.Write.contents l.out) (l.fn.page ++ states_left l.fn.scanner) (l.page ++ states_left l.scanner);
}

abbrev pub decreases-loop-alloc : goal.decreases-loop-alloc
decreases-loop-alloc g l = length l.scanner.rows
