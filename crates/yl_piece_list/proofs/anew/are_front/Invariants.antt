use Rattle.yl_rejudge.specs.Documents.{AreFront}
use Rattle.yl_piece_list.proofs.anew.are_front.Given as goal

abbrev pub invariant-loop-i : goal.invariant-loop-i
invariant-loop-i g l = AreFront l.records.items l.x l.from l.i
