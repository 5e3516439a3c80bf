use Rattle.std.proofs.Common.{◌≡◌, ◌++◌, drop}
use Rattle.yl_piece_list.proofs.shorter.copied_facts.Given as goal

abbrev pub invariant-loop-fact : goal.invariant-loop-fact
invariant-loop-fact g l = l.copies.items ++ drop l.fact-index l.facts ≡ l.facts
