use Rattle.std.proofs.Common.{◌≡◌, map, take}
use Rattle.yl_piece_reports.specs.Told.{fact_above}
use Rattle.yl_section_pieces.proofs.summary.facts_above.Given as goal

abbrev pub invariant-loop-fact : goal.invariant-loop-fact
invariant-loop-fact g l = l.all.items ≡ map (fact_above 1) (take l.fact-index l.facts)
