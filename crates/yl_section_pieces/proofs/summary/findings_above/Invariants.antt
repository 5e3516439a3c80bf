use Rattle.std.proofs.Common.{◌≡◌, ◌++◌, map}
use Rattle.yl_piece_reports.specs.Told.{finding_above}
use Rattle.yl_section_pieces.proofs.summary.findings_above.Given as goal

abbrev pub invariant-loop-finding : goal.invariant-loop-finding
invariant-loop-finding g l = l.all.items ++ map (finding_above 1) l.finding-iterator.rest.items ≡ map (finding_above 1) l.fn.findings.items
