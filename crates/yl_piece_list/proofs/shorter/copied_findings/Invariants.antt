use Rattle.std.proofs.Common.{◌≡◌, ◌++◌, drop}
use Rattle.yl_piece_list.proofs.shorter.copied_findings.Given as goal

abbrev pub invariant-loop-finding : goal.invariant-loop-finding
invariant-loop-finding g l = l.copies.items ++ drop l.finding-index l.findings ≡ l.findings
