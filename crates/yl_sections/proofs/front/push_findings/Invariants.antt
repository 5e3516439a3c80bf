use Rattle.std.proofs.Common.{◌≡◌, ◌++◌, drop}
use Rattle.yl_sections.proofs.front.push_findings.Given as goal

abbrev pub invariant-loop-finding : goal.invariant-loop-finding
invariant-loop-finding g l = l.all.items ++ drop l.finding-index l.findings ≡ l.fn.all.items ++ l.findings
