use Rattle.std.proofs.Common.{◌≡◌, ◌++◌, drop}
use Rattle.yl_indentation.specs.Measures.{empty_measure}
use Rattle.yl_lint.specs.TextReport.{findings_in_sections}
use Rattle.yl_found.proofs.found.push_all.Given as goal

abbrev pub invariant-loop-i : goal.invariant-loop-i
invariant-loop-i g l =
    l.found.items ++ findings_in_sections l.options l.whole l.line l.before (drop l.i l.sections) ≡ l.fn.found.items ++ findings_in_sections l.options l.whole 0 empty_measure l.sections
