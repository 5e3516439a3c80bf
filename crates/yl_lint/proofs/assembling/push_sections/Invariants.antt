use Rattle.std.proofs.Common.{◌≡◌, ◌++◌, drop, map}
use Rattle.yl_indentation.specs.Measures.{empty_measure}
use Rattle.yl_lint.specs.TextReport.{findings_in_sections}
use Rattle.yl_lint.proofs.assembling.push_sections.Given as goal

abbrev pub invariant-loop-one : goal.invariant-loop-one
invariant-loop-one g l =
    l.found.items ++ findings_in_sections l.options l.whole l.line l.before (map (λ k. k.now) (drop l.one-index l.kept))
    ≡ l.fn.found.items ++ findings_in_sections l.options l.whole 0 empty_measure (map (λ k. k.now) l.kept)
