use Rattle.std.proofs.Common.{◌++◌, List, map, ap, ◌∙◌}
use Rattle.std.proofs.lemmas.Result.{on_ok_weaker}
use Rattle.yl_text.specs.Finding.{FindingValue}
use Rattle.yl_indentation.specs.declared.measure.Measure.{Measure}
use Rattle.yl_indentation.specs.Measures.{and_later}
use Rattle.yl_indentation.specs.Problems.{indent_problems}
use Rattle.yl_indentation.proofs.Onward.{problems_of_these}
use Rattle.yl_lint.specs.TextReport.{moved}
use Rattle.yl_patch.proofs.indentation.push_indentation_onward.Goals as goal

pub returns : goal.returns
returns g c =
    let o = c.args.options.now in
    let k = c.args.one.now in
    let before = c.args.before in
    on_ok_weaker c.push_indentation.result
    (λ e.
    e ∙ ap (λ (fs : List FindingValue). c.args.found.now.items ++ map (moved c.args.line) fs)
    (ap (λ (m : Measure). indent_problems o before m k.facts) (c.and_later-upto.ensures ∙ ap (and_later before) c.measure.ensures) ∙ problems_of_these o before k.facts c.requires))
    c.push_indentation.ensures
