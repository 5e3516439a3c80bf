use Rattle.std.proofs.Common.{◌++◌, List, ap, ◌∙◌}
use Rattle.std.proofs.lemmas.Result.{on_ok_weaker}
use Rattle.yl_text.specs.Finding.{FindingValue}
use Rattle.yl_indentation.specs.Measures.{and_later}
use Rattle.yl_edited_lines.proofs.Pushed.{section_onward}
use Rattle.yl_edited_lines.proofs.there.push_section_onward.Goals as goal

pub returns : goal.returns
returns g c =
    on_ok_weaker c.push_section.result
    (λ e. e ∙ ap (λ (fs : List FindingValue). c.args.found.now.items ++ fs) (section_onward c.args.options.now c.and_later-upto.result c.args.line c.args.before c.args.one.now (c.and_later-upto.ensures ∙ ap (and_later c.args.before) c.measure.ensures) c.requires))
    c.push_section.ensures
