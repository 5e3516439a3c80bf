use Rattle.std.proofs.Common.{◌∙◌, ap, List, refl}
use Rattle.std.specs.Prelude.{Bool}
use Rattle.yl_rules.specs.LevelOf.{level_of}
use Rattle.yl_config.specs.Config.{levels_of}
use Rattle.yl_report.specs.Report.{ProblemValue}
use Rattle.yl_report.specs.Silence.{is_file_silenced_by, is_silenced_at}
use Rattle.yl_problem_lists.specs.Parts.{parted}
use Rattle.yl_found.specs.ShownUpto.{is_shown_upto}
use Rattle.yl_found.proofs.FaultFound.{told_as}
use Rattle.yl_found.proofs.Given.{then_ok}
use Rattle.yl_patch.proofs.patching.part_found.Goals as goal

pub returns : goal.returns
returns g c =
    let rows = g.L.Lines.rows c.args.lines.now in
    let ks = c.args.survey.now.sections in
    let s = c.none.result in
    let there = c.in_ok-there.ensures ∙ told_as (level_of c.levels.result.now) (levels_of c.args.config.now) (is_file_silenced_by s) (is_silenced_at s) c.args.found.items c.args.found.items c.levels.ensures c.none.ensures.file c.none.ensures.lines refl in
    then_ok c.part.result c.part.ensures (λ f e.
    e ∙ (ap (λ (p : ProblemValue → Bool). parted p c.in_ok-there.there.items) c.in_ok-showing.ensures ∙ ap (λ (ps : List ProblemValue). parted (is_shown_upto c.args.upto rows ks) ps) there))
