use Rattle.std.proofs.Common.{◌++◌, ◌∙◌, ap, List}
use Rattle.yl_text.specs.Finding.{FindingValue}
use Rattle.yl_indentation.specs.declared.measure.Measure.{Measure}
use Rattle.yl_indentation.specs.declared.options.IndentationOptions.{IndentationOptions}
use Rattle.yl_indentation.specs.Measures.{empty_measure}
use Rattle.yl_rules.specs.LevelOf.{level_of}
use Rattle.yl_config.specs.Config.{levels_of, options_of}
use Rattle.yl_report.specs.Silence.{is_file_silenced_by, is_silenced_at}
use Rattle.yl_lint.specs.TextReport.{findings_in_lines, findings_in_sections}
use Rattle.yl_found.proofs.FaultFound.{found_all, told_as}
use Rattle.yl_found.proofs.Given.{then_ok}
use Rattle.yl_summary.proofs.Walks.{measured}
use Rattle.yl_found.proofs.found.find_all.Goals as goal

pub returns : goal.returns
returns g c =
    let rows = g.L.Lines.rows c.args.lines.now in
    let ks = c.args.sections.now in
    let config = c.args.config.now in
    let o = options_of config in
    let s = c.none.result in
    let all =
    c.in_ok-push_all.ensures
    ∙ (ap (λ (fs : List FindingValue). fs ++ findings_in_sections c.indentation_options-options.result.now c.args.whole 0 empty_measure ks) c.in_ok-found.ensures
    ∙ (ap (λ (p : IndentationOptions). findings_in_lines o rows ++ findings_in_sections p c.args.whole 0 empty_measure ks) c.indentation_options-options.ensures
    ∙ ap (λ (w : Measure). findings_in_lines o rows ++ findings_in_sections o.indentation w 0 empty_measure ks) c.requires)) in
    then_ok c.arrange.result c.arrange.ensures (λ v e.
    e
    ∙ (told_as (level_of c.levels.result.now) (levels_of config) (is_file_silenced_by s) (is_silenced_at s) c.push_all.new.found.items (findings_in_lines o rows ++ findings_in_sections o.indentation (measured ks) 0 empty_measure ks) c.levels.ensures
    c.none.ensures.file c.none.ensures.lines all
    ∙ found_all config rows ks))
