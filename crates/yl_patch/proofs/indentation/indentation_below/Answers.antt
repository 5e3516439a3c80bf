use Rattle.std.proofs.Common.{drop, take, ap, sym, subst, ◌∙◌}
use Rattle.yl_rules.specs.LevelOf.{level_of}
use Rattle.yl_indentation.specs.declared.measure.Measure.{Measure}
use Rattle.yl_indentation.specs.declared.options.IndentationOptions.{IndentationOptions}
use Rattle.yl_indentation.specs.Measures.{and_later}
use Rattle.yl_indentation.specs.Onward.{CountsEntriesOnceSeen}
use Rattle.yl_indentation.proofs.Onward.{both_count, facts_count}
use Rattle.yl_config.specs.Config.{levels_of, options_of}
use Rattle.yl_report.specs.Silence.{is_file_silenced_by, is_silenced_at}
use Rattle.yl_lint.specs.Onward.{indentation_in_sections}
use Rattle.yl_lint.specs.TextReport.{facts_in_sections}
use Rattle.yl_patch.specs.Seen.{measure_upto}
use Rattle.yl_found.proofs.FaultFound.{told_as}
use Rattle.yl_patch.proofs.indentation.indentation_below.Goals as goal

pub find_from-requires-clause-counts : goal.find_from-requires-clause-counts
find_from-requires-clause-counts g c =
    let edit = c.args.edit.now in
    let above = subst (λ (m : Measure). CountsEntriesOnceSeen m) (sym c.requires.above.whole) (facts_count (facts_in_sections (take edit.from edit.sections.now.items))) in
    let come = subst (λ (m : Measure). CountsEntriesOnceSeen m) (sym c.requires.come.whole) (facts_count (facts_in_sections edit.kept.now)) in
    subst (λ (m : Measure). CountsEntriesOnceSeen m) (sym c.and_later-before.ensures) (both_count edit.above.whole edit.come.whole above come)

pub returns : goal.returns
returns g c =
    let edit = c.args.edit.now in
    let config = c.args.config.now in
    let o = (options_of config).indentation in
    let s = c.none.result in
    let below = drop edit.end edit.sections.now.items in
    let there =
    c.in_ok-found.ensures
    ∙ (ap (λ (p : IndentationOptions). indentation_in_sections p c.args.line c.and_later-before.result below) c.indentation_options-options.ensures
    ∙ ap (λ (m : Measure). indentation_in_sections o c.args.line m below) (c.and_later-before.ensures ∙ ap (and_later edit.above.whole) c.requires.come.whole)) in
    c.in_ok-told.ensures
    ∙ told_as (level_of c.levels.result.now) (levels_of config) (is_file_silenced_by s) (is_silenced_at s) c.in_ok-found.found.items (indentation_in_sections o c.args.line (measure_upto edit.above.whole edit.kept.now) below) c.levels.ensures c.none.ensures.file
    c.none.ensures.lines there
