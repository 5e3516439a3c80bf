use Rattle.std.proofs.Common.{◌+◌, ◌<◌, ◌^◌, false, List, length, take, drop, arith, ap, refl, sym, ◌∙◌}
use Rattle.std.specs.Prelude.{is_none}
use Rattle.std.proofs.lemmas.Bool.{and_parts}
use Rattle.std.specs.List.{splice}
use Rattle.yl_text.specs.Lines.{RowValue}
use Rattle.yl_config.specs.Config.{levels_of, options_of}
use Rattle.yl_report.specs.Heard.{nothing_silenced}
use Rattle.yl_report.specs.Report.{report_of}
use Rattle.yl_problem_lists.specs.Changes.{patch_in}
use Rattle.yl_problem_lists.specs.Parts.{PartsValue, parted}
use Rattle.yl_sections.specs.Kept.{KeptValue, rows_kept}
use Rattle.yl_found.specs.Found.{fault_told}
use Rattle.yl_found.specs.ShownUpto.{is_shown_upto}
use Rattle.yl_found.proofs.FaultFound.{told_none}
use Rattle.yl_summary.proofs.Whole.{none_first}
use Rattle.yl_edited_lines.proofs.FewLines.{few_lines}
use Rattle.yl_patch.proofs.PatchReady.{ready_for}
use Rattle.yl_patch.proofs.SeenPatch.{says_indentation, seen_patch}
use Rattle.yl_patch.proofs.ShownBy.{below_says, told_in, told_where}
use Rattle.yl_found.proofs.WithoutFaults.{all_below}
use Rattle.yl_patch.proofs.Again.{indentation_told, judged_ready}
use Rattle.yl_patch.specs.Seen.{AreFoundAlike, measure_upto, sections_between}
use Rattle.yl_problem_lists.specs.Showing.{is_shown_by}
use Rattle.yl_summary.proofs.Walks.{rows_both}
use Rattle.yl_problem_lists.proofs.Lines.{part}
use Rattle.yl_patch.proofs.patching.patched_problems.Goals as goal

pub returns-clause-ready : goal.returns-clause-ready
returns-clause-ready g c =
    let config = c.args.config.now in
    let text = c.args.text.now in
    let rows = g.S.Lines.rows text.store.now in
    let edit = c.args.edit.now in
    let ks = edit.sections.now.items in
    let t = c.in_ok-seen.seen.touched in
    let seen = c.in_ok-seen.ensures in
    let o = c.before-before.result in
    let known = c.before-before.ensures in
    let below = all_below ks edit.end c.requires.plain in
    let whole = part edit.end ks in
    let few : t.old_end + rows_kept (drop edit.end ks) < 2 ^ 63 = omega (arith, seen.cut.old_end, rows_both (take edit.end ks) (drop edit.end ks), ap rows_kept whole, c.requires.edit.few.rows) in
    ready_for config rows ks (record {
      first = t.first;
      old_end = t.old_end;
      new_end = t.new_end;
      shown = c.in_ok-parts.parts.shown;
      suppressed = c.in_ok-parts.parts.suppressed;
      indentation = c.in_ok-indentation.indentation;
      below = c.in_ok-below.below;
      had_fault = c.has_fault.result;
      fault = c.in_ok-fault.fault;
    }) c.requires.plain (omega (arith, few_lines rows c.requires.text.old)) (omega (arith, c.requires.edit.few.rows)) (omega (arith, seen.cut.inside.old_some))
    (record {
      indentation = judged_ready c.in_ok-indentation.indentation (AreFoundAlike (measure_upto edit.above.whole (sections_between edit.from edit.end ks)) (measure_upto edit.above.whole edit.kept.now) (drop edit.end ks)) t.old_end _ (indentation_told (levels_of config) (options_of config).indentation t.old_end (measure_upto edit.above.whole edit.kept.now) (drop edit.end ks) below few) c.in_ok-indentation.ensures;
      below = told_where c.in_ok-indentation.indentation c.in_ok-below.below c.is_known_below-is_known.result c.in_ok-stays.stays c.edited-edited.result c.survey-survey.result.sections c.is_known_below-is_known.ensures c.in_ok-below.ensures;
    })
    (λ h. told_none config rows ks o.sound o.row c.requires.plain known.first (none_first ks o.sound o.row known.first (sym (c.has_fault.ensures ks known) ∙ h)))

pub returns-clause-parts : goal.returns-clause-parts
returns-clause-parts g c =
    let config = c.args.config.now in
    let text = c.args.text.now in
    let rows = g.S.Lines.rows text.store.now in
    let ins = text.rows.now in
    let edit = c.args.edit.now in
    let ks = edit.sections.now.items in
    let new = edit.kept.now in
    let after = splice rows text.a text.b ins in
    let kept = splice ks edit.from edit.end new in
    let t = c.in_ok-seen.seen.touched in
    let found = c.in_ok-seen.seen.found.items in
    let n = edit.from + length new in
    let put = report_of (levels_of config) false nothing_silenced found in
    let seen = c.in_ok-seen.ensures in
    let edited = c.edited-edited.ensures in
    let sections = c.survey-survey.ensures.sections in
    let range = c.requires.text.range in
    let there = c.requires.edit.range in
    let parts =
    c.in_ok-parts.ensures
    ∙ (ap (λ (xs : List RowValue). parted (is_shown_upto n xs c.survey-survey.result.sections) put) edited ∙ ap (λ (ls : List KeptValue). parted (is_shown_upto n after ls) put) sections) in
    let fault =
    c.in_ok-fault.ensures ∙ (ap (λ (xs : List RowValue). fault_told config xs c.survey-survey.result.sections) edited ∙ ap (λ (ls : List KeptValue). fault_told config after ls) sections) in
    seen_patch config rows ins ks new text.a text.b edit.from edit.end t found seen range.ordered range.within there.ordered there.within c.requires.plain c.requires.plain_then n (is_shown_upto n after kept)
    (patch_in (record {
      first = t.first;
      old_end = t.old_end;
      new_end = t.new_end;
      shown = c.in_ok-parts.parts.shown;
      suppressed = c.in_ok-parts.parts.suppressed;
      indentation = c.in_ok-indentation.indentation;
      below = c.in_ok-below.below;
      had_fault = c.has_fault.result;
      fault = c.in_ok-fault.fault;
    }))
    (omega arith) (λ q. refl) refl refl refl
    (says_indentation config rows ins ks new text.a text.b edit.from edit.end t found seen range.ordered range.within there.ordered there.within c.requires.plain c.requires.plain_then c.in_ok-indentation.indentation edit.above.whole c.requires.edit.above.whole c.in_ok-indentation.ensures)
    (told_in c.in_ok-indentation.indentation c.in_ok-below.below (λ s. is_shown_by s) (told_where c.in_ok-indentation.indentation c.in_ok-below.below c.is_known_below-is_known.result c.in_ok-stays.stays c.edited-edited.result c.survey-survey.result.sections c.is_known_below-is_known.ensures c.in_ok-below.ensures))
    (ap (λ (ps : PartsValue). ps.shown) parts) (ap (λ (ps : PartsValue). ps.suppressed) parts)
    (below_says c.in_ok-below.below c.is_known_below-is_known.result rows after c.edited-edited.result ks new c.survey-survey.result.sections edit.from edit.end edited sections c.in_ok-below.ensures
    (λ h. c.in_ok-stays.ensures (and_parts c.in_ok-stays.stays (is_none c.in_ok-indentation.indentation) (sym c.is_known_below-is_known.ensures ∙ h)).0)) fault
