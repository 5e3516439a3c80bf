use Rattle.std.proofs.Common.{◌-◌, List, map, take, drop, ap, sym, subst, ◌∙◌}
use Rattle.std.specs.List.{splice}
use Rattle.yl_text.specs.Lines.{RowValue}
use Rattle.yl_indentation.specs.declared.measure.Measure.{Measure}
use Rattle.yl_config.specs.Config.{options_of}
use Rattle.yl_indentation.specs.Onward.{CountsEntriesOnceSeen}
use Rattle.yl_indentation.proofs.Onward.{facts_count}
use Rattle.yl_lint.specs.TextReport.{facts_in_sections, moved}
use Rattle.yl_sections.specs.Kept.{rows_kept}
use Rattle.yl_patch.proofs.Given.{is_cut, same_there, window_fits}
use Rattle.yl_summary.proofs.Walks.{measured}
use Rattle.yl_patch.proofs.seen.see_edit.Goals as goal

pub new-window-requires : goal.new-window-requires
new-window-requires g c =
    let text = c.args.text.now in
    let rows = g.S.Lines.rows text.store.now in
    let edit = c.args.edit.now in
    let kept = edit.sections.now.items in
    let t = c.find_touched-touched in
    let cut = is_cut rows text.rows.now text.a text.b (rows_kept (take edit.from kept)) (rows_kept (take edit.end kept)) (rows_kept edit.kept.now) c.len.result t.result c.ends_of-ends.result c.requires.apart t.ensures.first t.ensures.old_end t.ensures.new_end c.len.ensures c.ends_of-ends.ensures.begins c.ends_of-ends.ensures.ends in
    window_fits rows text.rows.now c.edited.result text.a text.b t.result c.requires.text.range.ordered c.requires.text.range.within cut.inside c.edited.ensures

pub find_there-requires : goal.find_there-requires
find_there-requires g c =
    let edit = c.args.edit.now in
    subst (λ (m : Measure). CountsEntriesOnceSeen m) (sym c.requires.edit.above.whole) (facts_count (facts_in_sections (take edit.from edit.sections.now.items)))

pub returns : goal.returns
returns g c =
    let text = c.args.text.now in
    let rows = g.S.Lines.rows text.store.now in
    let t = c.find_touched-touched.result in
    let here = c.find_touched-touched.ensures in
    let e = c.ends_of-ends.result in
    let edit = c.args.edit.now in
    let kept = edit.sections.now.items in
    let o = options_of c.args.config.now in
    let above = c.requires.edit.above.whole in
    let qs = take (t.new_end - t.first) (drop t.first (splice rows text.a text.b text.rows.now)) in
    let window = c.new-window.ensures ∙ ap (λ (xs : List RowValue). take (t.new_end - t.first) (drop t.first xs)) c.edited.ensures in record {
      ends = e;
      cut = is_cut rows text.rows.now text.a text.b (rows_kept (take edit.from kept)) (rows_kept (take edit.end kept)) (rows_kept edit.kept.now) c.len.result t e c.requires.apart here.first here.old_end here.new_end c.len.ensures c.ends_of-ends.ensures.begins c.ends_of-ends.ensures.ends;
      there = c.in_ok-found.ensures ∙ ap (map (moved t.first)) (same_there o e edit.above.whole (measured (take edit.from kept)) c.new-window.result qs edit.kept.now above window);
    }
