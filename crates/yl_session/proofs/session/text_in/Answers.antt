use Rattle.std.proofs.Common.{ℕ, List, ◌++◌, ap, ◌∙◌}
use Rattle.yl_text.specs.Lines.{break_bytes}
use Rattle.yl_session.proofs.Taken.{row_taken}
use Rattle.yl_session.proofs.session.text_in.Goals as goal

pub loop-i-preserved : goal.loop-i-preserved
loop-i-preserved g c =
    let text = c.loop-i.text.items in
    let with_text = c.extend_from_slice.new.self.items in
    row_taken (g.S.Lines.rows c.args.store.now) c.loop-i.i c.row-row.result.now text with_text c.extend_from_slice-in-loop-i.new.self.items c.row-row.ensures c.loop-i.invariant
    (c.in_ok-extend_from_slice.ensures.items ∙ ap (λ (xs : List ℕ). text ++ xs) (c.as_bytes.ensures.value ∙ c.as_str.ensures))
    (c.in_ok-extend_from_slice-2.ensures.items ∙ ap (λ (xs : List ℕ). with_text ++ xs) (c.as_bytes-in-loop-i.ensures ∙ ap break_bytes c.end.ensures))
