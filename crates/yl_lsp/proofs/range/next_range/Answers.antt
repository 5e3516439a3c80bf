use Rattle.std.proofs.Common.{◌≡◌, ℕ, min, length, ap, subst, ◌∙◌}
use Rattle.yl_text.specs.declared.position.Pos.{Pos}
use Rattle.yl_units.specs.declared.place.EditorPlace.{EditorPlace}
use Rattle.yl_units.specs.Places.{row_chars, told_place}
use Rattle.yl_units.proofs.Rows.{told_is}
use Rattle.yl_lsp.specs.declared.range.Range.{Range}
use Rattle.yl_lsp.specs.Words.{end_column}
use Rattle.yl_lsp.proofs.Spans.{same_told, end_clamped}
use Rattle.yl_lsp.proofs.range.next_range.Goals as goal

pub returns-clause-range : goal.returns-clause-range
returns-clause-range g c =
    let ps = g.S.Lines.rows c.args.lines.now in
    let e = c.args.encoding in
    let line = c.args.line in
    let col = c.args.col in
    let rule = c.args.rule in
    let row = row_chars ps line in
    let start = c.go_to-start in
    let last = c.end_column.result in
    let at : ℕ → Pos = λ k. record { line = line; col = k } in
    let from : c.told-from.result ≡ told_place e ps (at col) = c.told-from.ensures ∙ told_is e ps start.result (at col) start.ensures.reached start.ensures.at_line start.ensures.at_col in
    let P : ℕ → Type 0 = λ i. min last (length (row_chars ps i)) ≡ min (end_column rule (row_chars ps i) start.result.col) (length (row_chars ps i)) in
    let ends : min last (length row) ≡ min (end_column rule row col) (length row) =
    subst P start.ensures.at_line c.end_column.ensures ∙ ap (λ k. min (end_column rule row k) (length row)) start.ensures.at_col ∙ end_clamped rule row col in
    let to : c.told-to.result ≡ told_place e ps (at (end_column rule row col)) =
    c.told-to.ensures ∙ told_is e ps c.go_to-end.result (at last) c.go_to-end.ensures.reached c.go_to-end.ensures.at_line c.go_to-end.ensures.at_col ∙ same_told e ps line last (end_column rule row col) ends in
    let range : EditorPlace → EditorPlace → Range = λ a b. record { start = a; end = b } in
    ap (λ a. range a c.told-to.result) from ∙ ap (λ b. range (told_place e ps (at col)) b) to
