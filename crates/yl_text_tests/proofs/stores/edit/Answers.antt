use Rattle.std.proofs.Common.{◌≡◌, ℕ, List, length, ap, subst, sym, ◌∙◌, ltb}
use Rattle.std.specs.List.{splice}
use Rattle.yl_text.specs.declared.position.Pos.{Pos}
use Rattle.yl_text.specs.Lines.{RowValue}
use Rattle.yl_text.specs.Store.{AreLines}
use Rattle.yl_text.specs.PutLines.{EditIsSplice, IsLineEdit, inserted_rows, incoming_lines}
use Rattle.yl_text_tests.proofs.stores.edit.Goals as goal

arrives : EditIsSplice → (ps ns : List RowValue) (from to : Pos) (t piece : List ℕ) (a b n : ℕ) → AreLines ps → IsLineEdit ps from to t a b piece → n ≡ length ps → ns ≡ incoming_lines (ltb b n) piece → AreLines (splice ps a b ns)
arrives law ps ns from to t piece a b n h e l i =
    let is : ns ≡ inserted_rows ps b piece = i ∙ ap (λ (k : ℕ). incoming_lines (ltb b k) piece) l in
    let P : List RowValue → Type 0 = λ qs. AreLines (splice ps a b qs) in
    subst P (sym is) (law ps from to t a b piece h e).1

pub splice-answer-requires-clause-lines : goal.splice-answer-requires-clause-lines
splice-answer-requires-clause-lines g c =
    let ps = g.S.Lines.rows c.args.store.now in
    let made = c.in-Ok.made in
    let is : IsLineEdit ps c.args.from c.args.to c.args.bytes.now made.first made.end made.bytes.items = c.in-Ok.ensures in
    let rows : c.in_ok-rows.rows.items ≡ incoming_lines (ltb made.end c.len.result) made.bytes.items = c.in_ok-rows.ensures ∙ ap (λ (t : List ℕ). incoming_lines (ltb made.end c.len.result) t) c.as_slice.ensures.value in
    arrives c.one_answer_to_an_edit.ensures.splice ps c.in_ok-rows.rows.items c.args.from c.args.to c.args.bytes.now made.bytes.items made.first made.end c.len.result c.requires is c.len.ensures rows
