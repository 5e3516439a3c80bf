use Rattle.std.proofs.Common.{◌≡◌, ◌≤◌, ◌∙◌, ◌++◌, ℕ, Bool, List, cond, inl, inr, length, take, drop, ap, sym, refl, subst, arith, rules, length-append}
use Rattle.std.proofs.lemmas.Bool.{cases_Bool, cond-true, cond-false}
use Rattle.std.proofs.lemmas.Slice.{pushed}
use Rattle.std.specs.Str.{IsUtf8}
use Rattle.yl_text.specs.Lines.{RowValue, row_bytes, break_bytes}
use Rattle.yl_text.specs.declared.position.Pos.{Pos}
use Rattle.yl_text.specs.Edit.{CanEdit, offset, front_at, back_at}
use Rattle.yl_text.specs.PutLines.{IsLineEdit}
use Rattle.yl_text.specs.Places.{line_bytes, IsBytePlace}
use Rattle.yl_text.proofs.ByBytes.{line_is, start_within}
use Rattle.yl_text.proofs.Fitting.{lines_are_few}
use Rattle.yl_text.proofs.LineEdits.{line_edit_is, put_together}
use Rattle.yl_text.proofs.places.line_edit.Goals as goal

pub end_of-end-requires : goal.end_of-end-requires
end_of-end-requires g c =
    let ps = g.S.Lines.rows c.args.lines.now in
    let at : IsBytePlace ps (offset ps c.args.to) c.unwrap-at.result.line c.unwrap-at.result.byte = search rules in
    let few = lines_are_few ps c.requires.lines in
    let line = at.line in
    omega arith

-- the bytes that come in are no more than the text after the edit
few_come : (ps : List RowValue) (from to : Pos) (t : List ℕ) → CanEdit ps from to t → length t ≤ 67108864
few_come ps from to t can = omega (arith, can.short, length-append (front_at ps from) (t ++ back_at ps to), length-append t (back_at ps to))

-- the bytes from which on the last line is put in again
rest_within : (kept : Bool) (size m r : ℕ) → r ≡ cond kept size m → m ≤ size → r ≤ size
rest_within kept size m r e l = elim (cases_Bool kept) [
  | inl stays ↦ omega (arith, e ∙ cond-true kept size m stays)
  | inr goes ↦ omega (arith, e ∙ cond-false kept size m goes)
]

pub overflow_sub-size : goal.overflow_sub-size
overflow_sub-size g c =
    let ps = g.S.Lines.rows c.args.lines.now in
    let at : IsBytePlace ps (offset ps c.args.to) c.unwrap-at.result.line c.unwrap-at.result.byte = search rules in
    let q = c.row-last.result.now in
    let size = ap length (line_is ps c.unwrap-at.result.line q c.row-last.ensures) ∙ length-append q.text (break_bytes q.end) in
    let within = at.cut.within in
    omega (arith, rest_within c.is_kept.result c.bytes.result c.unwrap-at.result.byte c.end_of-end.result.byte c.end_of-end.ensures.byte (omega (arith, c.bytes.ensures, size, within)), c.bytes.ensures, c.bytes-2.ensures)

pub overflow_add-size-2 : goal.overflow_add-size-2
overflow_add-size-2 g c =
    let ps = g.S.Lines.rows c.args.lines.now in
    let q = c.row-last.result.now in
    let size = ap length (line_is ps c.unwrap-at.result.line q c.row-last.ensures) ∙ length-append q.text (break_bytes q.end) in
    let most = few_come ps c.args.from c.args.to c.args.bytes.now c.requires.edit in
    let cut = c.front_cut-cut.ensures.cut.within in
    record { fits = omega (arith, start_within ps c.front_cut-cut.result.line, start_within ps c.unwrap-at.result.line, c.requires.lines.short, cut, most, size, c.bytes-2.ensures) }

pub put_front-requires-clause-within : goal.put_front-requires-clause-within
put_front-requires-clause-within g c =
    let ps = g.S.Lines.rows c.args.lines.now in
    let cut = c.front_cut-cut.ensures.cut.within in
    omega (arith, ap length (line_is ps c.front_cut-cut.result.line c.row.result.now c.row.ensures), cut)

pub put_rest-requires-clause-within : goal.put_rest-requires-clause-within
put_rest-requires-clause-within g c =
    let ps = g.S.Lines.rows c.args.lines.now in
    let at : IsBytePlace ps (offset ps c.args.to) c.unwrap-at.result.line c.unwrap-at.result.byte = search rules in
    let q = c.row-last.result.now in
    let size = ap length (line_is ps c.unwrap-at.result.line q c.row-last.ensures) in
    let within = at.cut.within in
    omega (arith, rest_within c.is_kept.result c.bytes.result c.unwrap-at.result.byte c.end_of-end.result.byte c.end_of-end.ensures.byte (omega (arith, c.bytes.ensures, size, within, length-append q.text (break_bytes q.end))), c.bytes.ensures, length-append q.text (break_bytes q.end))

pub returns : goal.returns
returns g c =
    let ps = g.S.Lines.rows c.args.lines.now in
    let t = c.args.bytes.now in
    let a = c.front_cut-cut.result.line in
    let k = c.front_cut-cut.result.byte in
    let j = c.unwrap-at.result.line in
    let m = c.unwrap-at.result.byte in
    let r = c.end_of-end.result.byte in
    let first = line_is ps a c.row.result.now c.row.ensures in
    let last = line_is ps j c.row-last.result.now c.row-last.ensures in
    let size : c.bytes.result ≡ length (line_bytes ps j) = c.bytes.ensures ∙ sym (ap length last ∙ length-append c.row-last.result.now.text (break_bytes c.row-last.result.now.end)) in
    let at : IsBytePlace ps (offset ps c.args.to) j m = search rules in
    let rest : r ≡ cond c.is_kept.result (length (line_bytes ps j)) m = c.end_of-end.ensures.byte ∙ ap (λ (n : ℕ). cond c.is_kept.result n m) size in
    let made = line_edit_is ps c.args.from c.args.to t a c.end_of-end.result.line k j m r c.is_kept.result c.requires.lines c.requires.edit c.front_cut-cut.ensures at c.is_kept.ensures c.end_of-end.ensures.line rest
    (subst IsUtf8 (sym first) c.put_front.ensures.utf8) (subst IsUtf8 (sym last) c.put_rest.ensures.utf8) in
    let more : c.extend_from_slice.new.self.items ≡ c.put_front.new.piece.items ++ t = pushed t refl c.unwrap.ensures c.extend_from_slice.ensures.items in
    let items = put_together (take k (line_bytes ps a)) t (drop r (line_bytes ps j)) (take k (row_bytes c.row.result.now)) (drop r (row_bytes c.row-last.result.now)) c.in_ok-piece.piece.items c.put_front.new.piece.items c.extend_from_slice.new.self.items c.put_rest.new.piece.items
    c.in_ok-piece.ensures.items c.put_front.ensures.items more c.put_rest.ensures.items (ap (λ (bs : List ℕ). take k bs) (sym first)) (ap (λ (bs : List ℕ). drop r bs) (sym last)) in
    subst (λ (piece : List ℕ). IsLineEdit ps c.args.from c.args.to t a c.end_of-end.result.line piece) (sym items) made
