-- An edit between two places is made by lines.
use Rattle.std.proofs.Common.{◌≡◌, ◌≤◌, ◌+◌, ◌-◌, ℕ, List, length, sym, ◌∙◌, ap, subst, arith, Result, Ok, Err}
use Rattle.std.specs.Prelude.{OnOk, IfOk}
use Rattle.std.specs.List.{splice}
use Rattle.std.proofs.lemmas.List.{places}
use Rattle.yl_text.specs.declared.position.Pos.{Pos}
use Rattle.yl_text.specs.Lines.{RowValue, IsLines}
use Rattle.yl_text.specs.Store.{AreLines}
use Rattle.yl_text.specs.Edit.{edited_text, first_line}
use Rattle.yl_text.specs.PutLines.{CanPutLines, IsLineEdit, put_text, inserted_rows}
use Rattle.yl_text.proofs.Computed.{lines_of-is}
use Rattle.yl_text.proofs.Edited.{AreLines-edited}
use Rattle.yl_record.specs.Records.{characters_in}
use Rattle.yl_session.specs.State.{SessionValue, Shows}
use Rattle.yl_session.specs.declared.work.Work.{Work}
use Rattle.yl_session.specs.Work.{IsWork}
use Rattle.yl_session.specs.Runs.{IsEditWork}

-- how many lines come in, by how many there are before and after
count_put : (ps ns : List RowValue) (a b : ℕ) → a ≤ b → b ≤ length ps → length (splice ps a b ns) - (a + (length ps - b)) ≡ length ns
count_put ps ns a b ordered within = grind (arith, places)

-- the lines of the text after it are the old ones with those that come in
rows_put : (ps qs : List RowValue) (a b : ℕ) (t : List ℕ) → AreLines ps → CanPutLines ps a b t → IsLines (put_text ps a b t) qs → qs ≡ splice ps a b (inserted_rows ps b t)
rows_put ps qs a b t h can is = sym (lines_of-is (put_text ps a b t) qs is) ∙ lines_of-is (put_text ps a b t) (splice ps a b (inserted_rows ps b t)) (AreLines-edited ps a b t h can).1

-- what is shown then
pub shown_between : {E : Type 0} (s u : SessionValue) (from to : Pos) (t piece : List ℕ) (a b : ℕ) (r : Result Work E) → IsLineEdit s.rows from to t a b piece
    → OnOk r (Shows s.config (put_text s.rows a b piece) u) → OnOk r (Shows s.config (edited_text s.rows from to t) u)
shown_between s u from to t piece a b (Ok w) is shown = let P : List ℕ → Type 0 = λ x. Shows s.config x u in subst P is.same shown
shown_between s u from to t piece a b (Err e) is shown = tt

-- and what it took
pub work_between : {E : Type 0} (s u : SessionValue) (from to : Pos) (t piece : List ℕ) (a b : ℕ) (r : Result Work E) → AreLines s.rows → IsLineEdit s.rows from to t a b piece
    → OnOk r (Shows s.config (put_text s.rows a b piece) u)
    → IfOk r (λ work. IsWork (characters_in s.rows) (characters_in u.rows) a b (length (inserted_rows s.rows b piece)) work)
    → IfOk r (λ work. IsEditWork s.rows u.rows from to t work)
work_between s u from to t piece a b (Err e) h is shown work = tt
work_between s u from to t piece a b (Ok w) h is shown work =
    let ns = inserted_rows s.rows b piece in
    let left : ℕ → ℕ → ℕ = λ i j. length u.rows - (i + (length s.rows - j)) in
    let rows = rows_put s.rows u.rows a b piece h is.can shown.lines in
    let k : length ns ≡ left a b = sym (ap (λ (qs : List RowValue). length qs - (a + (length s.rows - b))) rows ∙ count_put s.rows ns a b is.can.range.ordered is.can.range.within) in
    let P : ℕ → Type 0 = λ n. IsWork (characters_in s.rows) (characters_in u.rows) a b n w in
    let Q : ℕ → Type 0 = λ i. IsWork (characters_in s.rows) (characters_in u.rows) i b (left i b) w in
    let R : ℕ → Type 0 = λ j. IsWork (characters_in s.rows) (characters_in u.rows) (first_line s.rows from) j (left (first_line s.rows from) j) w in
    subst R is.end (subst Q is.first (subst P k work))
