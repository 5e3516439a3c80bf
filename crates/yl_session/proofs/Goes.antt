-- A list of edits goes on by one edit.
use Rattle.std.proofs.Common.{◌≡◌, ℕ, List, [], ◌∷◌, ◌++◌, Result, Ok, Err, refl, subst, sym}
use Rattle.yl_text.specs.declared.fault.TextFault.{TextFault}
use Rattle.std.specs.Prelude.{OnOk, OnErr}
use Rattle.yl_text.specs.Lines.{RowValue, lines_of}
use Rattle.yl_text.specs.Edit.{edited_text}
use Rattle.yl_text.proofs.Computed.{lines_of-is}
use Rattle.yl_config.specs.declared.config.Config.{Config}
use Rattle.yl_session.specs.State.{SessionValue, Shows}
use Rattle.yl_session.specs.declared.work.Work.{Work}
use Rattle.yl_session.specs.Runs.{EditValue, IsAnswer, text_after, text_after_all, AreAnswers, Replayed}

pub left_by-push : (t : List ℕ) (es : List EditValue) (rs : List (Result Work TextFault)) (e : EditValue) (r : Result Work TextFault) → AreAnswers t es rs → text_after_all t (es ++ e ∷ []) (rs ++ r ∷ []) ≡ text_after (text_after_all t es rs) e r
left_by-push t [] [] e r h = refl
left_by-push t [] (q ∷ rs) e r h = absurd h
left_by-push t (d ∷ es) [] e r h = absurd h
left_by-push t (d ∷ es) (q ∷ rs) e r h = left_by-push (text_after t d q) es rs e r h.1

pub AreAnswers-push : (t : List ℕ) (es : List EditValue) (rs : List (Result Work TextFault)) (e : EditValue) (r : Result Work TextFault) → AreAnswers t es rs → IsAnswer (lines_of (text_after_all t es rs)) e.from e.to e.bytes r → AreAnswers t (es ++ e ∷ []) (rs ++ r ∷ [])
AreAnswers-push t [] [] e r h k = (k, tt)
AreAnswers-push t [] (q ∷ rs) e r h k = absurd h
AreAnswers-push t (d ∷ es) [] e r h k = absurd h
AreAnswers-push t (d ∷ es) (q ∷ rs) e r h k = (h.0, AreAnswers-push (text_after t d q) es rs e r h.1 k)

-- what is shown after the edit is shown of the text after it
Shows-after : (c : Config) (t : List ℕ) (e : EditValue) (r : Result Work TextFault) (s u : SessionValue) → Shows c t s → OnOk r (Shows s.config (edited_text s.rows e.from e.to e.bytes) u) → OnErr r (u ≡ s) → Shows c (text_after t e r) u
Shows-after c t e (Ok work) s u h done same =
    let P : List RowValue → Type 0 = λ ps. Shows s.config (edited_text ps e.from e.to e.bytes) u in
    let Q : Config → Type 0 = λ o. Shows o (edited_text (lines_of t) e.from e.to e.bytes) u in
    subst Q h.config (subst P (sym (lines_of-is t s.rows h.lines)) done)
Shows-after c t e (Err fault) s u h done same = let P : SessionValue → Type 0 = λ x. Shows c t x in subst P (sym same) h

pub Replayed-push : (c : Config) (t : List ℕ) (es : List EditValue) (rs : List (Result Work TextFault)) (s : SessionValue) (e : EditValue) (r : Result Work TextFault) (u : SessionValue)
    → Replayed c t es rs s → IsAnswer s.rows e.from e.to e.bytes r → OnOk r (Shows s.config (edited_text s.rows e.from e.to e.bytes) u) → OnErr r (u ≡ s)
    → Replayed c t (es ++ e ∷ []) (rs ++ r ∷ []) u
Replayed-push c t es rs s e r u h answer done same =
    let P : List RowValue → Type 0 = λ ps. IsAnswer ps e.from e.to e.bytes r in
    let Q : List ℕ → Type 0 = λ x. Shows c x u in
    record {
      answered = AreAnswers-push t es rs e r h.answered (subst P (sym (lines_of-is (text_after_all t es rs) s.rows h.shown.lines)) answer);
      shown = subst Q (sym (left_by-push t es rs e r h.answered)) (Shows-after c (text_after_all t es rs) e r s u h.shown done same);
    }
