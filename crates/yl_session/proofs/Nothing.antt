-- An edit of nothing has none of the faults, and leaves the text.
use Rattle.std.proofs.Common.{◌≡◌, ℕ, List, [], ◌++◌, length, take, drop, sym, ap, subst, arith}
use Rattle.std.proofs.lemmas.List.{take-append-drop}
use Rattle.yl_text.specs.declared.position.Pos.{Pos}
use Rattle.yl_text.specs.Lines.{RowValue, text_of, IsLines}
use Rattle.yl_text.specs.Store.{AreLines}
use Rattle.yl_text.specs.declared.fault.TextFault.{TextFault}
use Rattle.yl_text.specs.declared.fault.TextFault.TheVariants.{NotUtf8, Range, TooLarge, Memory}
use Rattle.yl_text.specs.Edit.{IsEditRange, IsEditFault, offset, edited_text}
use Rattle.yl_session.specs.Runs.{IsNothing}

-- a text that is cut at one place is its two parts
uncut : (u t : List ℕ) (i j : ℕ) → i ≡ j → t ≡ [] → take i u ++ (t ++ drop j u) ≡ u
uncut u t i j e f = rw (e, f) (take-append-drop j u)

-- the text is its two parts
pub edited-nothing : (ps : List RowValue) (from to : Pos) (t : List ℕ) → IsNothing ps from to t → edited_text ps from to t ≡ text_of ps
edited-nothing ps from to t n = uncut (text_of ps) t (offset ps from) (offset ps to) n.0 n.1

-- the lines are those of the text after it
pub IsLines-nothing : (ps : List RowValue) (from to : Pos) (t : List ℕ) → AreLines ps → IsNothing ps from to t → IsLines (edited_text ps from to t) ps
IsLines-nothing ps from to t h n = let P : List ℕ → Type 0 = λ u. IsLines u ps in subst P (sym (edited-nothing ps from to t n)) h.lines

-- none of the faults stands
pub IsEditFault-nothing : (ps : List RowValue) (from to : Pos) (t : List ℕ) (f : TextFault) → AreLines ps → IsEditRange ps from to → IsNothing ps from to t → IsEditFault ps from to t f → ⊥
IsEditFault-nothing ps from to t (NotUtf8 k) h r n e = absurd (omega (arith, e.short, ap length n.1))
IsEditFault-nothing ps from to t Range h r n e = e.1 r
IsEditFault-nothing ps from to t TooLarge h r n e = absurd (omega (arith, e.2, h.short, ap length (edited-nothing ps from to t n)))
IsEditFault-nothing ps from to t Memory h r n e = e
