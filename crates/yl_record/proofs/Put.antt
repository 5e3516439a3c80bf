-- A lexeme and a fault, put into the record of a row.
use Rattle.std.proofs.Common.{◌≡◌, ℕ, zero, suc, ◌<◌, List, [], ◌∷◌, length, map, set, get_or, refl, ap, sym, ◌∙◌, arith}
use Rattle.std.specs.Prelude.{Result, Ok, Err, OnOk}
use Rattle.yl_lexeme.specs.Lexeme.{LexemeValue}
use Rattle.yl_row.specs.declared.fault.PlacedScanFault.{PlacedScanFault}
use Rattle.yl_scan.specs.Settled.{with_last}
use Rattle.yl_record.specs.Parts.{entries_in, entry_with_fault, entry_with_last, indentations_in, with_fault_in}
use Rattle.yl_record.specs.Records.{RecordValue}

pub on_ok : {T E : Type 0} (r : Result T E) (P Q : Type 0) → OnOk r P → (P → Q) → OnOk r Q
on_ok (Ok x) P Q h f = f h
on_ok (Err e) P Q h f = tt

pub both_ok : {T E : Type 0} (r : Result T E) (P Q : Type 0) → OnOk r P → OnOk r Q → OnOk r (P × Q)
both_ok (Ok x) P Q h k = (h, k)
both_ok (Err e) P Q h k = tt

pub last_put : (rs : List RecordValue) (at : ℕ) (r r' : RecordValue) (x : LexemeValue) → at < length rs → r ≡ get_or rs at r → r' ≡ record { indentation = r.indentation; entry = entry_with_last x r.entry }
    → entries_in (set rs at r') ≡ with_last at x (entries_in rs)
last_put [] at r r' x lt is new = absurd (omega (arith, lt))
last_put (y ∷ rs) zero r r' x lt is new = ap (λ (q : RecordValue). q.entry ∷ entries_in rs) new ∙ ap (λ (q : RecordValue). entry_with_last x q.entry ∷ entries_in rs) is
last_put (y ∷ rs) (suc n) r r' x lt is new = ap (λ ys. y.entry ∷ ys) (last_put rs n r r' x (omega (arith, lt)) is new)

pub fault_put_in : (rs : List RecordValue) (at : ℕ) (r r' : RecordValue) (f : PlacedScanFault) → at < length rs → r ≡ get_or rs at r → r' ≡ record { indentation = r.indentation; entry = entry_with_fault f r.entry }
    → entries_in (set rs at r') ≡ with_fault_in at f (entries_in rs)
fault_put_in [] at r r' f lt is new = absurd (omega (arith, lt))
fault_put_in (y ∷ rs) zero r r' f lt is new = ap (λ (q : RecordValue). q.entry ∷ entries_in rs) new ∙ ap (λ (q : RecordValue). entry_with_fault f q.entry ∷ entries_in rs) is
fault_put_in (y ∷ rs) (suc n) r r' f lt is new = ap (λ ys. y.entry ∷ ys) (fault_put_in rs n r r' f (omega (arith, lt)) is new)

pub indentations_stay : (rs : List RecordValue) (at : ℕ) (r r' : RecordValue) → at < length rs → r ≡ get_or rs at r → r'.indentation ≡ r.indentation → indentations_in (set rs at r') ≡ indentations_in rs
indentations_stay [] at r r' lt is new = absurd (omega (arith, lt))
indentations_stay (y ∷ rs) zero r r' lt is new = ap (λ n. n ∷ indentations_in rs) (new ∙ ap (λ (q : RecordValue). q.indentation) is)
indentations_stay (y ∷ rs) (suc n) r r' lt is new = ap (λ ys. y.indentation ∷ ys) (indentations_stay rs n r r' (omega (arith, lt)) is new)
