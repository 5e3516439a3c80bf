-- Walks over some lines of a text.
use Rattle.std.proofs.Common.{◌≡◌, ℕ, zero, suc, ◌+◌, ◌-◌, ◌<◌, List, [], ◌∷◌, length, take, drop, Some, ap, sym, refl, ◌∙◌, arith}
use Rattle.std.specs.List.{slice_get}
use Rattle.std.proofs.lemmas.List.{length-take}
use Rattle.yl_text.specs.Lines.{RowValue}

-- the row at a place of some lines
pub row_within : (rows : List RowValue) (from end i : ℕ) (row : RowValue) → i < length (take (end - from) (drop from rows)) → slice_get rows (from + i) ≡ Some row → slice_get (take (end - from) (drop from rows)) i ≡ Some row
row_within rows from end i row l h = taken (drop from rows) (end - from) i row l (sym (dropped rows from i) ∙ h)
  where
    dropped : (xs : List RowValue) (n k : ℕ) → slice_get xs (n + k) ≡ slice_get (drop n xs) k
    dropped xs zero k = ap (λ m. slice_get xs m) (omega arith)
    dropped [] (suc n) k = refl
    dropped (x ∷ xs) (suc n) k = ap (λ m. slice_get (x ∷ xs) m) (shift n k) ∙ dropped xs n k
      where
        shift : (n k : ℕ) → suc n + k ≡ suc (n + k)
        shift n k = omega arith

    taken : (xs : List RowValue) (n k : ℕ) (row : RowValue) → k < length (take n xs) → slice_get xs k ≡ Some row → slice_get (take n xs) k ≡ Some row
    taken [] zero k row l h = h
    taken [] (suc n) k row l h = h
    taken (x ∷ xs) zero k row l h = absurd (omega (arith, l))
    taken (x ∷ xs) (suc n) zero row l h = h
    taken (x ∷ xs) (suc n) (suc k) row l h = taken xs n k row (omega (arith, l)) h

pub few_within : (rows : List RowValue) (from end i : ℕ) → i < length (take (end - from) (drop from rows)) → i < end - from
few_within rows from end i l = omega (arith, l, length-take (end - from) (drop from rows))
