-- The bytes of the rows that were taken so far, and those of the next one.
use Rattle.std.proofs.Common.{◌≡◌, ℕ, ◌+◌, List, ◌++◌, drop, Some, slice_get, sym, ap, ◌∙◌, append_assoc}
use Rattle.yl_text.specs.Lines.{RowValue, break_bytes, text_of}
use Rattle.yl_text.proofs.Seams.{drop_here}

pub row_taken : (rows : List RowValue) (i : ℕ) (p : RowValue) (taken with_text whole : List ℕ) → slice_get rows i ≡ Some p → taken ++ text_of (drop i rows) ≡ text_of rows
    → with_text ≡ taken ++ p.text → whole ≡ with_text ++ break_bytes p.end → whole ++ text_of (drop (i + 1) rows) ≡ text_of rows
row_taken rows i p taken with_text whole here so_far first second =
    let rest = text_of (drop (i + 1) rows) in
    let end = break_bytes p.end in
    ap (λ (xs : List ℕ). xs ++ rest) (second ∙ ap (λ (xs : List ℕ). xs ++ end) first) ∙ append_assoc (taken ++ p.text) end rest ∙ append_assoc taken p.text (end ++ rest)
    ∙ ap (λ (xs : List ℕ). taken ++ xs) (sym (append_assoc p.text end rest)) ∙ ap (λ (rs : List RowValue). taken ++ text_of rs) (sym (drop_here rows i p here)) ∙ so_far
