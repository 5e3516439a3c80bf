-- A search in sorted lines.
use Rattle.std.proofs.Common.{◌≡◌, ◌<◌, ◌≤◌, ◌⊎◌, inl, inr, ℕ, List, length, get_or, arith, Result, Ok, Err, sym, ◌∙◌}
use Rattle.std.specs.Prelude.{◌==◌}
use Rattle.std.specs.Ordering.{nat_cmp}
use Rattle.std.specs.Result.{is_ok}
use Rattle.std.specs.List.{list_any}
use Rattle.std.specs.List.Sorted.{IsNonDecreasing, IsBinarySearchResult}
use Rattle.std.proofs.lemmas.Bool.{eq-eqb, ne_eqb, cases_lt}
use Rattle.std.proofs.lemmas.List.{get_or_default}
use Rattle.std.proofs.lemmas.List.Folds.{list_any_at, list_any_none}
use Rattle.std.proofs.lemmas.List.Sorted.{searched}

apart : (xs : List ℕ) (x i k : ℕ) → ((k : ℕ) → k < i → get_or xs k 0 < x) → ((k : ℕ) → i ≤ k → k < length xs → x < get_or xs k 0) → k < length xs → get_or xs k 0 ≡ x → (k < i) ⊎ (i ≤ k) → ⊥
apart xs x i k low high h e (inl l) = let below : get_or xs k 0 < x = low k l in omega arith
apart xs x i k low high h e (inr l) = let above : x < get_or xs k 0 = high k l h in omega arith

pub has_line : (xs : List ℕ) (x : ℕ) (r : Result ℕ ℕ) → IsBinarySearchResult (λ y. nat_cmp y x) xs r → IsNonDecreasing xs → is_ok r ≡ list_any (λ own. own == x) xs
has_line xs x (Ok i) f s =
    let found = searched xs x (Ok i) f (λ i j. s i j 0) in
    sym (list_any_at (λ own. own == x) xs i 0 found.0 (eq-eqb (get_or xs i 0) x found.1))
has_line xs x (Err i) f s =
    let parted = searched xs x (Err i) f (λ i j. s i j 0) in
    sym (list_any_none (λ own. own == x) xs (λ k d h. ne_eqb (get_or xs k d) x (λ e. apart xs x i k parted.1 parted.2 h (sym (get_or_default xs k d 0 h) ∙ e) (cases_lt k i))))
