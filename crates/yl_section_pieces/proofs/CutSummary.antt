-- The first column of a piece.
use Rattle.std.proofs.Common.{◌≡◌, ◌==◌, ◌∙◌, ℕ, Bool, ap, if◌then◌else◌, sym}
use Rattle.std.proofs.lemmas.Bool.{ne_eqb}

-- that of the section, where the piece begins with its first row
pub first_here : (row first k : ℕ) → row ≡ 0 → first ≡ k → first ≡ (if row == 0 then k else 0)
first_here row first k e is = is ∙ sym (ap (λ (n : ℕ). if n == 0 then k else 0) e)

-- or else none
pub first_below : (row first k : ℕ) → (row ≡ 0 → ⊥) → first ≡ 0 → first ≡ (if row == 0 then k else 0)
first_below row first k far is = is ∙ sym (ap (λ (b : Bool). if b then k else 0) (ne_eqb row 0 far))
