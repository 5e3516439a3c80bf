-- The laws of restart.
use Rattle.std.proofs.Common.{◌≡◌, ℕ, zero, suc, false, List, [], ◌∷◌, ◌++◌, length, take, drop, Option, Some, None, refl, ap, sym, subst, ◌∙◌, add-one}
use Rattle.std.specs.Prelude.{IsSome}
use Rattle.std.specs.List.{AllByRecursion}
use Rattle.yl_row.specs.Entries.{RowEntry, LineStateValue, entries}
use Rattle.yl_scan.specs.Restart.{state_at, IsQuiet, PrefixLaw, ShiftLaw}
use Rattle.yl_scan.specs.Resume.{from_state}
use Rattle.yl_scan.proofs.Resumed.{resumed, stopped_quiet}
use Rattle.yl_scan.proofs.Prefix.{Agrees, entries_agree}

-- rows that are the same down to one are the same, or go on below that row
by_rows : (k : ℕ) (t u : List (List ℕ)) → take (suc k) t ≡ take (suc k) u → (P : List (List ℕ) → List (List ℕ) → Type 0) → ((t : List (List ℕ)) → P t t)
    → ((above : List (List ℕ)) (row : List ℕ) (rows rows' : List (List ℕ)) → length above ≡ k → P (above ++ row ∷ rows) (above ++ row ∷ rows')) → P t u
by_rows k [] [] h P same goes = same []
by_rows k [] (y ∷ u) h P same goes = cc
by_rows k (x ∷ t) [] h P same goes = cc
by_rows zero (x ∷ t) (y ∷ u) h P same goes = let e : x ≡ y = cc in subst (λ y. P (x ∷ t) (y ∷ u)) e (goes [] x t u refl)
by_rows (suc k) (x ∷ t) (y ∷ u) h P same goes =
    let e : x ≡ y = cc in
    let more : take (suc k) t ≡ take (suc k) u = cc in
    subst (λ y. P (x ∷ t) (y ∷ u)) e
    (by_rows k t u more (λ t u. P (x ∷ t) (x ∷ u)) (λ t. same (x ∷ t)) (λ above row rows rows' p. goes (x ∷ above) row rows rows' (ap suc p)))

some_state : (o : Option LineStateValue) → IsSome o → (P : Type 0) → ((s : LineStateValue) → o ≡ Some s → P) → P
some_state None h P f = cc
some_state (Some s) h P f = f s refl

abbrev Same : ℕ → List RowEntry → List RowEntry → Type 0
Same k es es' = (state_at es k ≡ state_at es' k) × (IsSome (state_at es k) → take k es ≡ take k es')

same_of : (k : ℕ) (es es' : List RowEntry) → Agrees k es es' → Same k es es'
same_of k es es' h = (h.0, λ s. some_state (state_at es k) s (take k es ≡ take k es') h.1)

pub prefix : PrefixLaw
prefix t u k h =
    by_rows k t u (rw (← add-one) h) (λ t u. Same k (entries t) (entries u)) (λ t. (refl, λ s. refl))
    (λ above row rows rows' p. same_of k _ _ (subst (λ n. Agrees n (entries (above ++ row ∷ rows)) (entries (above ++ row ∷ rows'))) p (entries_agree row rows rows' above)))

pub shift : ShiftLaw
shift t u i j s p q e = record {
  same = resumed t i s p ∙ ap (from_state s) e ∙ sym (resumed u j s q);
  quiet = λ stopped. subst (AllByRecursion IsQuiet) (ap (λ s. from_state s (drop i t)) (sym stopped) ∙ sym (resumed t i s p)) (stopped_quiet false 0 (drop i t));
}
