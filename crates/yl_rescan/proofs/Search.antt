-- The last place above another that has something, and the first from one on where something holds.
use Rattle.std.proofs.Common.{◌≡◌, ℕ, zero, suc, ◌+◌, ◌<◌, ◌≤◌, ◌⊎◌, inl, inr, Bool, true, false, Option, Some, None, refl, ap, sym, ◌∙◌, subst, arith}
use Rattle.std.specs.Prelude.{IsSome}
use Rattle.std.proofs.lemmas.Bool.{cases_lt}

-- place r is the last above place a that has something, and not above place c
pub record IsLastAbove {X : Type 0} (f : ℕ → Option X) (c a r : ℕ) : Type 0 where
  pub from : c ≤ r
  pub above : r < a
  pub some : IsSome (f r)
  pub none : (j : ℕ) → r < j → j < a → f j ≡ None

pub record LastAbove {X : Type 0} (f : ℕ → Option X) (c a : ℕ) : Type 0 where
  pub place : ℕ
  pub is : IsLastAbove f c a place

no_some : {X : Type 0} (o : Option X) → IsSome o → o ≡ None → ⊥
no_some None h e = cc
no_some (Some x) h e = cc

last_step : {X : Type 0} (f : ℕ → Option X) (c a : ℕ) → c < suc a → IsSome (f c) → (c < a → LastAbove f c a) → (o : Option X) → f a ≡ o → LastAbove f c (suc a)
last_step f c a l some more (Some x) e = record {
  place = a;
  is = record { from = omega (arith, l); above = omega arith; some = subst IsSome (sym e) refl; none = λ j m n. absurd (omega (arith, m, n)) };
}
last_step f c a l some more None e = elim (cases_lt c a) [
  | inl k ↦
      let r = more k in
      record {
        place = r.place;
        is = record {
          from = r.is.from;
          above = let m = r.is.above in omega (arith, m);
          some = r.is.some;
          none = λ j m n. elim (cases_lt j a) [
            | inl p ↦ r.is.none j m p
            | inr p ↦ let at : a ≡ j = omega (arith, n, p) in ap f (sym at) ∙ e
          ];
        };
      }
  | inr k ↦ let at : c ≡ a = omega (arith, k, l) in absurd (no_some (f c) some (ap f at ∙ e))
]

pub last_above : {X : Type 0} (f : ℕ → Option X) (c a : ℕ) → c < a → IsSome (f c) → LastAbove f c a
last_above f c zero l some = absurd (omega (arith, l))
last_above f c (suc a) l some = last_step f c a l some (λ k. last_above f c a k some) (f a) refl

-- place m is the first from place j on where it holds, or the last one
pub record FirstFrom (p : ℕ → Bool) (j last : ℕ) : Type 0 where
  pub place : ℕ
  pub from : j ≤ place
  pub within : place ≤ last
  pub holds : (p place ≡ true) ⊎ (place ≡ last)
  pub first : (i : ℕ) → j ≤ i → i < place → p i ≡ false

first_step : (p : ℕ → Bool) (j last : ℕ) → j ≤ last → FirstFrom p (suc j) last → (b : Bool) → p j ≡ b → FirstFrom p j last
first_step p j last l more true e = record { place = j; from = omega arith; within = l; holds = inl e; first = λ i m n. absurd (omega (arith, m, n)) }
first_step p j last l more false e = record {
  place = more.place;
  from = let m = more.from in omega (arith, m);
  within = more.within;
  holds = more.holds;
  first = λ i m n. elim (cases_lt j i) [
    | inl k ↦ more.first i (omega (arith, k)) n
    | inr k ↦ let at : j ≡ i = omega (arith, k, m) in ap p (sym at) ∙ e
  ];
}

pub first_from : (p : ℕ → Bool) (more j last : ℕ) → j + more ≡ last → FirstFrom p j last
first_from p zero j last e = record { place = j; from = omega arith; within = omega (arith, e); holds = inr (omega (arith, e)); first = λ i m n. absurd (omega (arith, m, n)) }
first_from p (suc more) j last e = first_step p j last (omega (arith, e)) (first_from p more (suc j) last (omega (arith, e))) (p j) refl
