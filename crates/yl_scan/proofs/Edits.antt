-- What an edited text consists of.
use Rattle.std.proofs.Common.{◌≡◌, ℕ, zero, suc, ◌+◌, ◌-◌, ◌≤◌, ◌<◌, inl, inr, List, [], ◌∷◌, ◌++◌, length, take, drop, Option, Some, refl, ap, sym, subst, ◌∙◌, arith, add-one}
use Rattle.std.specs.Prelude.{IsSome}
use Rattle.yl_row.specs.Entries.{LineStateValue, entries}
use Rattle.yl_scan.specs.Restart.{state_at, AreSameAbove, CounterpartLaw, AboveLaw}
use Rattle.yl_scan.specs.Resume.{from_state, RestartLaw, ConvergenceLaw}
use Rattle.yl_scan.proofs.Resumed.{resumed}
use Rattle.yl_scan.proofs.Restarts.{prefix, shift}

take_drop : {A : Type 0} (n : ℕ) (xs : List A) → take n xs ++ drop n xs ≡ xs
take_drop zero xs = refl
take_drop (suc n) [] = refl
take_drop (suc n) (x ∷ xs) = ap (λ ys. x ∷ ys) (take_drop n xs)

nothing_left : {A : Type 0} (n : ℕ) → drop {A = A} n [] ≡ []
nothing_left zero = refl
nothing_left (suc n) = refl

drop_less : {A : Type 0} (m r : ℕ) (xs : List A) → r ≤ m → drop (m - r) (drop r xs) ≡ drop m xs
drop_less m zero xs h = let e : m - 0 ≡ m = omega arith in ap (λ n. drop n xs) e
drop_less zero (suc r) xs h = absurd (omega arith)
drop_less (suc m) (suc r) [] h = nothing_left (suc m - suc r)
drop_less (suc m) (suc r) (x ∷ xs) h = let e : suc m - suc r ≡ m - r = omega arith in ap (λ n. drop n (drop r xs)) e ∙ drop_less m r xs (omega arith)

is_some_of : (o : Option LineStateValue) (s : LineStateValue) → o ≡ Some s → IsSome o
is_some_of o s h = subst IsSome (sym h) refl

above_same : (old new : List (List ℕ)) (r : ℕ) (s : LineStateValue) → AreSameAbove r old new → state_at (entries new) r ≡ Some s → take r (entries new) ≡ take r (entries old)
above_same old new r s (inl e) h = ap (λ n. take n (entries new)) e ∙ sym (ap (λ n. take n (entries old)) e)
above_same old new r s (inr e) h = (prefix new old r (sym e)).1 (is_some_of (state_at (entries new) r) s h)

pub restart : RestartLaw
restart old new r s e h =
    sym (take_drop r (entries new))
    ∙ ap (λ es. es ++ drop r (entries new)) (above_same old new r s e h)
    ∙ ap (λ es. take r (entries old) ++ es) (resumed new r s h)

pub convergence : ConvergenceLaw
convergence old new r m n s z e h le same p q =
    let es = from_state s (drop r new) in
    let rest : drop (m - r) es ≡ drop n (entries old) =
    ap (drop (m - r)) (sym (resumed new r s h)) ∙ drop_less m r (entries new) le ∙ (shift new old m n z p q same).same in
    restart old new r s e h
    ∙ ap (λ es. take r (entries old) ++ es) (sym (take_drop (m - r) es) ∙ ap (λ fs. take (m - r) es ++ fs) rest)

drop_behind : {A : Type 0} (xs ys : List A) (i : ℕ) → drop (length xs + i) (xs ++ ys) ≡ drop i ys
drop_behind [] ys i = let e : 0 + i ≡ i = omega arith in ap (λ n. drop n ys) e
drop_behind (x ∷ xs) ys i = let e : length (x ∷ xs) + i ≡ suc (length xs + i) = omega arith in ap (λ n. drop n ((x ∷ xs) ++ ys)) e ∙ drop_behind xs ys i

drop_further : {A : Type 0} (b i : ℕ) (xs : List A) → drop i (drop b xs) ≡ drop (b + i) xs
drop_further b i xs = let e : b + i - b ≡ i = omega arith in ap (λ n. drop n (drop b xs)) (sym e) ∙ drop_less (b + i) b xs (omega arith)

taken : {A : Type 0} (a : ℕ) (xs : List A) → a ≤ length xs → length (take a xs) ≡ a
taken zero xs h = refl
taken (suc a) [] h = absurd (omega arith)
taken (suc a) (x ∷ xs) h = ap suc (taken a xs (omega arith))

pub counterpart : CounterpartLaw
counterpart old mid a b i h =
    let e : a + length mid + i ≡ length (take a old) + (length mid + i) = omega (arith, taken a old h) in
    ap (λ n. drop n (take a old ++ (mid ++ drop b old))) e
    ∙ drop_behind (take a old) (mid ++ drop b old) (length mid + i)
    ∙ drop_behind mid (drop b old) i
    ∙ drop_further b i old

pub above : AboveLaw
above old mid a b r h lt = rw add-one (front a r old (mid ++ drop b old) h lt)
  where
    front : {A : Type 0} (a r : ℕ) (xs ys : List A) → a ≤ length xs → r < a → take (suc r) xs ≡ take (suc r) (take a xs ++ ys)
    front zero r xs ys h lt = absurd (omega arith)
    front (suc a) r [] ys h lt = absurd (omega arith)
    front (suc a) zero (x ∷ xs) ys h lt = refl
    front (suc a) (suc r) (x ∷ xs) ys h lt = ap (λ zs. x ∷ zs) (front a r xs ys (omega arith) (omega arith))
