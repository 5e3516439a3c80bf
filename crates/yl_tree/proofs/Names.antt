-- Sets of names with one name more or less, and greatest names.
use Rattle.std.proofs.Common.{◌≡◌, ℕ, zero, suc, length, List, [], ◌∷◌, ◌++◌, Bool, true, false, not, ◌&&◌, ◌||◌, cond, refl, sym, ◌∙◌, ap, append_assoc, Bor, Option, Some, None}
use Rattle.std.specs.Prelude.{slice_get}
use Rattle.std.specs.Str.{bytes_eq, chars}
use Rattle.std.specs.List.{list_any}
use Rattle.std.specs.Ordering.{is_gt, nat_cmp, ordering_reverse}
use Rattle.std.specs.declared.cmp.Ordering.{Ordering}
use Rattle.std.specs.declared.cmp.Ordering.TheVariants.{Less, Equal, Greater}
use Rattle.std.specs.Cmp.Lexicographic.{slice_cmp, nat_list_cmp_total}
use Rattle.yl_tree.specs.KeyRules.{is_greater}
use Rattle.yl_tree.specs.Greatest.{is_greater_among}
use Rattle.yl_tree.specs.NameSets.{is_above, is_among}
use Rattle.std.proofs.lemmas.Bool.{false≢true}
use Rattle.std.proofs.lemmas.List.Folds.{list_any-append}
use Rattle.std.proofs.lemmas.Slice.Eq.{bytes_eq-Decides}

pub or_cond : (b x : Bool) → cond b true x ≡ (b || x)
or_cond true x = refl
or_cond false x = refl

and_cond : (b x : Bool) → cond b false x ≡ (not b && x)
and_cond true x = refl
and_cond false x = refl

abbrev pub has : List (Bor (List ℕ)) → List ℕ → Bool
has names name = list_any (λ x. bytes_eq name x.now) names

pub inserted : (old new : List (Bor (List ℕ))) (v : Bor (List ℕ)) → ((q : Bor (List ℕ)) → has new q.now ≡ cond (bytes_eq v.now q.now) true (has old q.now))
    → (q : List ℕ) → has new q ≡ (bytes_eq v.now q || has old q)
inserted old new v h q = h (record { ref_ptr = (0, 0); now = q }) ∙ or_cond (bytes_eq v.now q) (has old q)

pub removed : (old new : List (Bor (List ℕ))) (v : Bor (List ℕ)) → ((q : Bor (List ℕ)) → has new q.now ≡ cond (bytes_eq v.now q.now) false (has old q.now))
    → (q : List ℕ) → has new q ≡ (not (bytes_eq v.now q) && has old q)
removed old new v h q = h (record { ref_ptr = (0, 0); now = q }) ∙ and_cond (bytes_eq v.now q) (has old q)

-- two more characters behind a text
pub pushed : (t0 xs t1 p t2 q t3 : List ℕ) (x y u v : ℕ) → t1 ≡ t0 ++ xs → t2 ≡ t1 ++ p → p ≡ x ∷ [] → x ≡ u → t3 ≡ t2 ++ q → q ≡ y ∷ [] → y ≡ v → t3 ≡ t0 ++ (xs ++ u ∷ v ∷ [])
pushed t0 xs t1 p t2 q t3 x y u v e1 e2 ep ex e3 eq ey =
    let e : t3 ≡ ((t0 ++ xs) ++ u ∷ []) ++ v ∷ [] = cc in
    e ∙ append_assoc (t0 ++ xs) (u ∷ []) (v ∷ []) ∙ append_assoc t0 xs (u ∷ v ∷ [])

-- ---- the greatest key

greater : (o : Ordering) → is_gt o ≡ true → ordering_reverse o ≡ Less
greater Less e = cc
greater Equal e = cc
greater Greater e = refl

module _ (a b : List ℕ) where
  less_from_gt : is_greater a b ≡ true → slice_cmp nat_cmp (chars b) (chars a) ≡ Less
  less_from_gt h = nat_list_cmp_total.antisymm (chars b) (chars a) ∙ greater (slice_cmp nat_cmp (chars a) (chars b)) h

  gt_from_less : slice_cmp nat_cmp (chars b) (chars a) ≡ Less → is_greater a b ≡ true
  gt_from_less h = ap is_gt (nat_list_cmp_total.antisymm (chars a) (chars b) ∙ ap ordering_reverse h)

both_greater : (a b c : List ℕ) → is_greater a b ≡ true → is_greater b c ≡ true → is_greater a c ≡ true
both_greater a b c h g = gt_from_less a c (nat_list_cmp_total.trans (chars c) (chars b) (chars a) (less_from_gt b c g) (less_from_gt a b h))

by_order : (g k q : List ℕ) (o : Ordering) → slice_cmp nat_cmp (chars g) (chars k) ≡ o → is_gt o ≡ false → is_greater g q ≡ true → is_greater k q ≡ true
by_order g k q Less e n h = gt_from_less k q (nat_list_cmp_total.trans (chars q) (chars g) (chars k) (less_from_gt g q h) e)
by_order g k q Equal e n h = ap is_gt (sym (nat_list_cmp_total.congr (chars g) (chars k) (chars q) e)) ∙ h
by_order g k q Greater e n h = cc

absorbed : (b c : Bool) → (b ≡ true → c ≡ true) → c ≡ (b || c)
absorbed true c h = h refl
absorbed false c h = refl

absorbing : (b c : Bool) → (c ≡ true → b ≡ true) → b ≡ (b || c)
absorbing true c h = refl
absorbing false true h = h refl
absorbing false false h = refl

either : (b c d e : Bool) → (b || c) ≡ true → (b ≡ true → d ≡ true) → (c ≡ true → e ≡ true) → (d || e) ≡ true
either true c true e h f g = refl
either true c false e h f g = absurd (false≢true (f refl))
either false c true e h f g = refl
either false c false e h f g = g h

neither : (b c : Bool) → (b || c) ≡ false → (b ≡ false) × (c ≡ false)
neither false c h = (refl, h)
neither true c h = cc

one_or : (b c d : Bool) → (b || c) ≡ true → (b ≡ true → d ≡ true) → (c ≡ true → d ≡ true) → d ≡ true
one_or true c d h f g = f refl
one_or false c d h f g = g h

greater_still : (names : List (List ℕ)) (k q : List ℕ) → is_greater_among names k ≡ true → is_greater k q ≡ true → is_greater_among names q ≡ true
greater_still [] k q h g = cc
greater_still (x ∷ xs) k q h g = either (is_greater x k) (is_greater_among xs k) (is_greater x q) (is_greater_among xs q) h (λ e. both_greater x k q e g) (λ e. greater_still xs k q e g)

greater_too : (names : List (List ℕ)) (k q : List ℕ) → is_greater_among names k ≡ false → is_greater_among names q ≡ true → is_greater k q ≡ true
greater_too [] k q n h = cc
greater_too (x ∷ xs) k q n h =
    let parts = neither (is_greater x k) (is_greater_among xs k) n in
    one_or (is_greater x q) (is_greater_among xs q) (is_greater k q) h (by_order x k q (slice_cmp nat_cmp (chars x) (chars k)) refl parts.0) (greater_too xs k q parts.1)

-- a key that is not greater than the greatest
pub greatest_stays : (names : List (List ℕ)) (k : List ℕ) → is_greater_among names k ≡ true → (q : List ℕ) → is_greater_among names q ≡ (is_greater k q || is_greater_among names q)
greatest_stays names k h q = absorbed (is_greater k q) (is_greater_among names q) (greater_still names k q h)

or_false : (b : Bool) → (b || false) ≡ b
or_false true = refl
or_false false = refl

-- one that the greatest is not greater than
pub greatest_changes : (names : List (List ℕ)) (k : List ℕ) → is_greater_among names k ≡ false → (q : List ℕ) → is_greater_among (k ∷ []) q ≡ (is_greater k q || is_greater_among names q)
greatest_changes names k h q = or_false (is_greater k q) ∙ absorbing (is_greater k q) (is_greater_among names q) (greater_too names k q h)

-- ---- keys none of which is greater than the greatest

of_itself : (o : Ordering) → o ≡ ordering_reverse o → is_gt o ≡ false
of_itself Less e = refl
of_itself Equal e = refl
of_itself Greater e = cc

not_above_itself : (k : List ℕ) → is_greater k k ≡ false
not_above_itself k = of_itself (slice_cmp nat_cmp (chars k) (chars k)) (nat_list_cmp_total.antisymm (chars k) (chars k))

refuted : (b c : Bool) → (b ≡ true → c ≡ true) → c ≡ false → b ≡ false
refuted true c f e = sym (f refl) ∙ e
refuted false c f e = refl

above_key : (g : Option (List ℕ)) (key q : List ℕ) → is_above g key ≡ true → is_above g q ≡ false → is_greater q key ≡ false
above_key None key q a n = cc
above_key (Some g) key q a n = refuted (is_greater q key) (is_greater q g) (λ h. both_greater q key g h a) n

one_of : (b c x : Bool) → (b || (c || false)) ≡ true → (b ≡ true → x ≡ false) → (c ≡ true → x ≡ false) → x ≡ false
one_of true c x e f g = f refl
one_of false true x e f g = g refl
one_of false false x e f g = cc

last_of : (keys : List (List ℕ)) (key : List ℕ) → slice_get (keys ++ key ∷ []) (length keys) ≡ Some key
last_of [] key = refl
last_of (k ∷ keys) key = last_of keys key

still_there : (keys : List (List ℕ)) (i : ℕ) (key q : List ℕ) → is_above (slice_get keys i) q ≡ false → slice_get (keys ++ key ∷ []) i ≡ slice_get keys i
still_there [] i key q n = cc
still_there (k ∷ keys) zero key q n = refl
still_there (k ∷ keys) (suc i) key q n = still_there keys i key q n

module _ (keys : List (List ℕ)) (g : ℕ) (key : List ℕ) (below : (q : List ℕ) → is_among keys q ≡ true → is_above (slice_get keys g) q ≡ false) (q : List ℕ)
    (h : is_among (keys ++ key ∷ []) q ≡ true) where
  split : (is_among keys q || (bytes_eq key q || false)) ≡ true
  split = sym (list_any-append (λ (x : List ℕ). bytes_eq x q) keys (key ∷ [])) ∙ h

  same : bytes_eq key q ≡ true → q ≡ key
  same e = sym ((bytes_eq-Decides key q).0 e)

  -- a key that is greater than the greatest
  pub below_new : is_above (slice_get keys g) key ≡ true → is_above (slice_get (keys ++ key ∷ []) (length keys)) q ≡ false
  below_new a =
      ap (λ (o : Option (List ℕ)). is_above o q) (last_of keys key)
      ∙ one_of (is_among keys q) (bytes_eq key q) (is_greater q key) split (λ i. above_key (slice_get keys g) key q a (below q i))
      (λ e. ap (λ (x : List ℕ). is_greater x key) (same e) ∙ not_above_itself key)

  -- one that is not
  pub below_old : is_above (slice_get keys g) key ≡ false → is_above (slice_get (keys ++ key ∷ []) g) q ≡ false
  below_old n =
      ap (λ (o : Option (List ℕ)). is_above o q) (still_there keys g key key n)
      ∙ one_of (is_among keys q) (bytes_eq key q) (is_above (slice_get keys g) q) split (below q) (λ e. ap (is_above (slice_get keys g)) (same e) ∙ n)

module _ (keys new : List (List ℕ)) (g : ℕ) (key : List ℕ) (below : (q : List ℕ) → is_among keys q ≡ true → is_above (slice_get keys g) q ≡ false) (new_is : new ≡ keys ++ key ∷ []) where
  pub run_goes_on : (place : ℕ) → place ≡ length keys → is_above (slice_get keys g) key ≡ true → (q : List ℕ) → is_among new q ≡ true → is_above (slice_get new place) q ≡ false
  run_goes_on place place_is a q h = rw (new_is, place_is) (below_new keys g key below q (rw new_is at h) a)

  pub run_stays : is_above (slice_get keys g) key ≡ false → (q : List ℕ) → is_among new q ≡ true → is_above (slice_get new g) q ≡ false
  run_stays n q h = rw new_is (below_old keys g key below q (rw new_is at h) n)
