-- Lists cut by rows, and what stands in rows further down.
use Rattle.std.proofs.Common.{◌≡◌, ◌≤◌, ◌<◌, ◌+◌, ℕ, Bool, true, false, List, [], ◌∷◌, ◌++◌, map, not, refl, ◌∙◌, ap, append-nil, arith}
use Rattle.std.specs.Prelude.{nat_lt}
use Rattle.std.specs.List.{AllByRecursion, filter}
use Rattle.std.proofs.lemmas.Bool.{lt-ltb, le-ltb}
use Rattle.std.proofs.lemmas.List.Elements.{filter-append}
use Rattle.yl_text.proofs.Every.{all_both, all_then}
use Rattle.yl_pieces.specs.Patched.{below_first, in_first, list_patched}

-- ---- a list in three parts, of which a test tells the first, or the last

module _ {X : Type 0} (p : X → Bool) where
  abbrev Passes : List X → Type 0
  Passes xs = AllByRecursion (λ x. p x ≡ true) xs

  abbrev Fails : List X → Type 0
  Fails xs = AllByRecursion (λ x. p x ≡ false) xs

  filter_all : (xs : List X) → Passes xs → filter p xs ≡ xs
  filter_all [] h = refl
  filter_all (x ∷ xs) h = rw h.0 (ap (λ ys. x ∷ ys) (filter_all xs h.1))

  filter_none : (xs : List X) → Fails xs → filter p xs ≡ []
  filter_none [] h = refl
  filter_none (x ∷ xs) h = rw h.0 (filter_none xs h.1)

  first_part : (xs ys zs : List X) → Passes xs → Fails ys → Fails zs → filter p (xs ++ (ys ++ zs)) ≡ xs
  first_part xs ys zs h g k =
      filter-append p xs (ys ++ zs)
      ∙ ap (λ ws. ws ++ filter p (ys ++ zs)) (filter_all xs h)
      ∙ ap (λ ws. xs ++ ws) (filter_none (ys ++ zs) (all_both (λ x. p x ≡ false) ys zs g k))
      ∙ append-nil xs

  without_first : (xs ys : List X) → Fails xs → Passes ys → filter p (xs ++ ys) ≡ ys
  without_first xs ys h g = filter-append p xs ys ∙ ap (λ ws. ws ++ filter p ys) (filter_none xs h) ∙ filter_all ys g

  last_part : (xs ys zs : List X) → Fails xs → Fails ys → Passes zs → filter p (xs ++ (ys ++ zs)) ≡ zs
  last_part xs ys zs h g k =
      filter-append p xs (ys ++ zs) ∙ ap (λ ws. ws ++ filter p (ys ++ zs)) (filter_none xs h) ∙ without_first ys zs g k

-- ---- what is moved further down, moved

module _ {X : Type 0} (here there moved : X → X) (onto : (x : X) → moved (here x) ≡ there x) where
  pub map_moved : (xs : List X) → map moved (map here xs) ≡ map there xs
  map_moved [] = refl
  map_moved (x ∷ xs) = ap (λ y. y ∷ map moved (map here xs)) (onto x) ∙ ap (λ ys. there x ∷ ys) (map_moved xs)

-- ---- a list cut by rows

module _ {X : Type 0} (row : X → ℕ) (front old : ℕ) where
  abbrev Above : X → Type 0
  Above x = row x < front

  abbrev Between : X → Type 0
  Between x = (front ≤ row x) × (row x < front + old)

  abbrev Below : X → Type 0
  Below x = front + old ≤ row x

  abbrev first : X → Bool
  first x = nat_lt (row x) front

  abbrev last : X → Bool
  last x = not (nat_lt (row x) (front + old))

  is_last : (x : X) → Below x → last x ≡ true
  is_last x h = ap not (le-ltb (row x) (front + old) h)

  not_last : (x : X) → row x < front + old → last x ≡ false
  not_last x h = ap not (lt-ltb (row x) (front + old) h)

  module _ (xs ys zs : List X) (above : AllByRecursion Above xs) (between : AllByRecursion Between ys) (below : AllByRecursion Below zs) where
    cut_first : in_first row front (xs ++ (ys ++ zs)) ≡ xs
    cut_first =
        first_part first xs ys zs
        (all_then Above (λ x. first x ≡ true) xs (λ x h. lt-ltb (row x) front h) above)
        (all_then Between (λ x. first x ≡ false) ys (λ x h. le-ltb (row x) front h.0) between)
        (all_then Below (λ x. first x ≡ false) zs (λ x h. le-ltb (row x) front (omega (arith, h))) below)

    cut_last : below_first row (front + old) (xs ++ (ys ++ zs)) ≡ zs
    cut_last =
        last_part last xs ys zs
        (all_then Above (λ x. last x ≡ false) xs (λ x h. not_last x (omega (arith, h))) above)
        (all_then Between (λ x. last x ≡ false) ys (λ x h. not_last x h.1) between)
        (all_then Below (λ x. last x ≡ true) zs is_last below)

    pub parts_patched : (moved : X → X) (new zs' : List X) → map moved zs ≡ zs' → list_patched row moved front old (xs ++ (ys ++ zs)) new ≡ xs ++ (new ++ zs')
    parts_patched moved new zs' e =
        ap (λ ws. ws ++ (new ++ map moved (below_first row (front + old) (xs ++ (ys ++ zs))))) cut_first
        ∙ ap (λ ws. xs ++ (new ++ map moved ws)) cut_last
        ∙ ap (λ ws. xs ++ (new ++ ws)) e
