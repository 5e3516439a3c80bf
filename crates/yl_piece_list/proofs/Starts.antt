-- Where in the list of all pieces the pieces of each section begin.
use Rattle.std.proofs.Common.{◌≡◌, ◌<◌, ◌≤◌, ◌+◌, ◌-◌, ◌⊎◌, ℕ, zero, suc, List, [], ◌∷◌, ◌++◌, length, take, drop, Option, Some, None, refl, ap, sym, subst, ◌∙◌, inl, inr, arith}
use Rattle.std.specs.Prelude.{IsSome, option_map, slice_get}
use Rattle.std.specs.List.{AllByRecursion, AllZip}
use Rattle.std.proofs.lemmas.Bool.{cases_lt}
use Rattle.std.proofs.lemmas.List.{length-append}
use Rattle.yl_section_pieces.proofs.SectionsRuns.{at_first, at_second, drop_second, take_second}
use Rattle.yl_section_pieces.proofs.SectionsListed.{AreListed, IsBorder, IsHeaded, flat}

-- the index of the first piece of the section of index j
abbrev pub start_at : {P : Type 0} → List (List P) → ℕ → ℕ
start_at cs zero = 0
start_at [] (suc j) = 0
start_at (c ∷ cs) (suc j) = length c + start_at cs j

module _ {P : Type 0} where
  take_start : (cs : List (List P)) (j : ℕ) → take (start_at cs j) (flat cs) ≡ flat (take j cs)
  take_start cs zero = refl
  take_start [] (suc j) = refl
  take_start (c ∷ cs) (suc j) = take_second c (flat cs) (start_at cs j) ∙ ap (λ (ps : List P). c ++ ps) (take_start cs j)

  drop_start : (cs : List (List P)) (j : ℕ) → drop (start_at cs j) (flat cs) ≡ flat (drop j cs)
  drop_start cs zero = refl
  drop_start [] (suc j) = refl
  drop_start (c ∷ cs) (suc j) = drop_second c (flat cs) (start_at cs j) ∙ drop_start cs j

  pub starts_ordered : (cs : List (List P)) (i j : ℕ) → i ≤ j → start_at cs i ≤ start_at cs j
  starts_ordered cs zero j o = omega arith
  starts_ordered [] (suc i) j o = omega arith
  starts_ordered (c ∷ cs) (suc i) zero o = absurd (omega arith)
  starts_ordered (c ∷ cs) (suc i) (suc j) o = let h = starts_ordered cs i j (omega arith) in omega arith

module _ {S P D : Type 0} (K : S → List P → Type 0) (before : P → Option D) (headed : (s : S) (c : List P) → K s c → IsHeaded before c) where
  zip_take : (ss : List S) (cs : List (List P)) (j : ℕ) → AllZip K ss cs → AllZip K (take j ss) (take j cs)
  zip_take ss cs zero h = tt
  zip_take [] [] (suc j) h = tt
  zip_take [] (c ∷ cs) (suc j) h = absurd h
  zip_take (s ∷ ss) [] (suc j) h = absurd h
  zip_take (s ∷ ss) (c ∷ cs) (suc j) h = (h.0, zip_take ss cs j h.1)

  zip_drop : (ss : List S) (cs : List (List P)) (j : ℕ) → AllZip K ss cs → AllZip K (drop j ss) (drop j cs)
  zip_drop ss cs zero h = h
  zip_drop [] [] (suc j) h = tt
  zip_drop [] (c ∷ cs) (suc j) h = absurd h
  zip_drop (s ∷ ss) [] (suc j) h = absurd h
  zip_drop (s ∷ ss) (c ∷ cs) (suc j) h = zip_drop ss cs j h.1

  pub above_start : (ss : List S) (cs : List (List P)) (j : ℕ) → AllZip K ss cs → AreListed K (take j ss) (take (start_at cs j) (flat cs))
  above_start ss cs j h = record { cuts = take j cs; each = zip_take ss cs j h; all = take_start cs j }

  pub below_start : (ss : List S) (cs : List (List P)) (j : ℕ) → AllZip K ss cs → AreListed K (drop j ss) (drop (start_at cs j) (flat cs))
  below_start ss cs j h = record { cuts = drop j cs; each = zip_drop ss cs j h; all = drop_start cs j }

  some_in : (c : List P) → IsHeaded before c → 0 < length c
  some_in [] h = absurd h
  some_in (p ∷ c) h = omega arith

  pub starts_apart : (ss : List S) (cs : List (List P)) (i j : ℕ) → AllZip K ss cs → i < j → j ≤ length ss → start_at cs i < start_at cs j
  starts_apart ss cs i zero h l o = absurd (omega arith)
  starts_apart [] cs i (suc j) h l o = absurd (omega arith)
  starts_apart (s ∷ ss) [] i (suc j) h l o = absurd h
  starts_apart (s ∷ ss) (c ∷ cs) zero (suc j) h l o = let some = some_in c (headed s c h.0) in omega arith
  starts_apart (s ∷ ss) (c ∷ cs) (suc i) (suc j) h l o = let m = starts_apart ss cs i j h.1 (omega arith) (omega arith) in omega arith

  pub all_starts : (ss : List S) (cs : List (List P)) (j : ℕ) → AllZip K ss cs → length ss ≤ j → start_at cs j ≡ length (flat cs)
  all_starts [] [] zero h o = refl
  all_starts [] [] (suc j) h o = refl
  all_starts [] (c ∷ cs) j h o = absurd h
  all_starts (s ∷ ss) [] j h o = absurd h
  all_starts (s ∷ ss) (c ∷ cs) zero h o = absurd (omega arith)
  all_starts (s ∷ ss) (c ∷ cs) (suc j) h o =
      let e = all_starts ss cs j h.1 (omega arith) in
      omega (arith, length-append c (flat cs))

  -- a section begins there
  pub start_border : (ss : List S) (cs : List (List P)) (j : ℕ) → AllZip K ss cs → IsBorder before (flat cs) (start_at cs j)
  start_border [] [] zero h = inl refl
  start_border [] [] (suc j) h = inl refl
  start_border [] (c ∷ cs) j h = absurd h
  start_border (s ∷ ss) [] j h = absurd h
  start_border (s ∷ ss) (c ∷ cs) zero h = inr (by c (headed s c h.0)) where
    by : (c : List P) → IsHeaded before c → option_map before (slice_get (c ++ flat cs) 0) ≡ Some None
    by [] g = absurd g
    by (p ∷ c) g = ap (λ (b : Option D). Some b) g.0
  start_border (s ∷ ss) (c ∷ cs) (suc j) h = by (start_border ss cs j h.1) where
    by : IsBorder before (flat cs) (start_at cs j) → IsBorder before (c ++ flat cs) (length c + start_at cs j)
    by (inl e) = inl (omega (arith, length-append c (flat cs)))
    by (inr e) = inr (ap (option_map before) (at_second c (flat cs) (start_at cs j)) ∙ e)

  -- ---- where a section begins

  pub record IsStart (ss : List S) (cs : List (List P)) (f : ℕ) : Type 0 where
    pub section : ℕ
    pub within : section ≤ length ss
    pub at : f ≡ start_at cs section

  none_later : (ps : List P) (i : ℕ) → AllByRecursion (λ q. IsSome (before q)) ps → option_map before (slice_get ps i) ≡ Some None → ⊥
  none_later [] i h e = cc
  none_later (p ∷ ps) zero h e = let same : before p ≡ None = cc in let some : IsSome (before p) = h.0 in cc
  none_later (p ∷ ps) (suc i) h e = none_later ps i h.1 e

  not_inside : (c : List P) (i : ℕ) → IsHeaded before c → option_map before (slice_get c (suc i)) ≡ Some None → ⊥
  not_inside [] i h e = h
  not_inside (p ∷ c) i h e = none_later c i h.1 e

  pub border_start : (ss : List S) (cs : List (List P)) (f : ℕ) → AllZip K ss cs → IsBorder before (flat cs) f → IsStart ss cs f
  border_start [] [] f h (inl e) = record { section = 0; within = omega arith; at = e }
  border_start [] [] f h (inr e) = absurd (cc)
  border_start [] (c ∷ cs) f h b = absurd h
  border_start (s ∷ ss) [] f h b = absurd h
  border_start (s ∷ ss) (c ∷ cs) zero h b = record { section = 0; within = omega arith; at = refl }
  border_start (s ∷ ss) (c ∷ cs) (suc f) h b = by (cases_lt (suc f) (length c)) b (λ g d. border_start ss cs g h.1 d)
    where
      beyond : (g : ℕ) → IsBorder before (c ++ flat cs) (length c + g) → IsBorder before (flat cs) g
      beyond g (inl e) = inl (omega (arith, length-append c (flat cs)))
      beyond g (inr e) = inr (ap (option_map before) (sym (at_second c (flat cs) g)) ∙ e)

      by : (suc f < length c) ⊎ (length c ≤ suc f) → IsBorder before (c ++ flat cs) (suc f)
          → ((g : ℕ) → IsBorder before (flat cs) g → IsStart ss cs g) → IsStart (s ∷ ss) (c ∷ cs) (suc f)
      by (inl l) (inl e) later = absurd (omega (arith, length-append c (flat cs)))
      by (inl l) (inr e) later = absurd (not_inside c f (headed s c h.0) (ap (option_map before) (sym (at_first c (flat cs) (suc f) l)) ∙ e))
      by (inr l) d later =
          let g = suc f - length c in
          let e : length c + g ≡ suc f = omega arith in
          let i = later g (beyond g (subst (λ (n : ℕ). IsBorder before (c ++ flat cs) n) (sym e) d)) in
          record { section = suc i.section; within = let w = i.within in omega arith; at = let a = i.at in omega arith }

  -- ---- the section of a piece

  pub record IsHeld (ss : List S) (cs : List (List P)) (i : ℕ) : Type 0 where
    pub section : ℕ
    pub within : section < length ss
    pub above : start_at cs section ≤ i
    pub below : i < start_at cs (suc section)

  pub held_at : (ss : List S) (cs : List (List P)) (i : ℕ) → AllZip K ss cs → i < length (flat cs) → IsHeld ss cs i
  held_at [] [] i h l = absurd (omega arith)
  held_at [] (c ∷ cs) i h l = absurd h
  held_at (s ∷ ss) [] i h l = absurd h
  held_at (s ∷ ss) (c ∷ cs) i h l = by (cases_lt i (length c)) (λ g m. held_at ss cs g h.1 m) where
    by : (i < length c) ⊎ (length c ≤ i) → ((g : ℕ) → g < length (flat cs) → IsHeld ss cs g) → IsHeld (s ∷ ss) (c ∷ cs) i
    by (inl m) later = record { section = 0; within = omega arith; above = omega arith; below = omega arith }
    by (inr m) later =
        let d = later (i - length c) (omega (arith, length-append c (flat cs))) in
        record {
          section = suc d.section;
          within = let w = d.within in omega arith;
          above = let a = d.above in omega arith;
          below = let b = d.below in omega arith;
        }
