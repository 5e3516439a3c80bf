-- Pieces of sections in one list, one section after another. The first piece of each section begins it, and no other does.
use Rattle.std.proofs.Common.{◌≡◌, ◌<◌, ◌≤◌, ◌+◌, ◌-◌, ◌⊎◌, ◌↔◌, ℕ, zero, suc, List, [], ◌∷◌, ◌++◌, length, take, drop, Option, Some, None, refl, ap, sym, subst, ◌∙◌, inl, inr, arith, append_assoc, append-nil}
use Rattle.std.specs.Prelude.{IsSome, option_map, slice_get}
use Rattle.std.specs.List.{AllByRecursion, AllZip, flat_map, splice}
use Rattle.std.proofs.lemmas.Bool.{cases_lt}
use Rattle.std.proofs.lemmas.Grind.{flat_map-append}
use Rattle.std.proofs.lemmas.List.{length-append}
use Rattle.std.proofs.lemmas.Option.{slice_get_within}
use Rattle.yl_text.proofs.Every.{all_back}
use Rattle.yl_section_pieces.proofs.SectionsRuns.{at_first, at_second, around_item, drop_none, drop_second, next_around, put_around, take_none, take_second}

abbrev pub flat : {P : Type 0} → List (List P) → List P
flat cs = flat_map (λ c. c) cs

-- ---- in one list

-- the pieces are those of the sections, of each of which K says whether it has such pieces
pub record AreListed {S P : Type 0} (K : S → List P → Type 0) (ss : List S) (ps : List P) : Type 0 where
  pub cuts : List (List P)
  pub each : AllZip K ss cuts
  pub all : ps ≡ flat cuts

module _ {S P : Type 0} (K : S → List P → Type 0) where
  pub none_listed : AreListed K [] []
  none_listed = record { cuts = []; each = tt; all = refl }

  pub more_listed : (s : S) (c : List P) (ss : List S) (ps : List P) → K s c → AreListed K ss ps → AreListed K (s ∷ ss) (c ++ ps)
  more_listed s c ss ps k h = record { cuts = c ∷ h.cuts; each = (k, h.each); all = ap (λ (qs : List P). c ++ qs) h.all }

  pub one_listed : (s : S) (c : List P) → K s c → AreListed K (s ∷ []) c
  one_listed s c k = subst (λ (ps : List P). AreListed K (s ∷ []) ps) (append-nil c) (more_listed s c [] [] k none_listed)

  both_cut : (ss ts : List S) (cs ds : List (List P)) → AllZip K ss cs → AllZip K ts ds → AllZip K (ss ++ ts) (cs ++ ds)
  both_cut [] ts [] ds h g = g
  both_cut [] ts (c ∷ cs) ds h g = absurd h
  both_cut (s ∷ ss) ts [] ds h g = absurd h
  both_cut (s ∷ ss) ts (c ∷ cs) ds h g = (h.0, both_cut ss ts cs ds h.1 g)

  pub both_listed : (ss ts : List S) (ps qs : List P) → AreListed K ss ps → AreListed K ts qs → AreListed K (ss ++ ts) (ps ++ qs)
  both_listed ss ts ps qs h g = record {
    cuts = h.cuts ++ g.cuts;
    each = both_cut ss ts h.cuts g.cuts h.each g.each;
    all =
        ap (λ (xs : List P). xs ++ qs) h.all
        ∙ (ap (λ (ys : List P). flat h.cuts ++ ys) g.all ∙ sym (flat_map-append (λ (c : List P). c) h.cuts g.cuts));
  }

  pub spliced_listed : (ss ns : List S) (ps nps : List P) (p q f e : ℕ)
      → AreListed K (take p ss) (take f ps) → AreListed K ns nps → AreListed K (drop q ss) (drop e ps)
      → AreListed K (splice ss p q ns) (splice ps f e nps)
  spliced_listed ss ns ps nps p q f e above new below =
      both_listed (take p ss) (ns ++ drop q ss) (take f ps) (nps ++ drop e ps) above (both_listed ns (drop q ss) nps (drop e ps) new below)

-- ---- where a section begins

-- the first piece begins a section, and no other does: of these alone nothing stands before
abbrev pub IsHeaded : {P D : Type 0} → (P → Option D) → List P → Type 0
IsHeaded before [] = ⊥
IsHeaded before (p ∷ ps) = (before p ≡ None) × AllByRecursion (λ q. IsSome (before q)) ps

-- the piece of the index begins a section, or there is none
abbrev pub IsBorder : {P D : Type 0} → (P → Option D) → List P → ℕ → Type 0
IsBorder before ps f = (f ≡ length ps) ⊎ (option_map before (slice_get ps f) ≡ Some None)

-- the first pieces are those of so many of the first sections, and the others those of the others
pub record IsParted {S P : Type 0} (K : S → List P → Type 0) (ss : List S) (ps : List P) (f : ℕ) : Type 0 where
  pub sections : ℕ
  pub above : AreListed K (take sections ss) (take f ps)
  pub below : AreListed K (drop sections ss) (drop f ps)
  pub within : sections ≤ length ss
  pub last : (sections ≡ length ss) ↔ (f ≡ length ps)

module _ {S P D : Type 0} (K : S → List P → Type 0) (before : P → Option D) (headed : (s : S) (c : List P) → K s c → IsHeaded before c) where
  some_in : (c : List P) → IsHeaded before c → 0 < length c
  some_in [] h = absurd h
  some_in (p ∷ c) h = omega arith

  none_later : (ps : List P) (i : ℕ) → AllByRecursion (λ q. IsSome (before q)) ps → option_map before (slice_get ps i) ≡ Some None → ⊥
  none_later [] i h e = cc
  none_later (p ∷ ps) zero h e = let same : before p ≡ None = cc in let some : IsSome (before p) = h.0 in cc
  none_later (p ∷ ps) (suc i) h e = none_later ps i h.1 e

  not_inside : (c : List P) (i : ℕ) → IsHeaded before c → option_map before (slice_get c (suc i)) ≡ Some None → ⊥
  not_inside [] i h e = h
  not_inside (p ∷ c) i h e = none_later c i h.1 e

  parted_none : (f : ℕ) → f ≡ 0 → IsParted K [] [] f
  parted_none f e = record {
    sections = 0;
    above = subst (λ (ps : List P). AreListed K [] ps) (sym (take_none f)) (none_listed K);
    below = subst (λ (ps : List P). AreListed K [] ps) (sym (drop_none f)) (none_listed K);
    within = omega arith;
    last = ((λ _. e), (λ _. refl));
  }

  parted_more : (s : S) (c : List P) (ss : List S) (ps : List P) (f : ℕ) → K s c → IsParted K ss ps f → IsParted K (s ∷ ss) (c ++ ps) (length c + f)
  parted_more s c ss ps f k h = record {
    sections = suc h.sections;
    above = subst (λ (qs : List P). AreListed K (s ∷ take h.sections ss) qs) (sym (take_second c ps f)) (more_listed K s c (take h.sections ss) (take f ps) k h.above);
    below = subst (λ (qs : List P). AreListed K (drop h.sections ss) qs) (sym (drop_second c ps f)) h.below;
    within = let w = h.within in omega arith;
    last = (
      (λ (e : suc h.sections ≡ suc (length ss)). let g : f ≡ length ps = h.last.0 (omega arith) in omega (arith, length-append c ps)),
      (λ (e : length c + f ≡ length (c ++ ps)). let g : h.sections ≡ length ss = h.last.1 (omega (arith, length-append c ps)) in omega arith),
    );
  }

  cut_parted : (ss : List S) (cs : List (List P)) (f : ℕ) → AllZip K ss cs → IsBorder before (flat cs) f → IsParted K ss (flat cs) f
  cut_parted [] [] f h (inl e) = parted_none f e
  cut_parted [] [] f h (inr e) = absurd (cc)
  cut_parted [] (c ∷ cs) f h b = absurd h
  cut_parted (s ∷ ss) [] f h b = absurd h
  cut_parted (s ∷ ss) (c ∷ cs) zero h b = record {
    sections = 0;
    above = none_listed K;
    below = record { cuts = c ∷ cs; each = h; all = refl };
    within = omega arith;
    last = (
      (λ (e : 0 ≡ suc (length ss)). absurd (omega arith)),
      (λ (e : 0 ≡ length (c ++ flat cs)). absurd (omega (arith, length-append c (flat cs), some_in c (headed s c h.0)))),
    );
  }
  cut_parted (s ∷ ss) (c ∷ cs) (suc f) h b = by (cases_lt (suc f) (length c)) b (λ g d. cut_parted ss cs g h.1 d)
    where
      beyond : (g : ℕ) → IsBorder before (c ++ flat cs) (length c + g) → IsBorder before (flat cs) g
      beyond g (inl e) = inl (omega (arith, length-append c (flat cs)))
      beyond g (inr e) = inr (ap (option_map before) (sym (at_second c (flat cs) g)) ∙ e)

      by : (suc f < length c) ⊎ (length c ≤ suc f) → IsBorder before (c ++ flat cs) (suc f)
          → ((g : ℕ) → IsBorder before (flat cs) g → IsParted K ss (flat cs) g) → IsParted K (s ∷ ss) (c ++ flat cs) (suc f)
      by (inl l) (inl e) later = absurd (omega (arith, length-append c (flat cs)))
      by (inl l) (inr e) later = absurd (not_inside c f (headed s c h.0) (ap (option_map before) (sym (at_first c (flat cs) (suc f) l)) ∙ e))
      by (inr l) d later =
          let g = suc f - length c in
          let e : length c + g ≡ suc f = omega arith in
          subst (λ (n : ℕ). IsParted K (s ∷ ss) (c ++ flat cs) n) e
          (parted_more s c ss (flat cs) g h.0 (later g (beyond g (subst (λ (n : ℕ). IsBorder before (c ++ flat cs) n) (sym e) d))))

  pub listed_parted : (ss : List S) (ps : List P) (f : ℕ) → AreListed K ss ps → IsBorder before ps f → IsParted K ss ps f
  listed_parted ss ps f h b =
      subst (λ (qs : List P). IsParted K ss qs f) (sym h.all) (cut_parted ss h.cuts f h.each (subst (λ (qs : List P). IsBorder before qs f) h.all b))

-- ---- the section in which a piece stands

-- the piece x of index i: the section's index, the index of its first piece, and its pieces above and below
pub record IsInside {S P : Type 0} (K : S → List P → Type 0) (ss : List S) (ps : List P) (i : ℕ) (x : P) : Type 0 where
  pub section : ℕ
  pub start : ℕ
  pub rows : S
  pub above : List P
  pub below : List P
  pub there : slice_get ss section ≡ Some rows
  pub kept : K rows (above ++ (x ∷ below))
  pub place : start + length above ≡ i
  pub front : AreListed K (take section ss) (take start ps)
  pub back : AreListed K (drop (section + 1) ss) (drop (i + 1 + length below) ps)
  pub all : ps ≡ take start ps ++ ((above ++ (x ∷ below)) ++ drop (i + 1 + length below) ps)

module _ {S P : Type 0} (K : S → List P → Type 0) where
  inside_first : (s : S) (c : List P) (ss : List S) (ps : List P) (i : ℕ) (x : P)
      → K s c → AreListed K ss ps → slice_get c i ≡ Some x → IsInside K (s ∷ ss) (c ++ ps) i x
  inside_first s c ss ps i x k h e =
      let r = around_item c i x e in
      let n : length c + 0 ≡ i + 1 + length r.below = omega (arith, ap length r.all, length-append r.above (x ∷ r.below), r.long) in
      let rest : drop (i + 1 + length r.below) (c ++ ps) ≡ ps = ap (λ (m : ℕ). drop m (c ++ ps)) (sym n) ∙ drop_second c ps 0 in
      record {
        section = 0;
        start = 0;
        rows = s;
        above = r.above;
        below = r.below;
        there = refl;
        kept = subst (K s) r.all k;
        place = omega (arith, r.long);
        front = none_listed K;
        back = subst (λ (qs : List P). AreListed K ss qs) (sym rest) h;
        all = ap (λ (zs : List P). zs ++ ps) r.all ∙ ap (λ (zs : List P). (r.above ++ (x ∷ r.below)) ++ zs) (sym rest);
      }

  inside_more : (s : S) (c : List P) (ss : List S) (ps : List P) (i : ℕ) (x : P)
      → K s c → IsInside K ss ps i x → IsInside K (s ∷ ss) (c ++ ps) (length c + i) x
  inside_more s c ss ps i x k h =
      let n : length c + i + 1 + length h.below ≡ length c + (i + 1 + length h.below) = omega arith in
      let rest : drop (length c + i + 1 + length h.below) (c ++ ps) ≡ drop (i + 1 + length h.below) ps =
      ap (λ (m : ℕ). drop m (c ++ ps)) n ∙ drop_second c ps (i + 1 + length h.below) in
      let next : suc (h.section + 1) ≡ suc h.section + 1 = omega arith in
      let mid = h.above ++ (x ∷ h.below) in
      let end = drop (i + 1 + length h.below) ps in
      record {
        section = suc h.section;
        start = length c + h.start;
        rows = h.rows;
        above = h.above;
        below = h.below;
        there = h.there;
        kept = h.kept;
        place = let e = h.place in omega arith;
        front = subst (λ (qs : List P). AreListed K (s ∷ take h.section ss) qs) (sym (take_second c ps h.start)) (more_listed K s c (take h.section ss) (take h.start ps) k h.front);
        back =
            subst (λ (n : ℕ). AreListed K (drop n (s ∷ ss)) (drop (length c + i + 1 + length h.below) (c ++ ps))) next
            (subst (λ (qs : List P). AreListed K (drop (h.section + 1) ss) qs) (sym rest) h.back);
        all =
            ap (λ (zs : List P). c ++ zs) h.all
            ∙ (sym (append_assoc c (take h.start ps) (mid ++ end))
            ∙ (ap (λ (zs : List P). zs ++ (mid ++ end)) (sym (take_second c ps h.start))
            ∙ ap (λ (zs : List P). take (length c + h.start) (c ++ ps) ++ (mid ++ zs)) (sym rest)));
      }

  cut_inside : (ss : List S) (cs : List (List P)) (i : ℕ) (x : P) → AllZip K ss cs → slice_get (flat cs) i ≡ Some x → IsInside K ss (flat cs) i x
  cut_inside [] [] i x h e = absurd (cc)
  cut_inside [] (c ∷ cs) i x h e = absurd h
  cut_inside (s ∷ ss) [] i x h e = absurd h
  cut_inside (s ∷ ss) (c ∷ cs) i x h e = by (cases_lt i (length c)) (λ g there. cut_inside ss cs g x h.1 there)
    where
      by : (i < length c) ⊎ (length c ≤ i)
          → ((g : ℕ) → slice_get (flat cs) g ≡ Some x → IsInside K ss (flat cs) g x) → IsInside K (s ∷ ss) (c ++ flat cs) i x
      by (inl l) later = inside_first s c ss (flat cs) i x h.0 (record { cuts = cs; each = h.1; all = refl }) (sym (at_first c (flat cs) i l) ∙ e)
      by (inr l) later =
          let g = i - length c in
          let same : length c + g ≡ i = omega arith in
          let there : slice_get (flat cs) g ≡ Some x = sym (at_second c (flat cs) g) ∙ (ap (λ (n : ℕ). slice_get (c ++ flat cs) n) same ∙ e) in
          subst (λ (n : ℕ). IsInside K (s ∷ ss) (c ++ flat cs) n x) same (inside_more s c ss (flat cs) g x h.0 (later g there))

  pub listed_inside : (ss : List S) (ps : List P) (i : ℕ) (x : P) → AreListed K ss ps → slice_get ps i ≡ Some x → IsInside K ss ps i x
  listed_inside ss ps i x h e =
      subst (λ (qs : List P). IsInside K ss qs i x) (sym h.all) (cut_inside ss h.cuts i x h.each (subst (λ (qs : List P). slice_get qs i ≡ Some x) h.all e))

  -- another piece in its place, of other rows of the section
  pub replaced_listed : (ss : List S) (ps : List P) (i : ℕ) (x : P) (h : IsInside K ss ps i x) (s : S) (y : P)
      → slice_get ps i ≡ Some x → K s (h.above ++ (y ∷ h.below))
      → AreListed K (splice ss h.section (h.section + 1) (s ∷ [])) (splice ps i (i + 1) (y ∷ []))
  replaced_listed ss ps i x h s y e k =
      let end = i + 1 + length h.below in
      let new = h.above ++ (y ∷ h.below) in
      subst (λ (qs : List P). AreListed K (splice ss h.section (h.section + 1) (s ∷ [])) qs)
      (put_around ps h.above h.below h.start end i x h.all h.place (slice_get_within ps i x e) y)
      (spliced_listed K ss (s ∷ []) ps new h.section (h.section + 1) h.start end h.front (one_listed K s new k) h.back)

-- ---- the first piece of a section, and the last one

module _ {P D : Type 0} (before : P → Option D) where
  pub is_first : (above : List P) (x : P) (below : List P) → IsHeaded before (above ++ (x ∷ below)) → before x ≡ None → above ≡ []
  is_first [] x below h e = refl
  is_first (p ∷ above) x below h e =
      let some : IsSome (before x) = (all_back (λ (q : P). IsSome (before q)) above (x ∷ below) h.1).0 in
      absurd (cc)

  next_has_some : (above : List P) (x y : P) (below : List P) → IsHeaded before (above ++ (x ∷ (y ∷ below))) → IsSome (before y)
  next_has_some [] x y below h = h.1.0
  next_has_some (p ∷ above) x y below h = (all_back (λ (q : P). IsSome (before q)) above (x ∷ (y ∷ below)) h.1).1.0

  none_next : (ps : List P) (i : ℕ) (y : P) → slice_get ps i ≡ Some y → IsSome (before y) → IsBorder before ps i → ⊥
  none_next ps i y e some (inl end) = let l : i < length ps = slice_get_within ps i y e in absurd (omega arith)
  none_next ps i y e some (inr none) =
      let same : before y ≡ None = by (before y) (sym (ap (option_map before) e) ∙ none) in
      absurd (cc)
    where
      by : (b : Option D) → Some b ≡ Some None → b ≡ None
      by b e = cc

  pub is_last : (ps above below : List P) (start end i : ℕ) (x : P)
      → ps ≡ take start ps ++ ((above ++ (x ∷ below)) ++ drop end ps) → start + length above ≡ i → i < length ps
      → IsHeaded before (above ++ (x ∷ below)) → IsBorder before ps (i + 1) → below ≡ []
  is_last ps above [] start end i x all at within h b = refl
  is_last ps above (y ∷ below) start end i x all at within h b =
      absurd (none_next ps (i + 1) y (next_around ps above (y ∷ below) start end i x all at within y below refl) (next_has_some above x y below h) b)
