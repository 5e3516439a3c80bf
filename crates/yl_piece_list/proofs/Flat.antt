-- The sections that are judged again, from where the code finds their pieces.
use Rattle.std.proofs.Common.{◌≡◌, ℕ, zero, suc, ◌∷◌, [], ◌+◌, ◌-◌, ◌<◌, ◌≤◌, ◌==◌, ◌⊎◌, Bool, true, false, List, length, map, take, drop, refl, ap, sym, subst, ◌∙◌, arith, cond, inl, inr}
use Rattle.std.specs.List.{splice}
use Rattle.std.proofs.lemmas.Bool.{cases_eq, cases_lt, eq-eqb, ne_eqb}
use Rattle.std.proofs.lemmas.List.{length-map, take-map}
use Rattle.yl_config.specs.declared.config.Config.{Config}
use Rattle.yl_record.specs.Records.{RecordValue}
use Rattle.yl_sections.specs.Sections.{sections}
use Rattle.yl_sections.specs.Local.{is_start_at, row_total}
use Rattle.yl_sections.specs.Kept.{KeptValue, rows_kept}
use Rattle.yl_sections.specs.Judge.{kept_of_section}
use Rattle.yl_sections.specs.Alike.{GoOnAlike}
use Rattle.yl_rejudge.proofs.SectionsEdited.{rows_to}
use Rattle.yl_rejudge.proofs.Outcome.{Outcome, outcome}
use Rattle.yl_section_pieces.specs.Pieces.{IsKeptSection, PieceValue, summaries}
use Rattle.yl_section_pieces.specs.Sections.{AreKeptSections, IsSectionBorder}
use Rattle.yl_section_pieces.proofs.Sections as laws
use Rattle.yl_section_pieces.proofs.SectionsHeaded.{section_headed}
use Rattle.yl_section_pieces.proofs.SectionsListed.{AreListed}
use Rattle.yl_piece_list.proofs.Starts.{above_start, all_starts, below_start, border_start, held_at, start_at, start_border, starts_apart, starts_ordered}

-- more pieces have more rows
pub rows_between : (js : List KeptValue) (a b : ℕ) → a ≤ b → rows_kept (take a js) ≤ rows_kept (take b js)
rows_between js zero b o = omega arith
rows_between [] (suc a) zero o = omega arith
rows_between [] (suc a) (suc b) o = omega arith
rows_between (j ∷ js) (suc a) zero o = absurd (omega arith)
rows_between (j ∷ js) (suc a) (suc b) o = let h = rows_between js a b (omega arith) in omega arith

module _ (config : Config) where
  pub kept_listed : (ss : List (List RecordValue)) (ps : List PieceValue) → AreListed (IsKeptSection config) ss ps → AreKeptSections config ss ps
  kept_listed ss ps h = record { cuts = h.cuts; each = h.each; all = h.all }

module _ (config : Config) (old : List RecordValue) (ps : List PieceValue) (h : AreKeptSections config (sections old) ps) where
  abbrev ss : List (List RecordValue)
  ss = sections old

  abbrev ks : List KeptValue
  ks = map (kept_of_section config) (sections old)

  -- the index of the first piece of the section of index j
  abbrev pub start : ℕ → ℕ
  start j = start_at h.cuts j

  pub above : (j : ℕ) → AreKeptSections config (take j (sections old)) (take (start_at h.cuts j) ps)
  above j =
      subst (λ (qs : List PieceValue). AreKeptSections config (take j ss) (take (start j) qs)) (sym h.all)
      (kept_listed config (take j ss) _ (above_start (IsKeptSection config) (λ p. p.before) (section_headed config) ss h.cuts j h.each))

  pub below : (j : ℕ) → AreKeptSections config (drop j (sections old)) (drop (start_at h.cuts j) ps)
  below j =
      subst (λ (qs : List PieceValue). AreKeptSections config (drop j ss) (drop (start j) qs)) (sym h.all)
      (kept_listed config (drop j ss) _ (below_start (IsKeptSection config) (λ p. p.before) (section_headed config) ss h.cuts j h.each))

  pub rows_at : (j : ℕ) → rows_kept (take (start_at h.cuts j) (summaries ps)) ≡ row_total (take j (sections old))
  rows_at j = ap rows_kept (take-map (λ (p : PieceValue). p.kept) (start j) ps) ∙ laws.sections_are_listed.rows config (take j ss) (take (start j) ps) (above j)

  kept_at : (j : ℕ) → rows_kept (take j (map (kept_of_section config) (sections old))) ≡ rows_kept (take (start_at h.cuts j) (summaries ps))
  kept_at j = rows_to config old ks j refl ∙ sym (rows_at j)

  pub border_at : (j : ℕ) → IsSectionBorder ps (start_at h.cuts j)
  border_at j =
      subst (λ (qs : List PieceValue). IsSectionBorder qs (start j)) (sym h.all)
      (start_border (IsKeptSection config) (λ p. p.before) (section_headed config) ss h.cuts j h.each)

  -- a section begins with the piece of index f
  pub record IsSection (f : ℕ) : Type 0 where
    pub section : ℕ
    pub within : section ≤ length (sections old)
    pub at : f ≡ start_at h.cuts section

  pub section_at : (f : ℕ) → IsSectionBorder ps f → IsSection f
  section_at f b =
      let s = border_start (IsKeptSection config) (λ p. p.before) (section_headed config) ss h.cuts f h.each (subst (λ (qs : List PieceValue). IsSectionBorder qs f) h.all b) in
      record { section = s.section; within = s.within; at = s.at }

  pub apart : (i j : ℕ) → i < j → j ≤ length (sections old) → start_at h.cuts i < start_at h.cuts j
  apart i j l o = starts_apart (IsKeptSection config) (λ p. p.before) (section_headed config) ss h.cuts i j h.each l o

  pub start_end : start_at h.cuts (length (sections old)) ≡ length ps
  start_end =
      all_starts (IsKeptSection config) (λ p. p.before) (section_headed config) ss h.cuts (length ss) h.each (omega arith)
      ∙ ap (λ (qs : List PieceValue). length qs) (sym h.all)

  -- sections in the order of their first pieces
  pub in_order : (p q : ℕ) → p ≤ length (sections old) → start_at h.cuts p ≤ start_at h.cuts q → p ≤ q
  in_order p q w o = elim (cases_lt q p) [
    | inl l ↦ absurd (omega (arith, apart q p l w))
    | inr l ↦ l
  ]

  pub at_end : (q : ℕ) → q ≤ length (sections old) → start_at h.cuts q ≡ length ps → q ≡ length (sections old)
  at_end q w e = elim (cases_lt q (length ss)) [
    | inl l ↦ absurd (omega (arith, apart q (length ss) l (omega arith), start_end, e))
    | inr l ↦ omega (arith, l, w)
  ]

  -- the section of a piece, or the end of all sections
  record IsAround (i : ℕ) : Type 0 where
    section : ℕ
    few : section ≤ length (sections old)
    low : start_at h.cuts section ≤ i
    next : (section ≡ length (sections old)) ⊎ (i < start_at h.cuts (suc section))

  around : (i : ℕ) → i ≤ length ps → IsAround i
  around i w = elim (cases_lt i (length ps)) [
    | inl l ↦
        let same = ap (λ (qs : List PieceValue). length qs) h.all in
        let d = held_at (IsKeptSection config) (λ p. p.before) (section_headed config) ss h.cuts i h.each (omega (arith, l, same)) in
        record { section = d.section; few = let m = d.within in omega (arith, m); low = d.above; next = inr d.below }
    | inr l ↦ record { section = length ss; few = omega arith; low = omega (arith, l, start_end); next = inl refl }
  ]

  -- ---- where the code looks

  pub record IsFound (new : List RecordValue) (f e x z from end : ℕ) : Type 0 where
    pub p : ℕ
    pub q : ℕ
    pub p_within : p ≤ length (sections old)
    pub q_within : q ≤ length (sections old)
    pub p_at : f ≡ start_at h.cuts p
    pub q_at : e ≡ start_at h.cuts q
    pub outcome : Outcome old new p q x z from end

  module _ (new : List RecordValue) (f i e x row y z from old_end end : ℕ) where
    z_same : (q : ℕ) → q ≤ length (sections old) → e ≡ start_at h.cuts q → cond (e == length ps) (length new) (y - old_end + end) ≡ cond (q == length (map (kept_of_section config) (sections old))) (length new) (y - old_end + end)
    z_same q w at = elim (cases_eq e (length ps)) [
      | inl is ↦
          let all : q ≡ length ss = at_end q w (sym at ∙ is) in
          ap (λ (b : Bool). cond b (length new) (y - old_end + end)) (eq-eqb e (length ps) is)
          ∙ sym (ap (λ (b : Bool). cond b (length new) (y - old_end + end)) (eq-eqb q (length ks) (all ∙ sym (length-map ss (kept_of_section config)))))
      | inr not ↦
          let ne : q ≡ length ks → ⊥ = λ w. not (at ∙ (ap start (w ∙ length-map ss (kept_of_section config)) ∙ start_end)) in
          ap (λ (b : Bool). cond b (length new) (y - old_end + end)) (ne_eqb e (length ps) not)
          ∙ sym (ap (λ (b : Bool). cond b (length new) (y - old_end + end)) (ne_eqb q (length ks) ne))
    ]

    pub found : take from old ≡ take from new → drop old_end old ≡ drop end new
        → f ≤ i → i ≤ length ps → f ≤ e → e ≤ length ps
        → x ≡ rows_kept (take f (summaries ps)) → row ≡ rows_kept (take i (summaries ps)) → y ≡ rows_kept (take e (summaries ps))
        → z ≡ cond (e == length ps) (length new) (y - old_end + end)
        → (f ≡ 0) ⊎ (IsSectionBorder ps f × (is_start_at new x ≡ true))
        → (e ≡ length ps) ⊎ (IsSectionBorder ps e × ((old_end ≤ y) × (is_start_at new (y - old_end + end) ≡ true)))
        → ((j : ℕ) → f < j → j ≤ i → IsSectionBorder ps j → is_start_at new (rows_kept (take j (summaries ps))) ≡ false)
        → row ≤ from → (i ≡ length ps) ⊎ (from < rows_kept (take (i + 1) (summaries ps)))
        → ((j : ℕ) → f ≤ j → j < e → IsSectionBorder ps j × (old_end ≤ rows_kept (take j (summaries ps))) → is_start_at new (rows_kept (take j (summaries ps)) - old_end + end) ≡ false)
        → from ≤ old_end → from ≤ end → end ≤ length new → GoOnAlike old new old_end end → from ≤ length old
        → IsFound new f e x z from end
    found before behind fi il fe el xe re ye ze first last front low next back old_range range within alike there =
        let pf : IsSection f = elim first [
          | inl e ↦ record { section = 0; within = omega arith; at = e }
          | inr b ↦ section_at f b.0
        ] in
        let qe : IsSection e = elim last [
          | inl e ↦ record { section = length ss; within = omega arith; at = e ∙ sym start_end }
          | inr b ↦ section_at e b.0
        ] in
        let p0 = around i il in
        let p = pf.section in
        let q = qe.section in
        let count = length-map ss (kept_of_section config) in
        let x_at : x ≡ rows_kept (take p ks) = xe ∙ (ap (λ n. rows_kept (take n (summaries ps))) pf.at ∙ sym (kept_at p)) in
        let y_at : y ≡ rows_kept (take q ks) = ye ∙ (ap (λ n. rows_kept (take n (summaries ps))) qe.at ∙ sym (kept_at q)) in
        let onto_here : x ≤ from = omega (arith, xe, re, low, rows_between (summaries ps) f i fi) in
        let ordered : p ≤ p0.section = elim (cases_lt p0.section p) [
          | inl l ↦ elim p0.next [
            | inl e ↦ absurd (omega (arith, l, e, pf.within))
            | inr n ↦ absurd (omega (arith, n, fi, pf.at, starts_ordered h.cuts (suc p0.section) p (omega (arith, l))))
          ]
          | inr l ↦ l
        ] in
        record {
          p = p;
          q = q;
          p_within = pf.within;
          q_within = qe.within;
          p_at = pf.at;
          q_at = qe.at;
          outcome = outcome config old new ks from old_end end refl p p0.section q x y z before behind onto_here
              (in_order p q pf.within (omega (arith, pf.at, qe.at, fe)))
              (omega (arith, qe.within, count))
              x_at y_at (ze ∙ z_same q qe.within qe.at)
              (elim first [
                | inl e ↦ inl (in_first p pf.within (sym pf.at ∙ e))
                | inr b ↦ inr b.1
              ])
              (elim last [
                | inl e ↦ inl (at_end q qe.within (sym qe.at ∙ e) ∙ sym count)
                | inr b ↦ inr b.1
              ])
              (λ j l o.
              let high : j ≤ length ss = omega (arith, o, p0.few) in
              let later : f < start j = omega (arith, pf.at, apart p j l high) in
              let upto : start j ≤ i = omega (arith, p0.low, starts_ordered h.cuts j p0.section o) in
              ap (λ n. is_start_at new n) (kept_at j) ∙ front (start j) later upto (border_at j))
              (elim p0.next [
                | inl e ↦ inl (e ∙ sym count)
                | inr n ↦ elim next [
                  | inl e ↦ inl (absurd (omega (arith, n, e, last_start (suc p0.section))))
                  | inr l ↦
                      let one : suc p0.section ≡ p0.section + 1 = omega arith in
                      let at : rows_kept (take (p0.section + 1) ks) ≡ rows_kept (take (start (suc p0.section)) (summaries ps)) = ap (λ n. rows_kept (take n ks)) (sym one) ∙ kept_at (suc p0.section) in
                      inr (omega (arith, l, at, rows_between (summaries ps) (i + 1) (start (suc p0.section)) (omega (arith, n))))
                ]
              ])
              (λ j o l k.
              let high : j < length ss = omega (arith, l, qe.within) in
              let from_f : f ≤ start j = omega (arith, pf.at, starts_ordered h.cuts p j o) in
              let to_e : start j < e = omega (arith, qe.at, apart j q l qe.within) in
              ap (λ n. is_start_at new (n - old_end + end)) (kept_at j) ∙ back (start j) from_f to_e (border_at j, omega (arith, k, kept_at j)))
              old_range range within alike ordered (omega (arith, p0.few, count))
              (omega (arith, low, re, kept_at p0.section, rows_between (summaries ps) (start p0.section) i p0.low))
              there;
        }
      where
        in_first : (p : ℕ) → p ≤ length (sections old) → start_at h.cuts p ≡ 0 → p ≡ 0
        in_first zero w e = refl
        in_first (suc p) w e = absurd (omega (arith, e, apart 0 (suc p) (omega arith) w))

        last_start : (j : ℕ) → start_at h.cuts j ≤ length ps
        last_start j = elim (cases_lt (length ss) j) [
          | inl l ↦
              let all = all_starts (IsKeptSection config) (λ p. p.before) (section_headed config) ss h.cuts j h.each (omega (arith, l)) in
              let same = ap (λ (qs : List PieceValue). length qs) h.all in
              omega (arith, all, same)
          | inr l ↦ omega (arith, starts_ordered h.cuts j (length ss) l, start_end)
        ]

    -- other sections in their place
    pub put : (d : IsFound new f e x z from end) (cs : List (List RecordValue)) (nps : List PieceValue)
        → splice (sections old) d.p d.q cs ≡ sections new → AreKeptSections config cs nps → AreKeptSections config (sections new) (splice ps f e nps)
    put d cs nps is k =
        let front : AreKeptSections config (take d.p ss) (take f ps) = subst (λ n. AreKeptSections config (take d.p ss) (take n ps)) (sym d.p_at) (above d.p) in
        let back : AreKeptSections config (drop d.q ss) (drop e ps) = subst (λ n. AreKeptSections config (drop d.q ss) (drop n ps)) (sym d.q_at) (below d.q) in
        subst (λ (us : List (List RecordValue)). AreKeptSections config us (splice ps f e nps)) is
        (laws.sections_are_listed.spliced config ss cs ps nps d.p d.q f e front k back)
