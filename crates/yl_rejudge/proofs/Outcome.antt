-- The sections that are judged again, from where the code finds them.
use Rattle.std.proofs.Common.{◌≡◌, ℕ, ◌∷◌, ◌+◌, ◌-◌, ◌<◌, ◌≤◌, ◌==◌, ◌⊎◌, true, false, List, length, map, take, drop, get_or, ap, sym, subst, ◌∙◌, arith, cond, inl, inr}
use Rattle.std.specs.List.{splice}
use Rattle.yl_config.specs.declared.config.Config.{Config}
use Rattle.yl_record.specs.Records.{RecordValue}
use Rattle.yl_sections.specs.Sections.{sections}
use Rattle.yl_sections.specs.Local.{is_start_at, row_total}
use Rattle.yl_sections.specs.Kept.{KeptValue, documents_in, rows_kept}
use Rattle.yl_sections.specs.Judge.{kept_of_section}
use Rattle.yl_rejudge.specs.Places.{AreAround, changed_sections}
use Rattle.yl_sections.specs.Alike.{GoOnAlike}
use Rattle.yl_sections.specs.Holding.{TakesNothing, documents_holding}
use Rattle.yl_rejudge.specs.Documents.{AreFront, EndsAnew}
use Rattle.yl_sections.proofs.KeptRows.{rows_front}
use Rattle.yl_rejudge.proofs.SectionsEdited.{AreCut, rows_of_kept, rows_to, count_kept, within_new, changed, kept_spliced}
use Rattle.yl_rejudge.proofs.Bound.{AreNext, in_section, z_high, documents_near}
use Rattle.yl_rejudge.proofs.Anew.{high, changed_anew, documents_anew, kept_anew, section_there, section_reaches}
use Rattle.yl_sections.specs.Front.{IsFront}

pub record Outcome (old new : List RecordValue) (p q x z from end : ℕ) : Type 0 where
  pub ordered : x ≤ z
  pub within : z ≤ length new
  pub changed : splice (sections old) p q (changed_sections p x z new) ≡ sections new
  pub near : (m : ℕ) → end ≤ m + 1 → from < length new → (documents_in (changed_sections p x z new) ≤ documents_holding 0 from m (sections new))
      ⊎ ((is_start_at old from ≡ false) × ((is_start_at new from ≡ true) × (x < from)))
  pub last : is_start_at old from ≡ false → is_start_at new from ≡ true → x < from → (p < length (sections old)) × (from < row_total (take (p + 1) (sections old)))
  pub anew : is_start_at new from ≡ true → x < from → from ≤ z
  pub changed_anew : is_start_at new from ≡ true → x < from → splice (sections old) p q (drop x (take from new) ∷ changed_sections (p + 1) from z new) ≡ sections new
  pub few_anew : is_start_at new from ≡ true → x < from → (m : ℕ) → end ≤ m + 1 → documents_in (changed_sections (p + 1) from z new) ≤ documents_holding 0 from m (sections new)

module _ (config : Config) (old new : List RecordValue) (kept : List KeptValue) (from old_end end : ℕ) (is : kept ≡ map (kept_of_section config) (sections old)) where
  at : (j : ℕ) → rows_kept (take j kept) ≡ row_total (take j (sections old))
  at j = rows_to config old kept j is

  count : length kept ≡ length (sections old)
  count = count_kept config old kept is

  -- where the code looks
  pub row_few : (q y : ℕ) → y ≡ rows_kept (take q kept) → y ≤ length old
  row_few q y e = omega (arith, e, rows_front kept q, rows_of_kept config old kept is)

  module _ (p p0 q x y z : ℕ) where
    cut : take from old ≡ take from new → drop old_end old ≡ drop end new → x ≤ from → p ≤ q → q ≤ length kept → x ≡ rows_kept (take p kept) → y ≡ rows_kept (take q kept)
        → z ≡ cond (q == length kept) (length new) (y - old_end + end) → (p ≡ 0) ⊎ (is_start_at new x ≡ true)
        → (q ≡ length kept) ⊎ ((old_end ≤ y) × (is_start_at new (y - old_end + end) ≡ true)) → AreCut old new p q x y z from old_end end
    cut before behind xf pq ql xe ye ze first last = record {
      before = before;
      behind = behind;
      front = xf;
      ordered = pq;
      within = omega (arith, ql, count);
      x_is = xe ∙ at p;
      y_is = ye ∙ at q;
      z_is = ze ∙ ap (λ n. cond (q == n) (length new) (y - old_end + end)) count;
      first = first;
      last = elim last [ inl e ↦ inl (e ∙ count) | inr h ↦ inr h ];
    }

    next : ((j : ℕ) → p < j → j ≤ p0 → is_start_at new (rows_kept (take j kept)) ≡ false) → (p0 ≡ length kept) ⊎ (from < rows_kept (take (p0 + 1) kept))
        → ((j : ℕ) → p ≤ j → j < q → old_end ≤ rows_kept (take j kept) → is_start_at new (rows_kept (take j kept) - old_end + end) ≡ false)
        → from ≤ old_end → from ≤ end → end ≤ length new → GoOnAlike old new old_end end → AreNext old new p p0 q from old_end end
    next front after back old_range range within alike = record {
      front = λ j l o. ap (λ n. is_start_at new n) (sym (at j)) ∙ front j l o;
      next = elim after [ inl e ↦ inl (e ∙ count) | inr l ↦ inr (omega (arith, l, at (p0 + 1))) ];
      back = λ j o l k. ap (λ n. is_start_at new (n - old_end + end)) (sym (at j)) ∙ back j o l (omega (arith, k, at j));
      old_range = old_range;
      range = range;
      within = within;
      alike = alike;
    }

    pub outcome : take from old ≡ take from new → drop old_end old ≡ drop end new → x ≤ from → p ≤ q → q ≤ length kept → x ≡ rows_kept (take p kept) → y ≡ rows_kept (take q kept)
        → z ≡ cond (q == length kept) (length new) (y - old_end + end) → (p ≡ 0) ⊎ (is_start_at new x ≡ true)
        → (q ≡ length kept) ⊎ ((old_end ≤ y) × (is_start_at new (y - old_end + end) ≡ true))
        → ((j : ℕ) → p < j → j ≤ p0 → is_start_at new (rows_kept (take j kept)) ≡ false) → (p0 ≡ length kept) ⊎ (from < rows_kept (take (p0 + 1) kept))
        → ((j : ℕ) → p ≤ j → j < q → old_end ≤ rows_kept (take j kept) → is_start_at new (rows_kept (take j kept) - old_end + end) ≡ false)
        → from ≤ old_end → from ≤ end → end ≤ length new → GoOnAlike old new old_end end → p ≤ p0 → p0 ≤ length kept → rows_kept (take p0 kept) ≤ from → from ≤ length old → Outcome old new p q x z from end
    outcome before behind xf pq ql xe ye ze first last front after back old_range range within alike order few reached there =
        let c = cut before behind xf pq ql xe ye ze first last in
        let d = next front after back old_range range within alike in
        let o : x ≤ z = let h = z_high old new p p0 q x y z from old_end end c d in omega (arith, h, xf, range) in
        record {
          ordered = o;
          within = within_new old new p q x y z from old_end end c;
          changed = changed old new p q x y z from old_end end c o;
          near = documents_near old new p p0 q x y z from old_end end c d;
          last = λ lost start l.
              let r : row_total (take p0 (sections old)) ≤ from = omega (arith, reached, at p0) in
              let f : p0 ≤ length (sections old) = omega (arith, few, count) in
              (section_there old new p p0 q x y z from old_end end c d start l lost r order f there, section_reaches old new p p0 q x y z from old_end end c d start l lost r order f there);
          anew = λ start l. high old new p p0 q x y z from old_end end c d start l;
          changed_anew = λ start l. changed_anew old new p p0 q x y z from old_end end c d start l;
          few_anew = λ start l m w. documents_anew old new p p0 q x y z from old_end end c d start l m w;
        }

  -- where nothing was read of the rows that leave the last section above, it is seen to end anew; else what is judged is few
  pub seen_anew : (p q x z : ℕ) → x ≡ rows_kept (take p kept) → Outcome old new p q x z from end → TakesNothing old new from → ¬ (EndsAnew kept old new p from)
      → (m : ℕ) → end ≤ m + 1 → documents_in (changed_sections p x z new) ≤ documents_holding 0 from m (sections new)
  seen_anew p q x z xe o h not_seen m w = elim (o.near m w h.within) [
    | inl few ↦ few
    | inr g ↦
        let there = o.last g.0 g.1.0 g.1.1 in
        let front = h.front g.0 g.1.0 in
        let low : row_total (take p (sections old)) ≤ from = omega (arith, g.1.1, xe, at p) in
        absurd (not_seen (record {
          section = omega (arith, there.0, count);
          before = omega (arith, g.1.1, xe);
          after = omega (arith, there.1, at (p + 1));
          start = g.1.0;
          front = λ i r a b e. (λ l. front.sound i r l e, λ l. front.bare i r l (in_section old p from i low (omega (arith, b, at (p + 1)))) e);
        }))
  ]

  pub kept_rows : rows_kept kept ≡ length old
  kept_rows = rows_of_kept config old kept is

  -- what is kept where the section above ends anew
  pub anew_spliced : (p q x z : ℕ) → x ≡ rows_kept (take p kept) → take from old ≡ take from new → Outcome old new p q x z from end → EndsAnew kept old new p from
      → (k : KeptValue) → k ≡ get_or kept p k → (ks : List KeptValue)
      → ((rs : List RecordValue) → from - x ≤ length rs → IsFront (from - x) rs → k ≡ kept_of_section config rs
      → ks ≡ kept_of_section config (take (from - x) rs) ∷ map (kept_of_section config) (changed_sections (p + 1) from z new))
      → splice kept p q ks ≡ map (kept_of_section config) (sections new)
  anew_spliced p q x z xe same o e k at_p ks put =
      let before : x < from = omega (arith, e.before, xe) in
      let few : rows_kept (take (p + 1) kept) ≤ length old = omega (arith, rows_front kept (p + 1), rows_of_kept config old kept is) in
      let front : AreFront old x from (rows_kept (take (p + 1) kept)) = subst (λ n. AreFront old n from (rows_kept (take (p + 1) kept))) (sym xe) e.front in
      let judged = kept_anew config old new p x (rows_kept (take (p + 1) kept)) from k kept ks (changed_sections (p + 1) from z new) is (omega (arith, e.section, count)) (xe ∙ at p) (at (p + 1)) few before e.after same front at_p put in
      kept_spliced config old new kept ks (drop x (take from new) ∷ changed_sections (p + 1) from z new) p q is judged (o.changed_anew e.start before)

-- the sections that are judged again, from where the code finds them
pub around : (new : List RecordValue) (kept : List KeptValue) (from old_end end p q here x y : ℕ) → x ≡ rows_kept (take p kept) → x ≤ here → here ≤ from → y ≡ rows_kept (take q kept)
    → (q ≡ length kept) ⊎ ((old_end ≤ y) × (is_start_at new (y - old_end + end) ≡ true)) → AreAround kept new from old_end end p q
around new kept from old_end end p q here x y xe l m ye last = record {
  first = omega (arith, xe, l, m);
  last = subst (λ n. (q ≡ length kept) ⊎ ((old_end ≤ n) × (is_start_at new (n - old_end + end) ≡ true))) ye last;
}
