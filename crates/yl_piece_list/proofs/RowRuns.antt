-- Rows of a text, of which some are put in place of others.
use Rattle.std.proofs.Common.{◌≡◌, ◌≤◌, ◌+◌, ◌-◌, ℕ, zero, suc, List, [], ◌∷◌, ◌++◌, length, take, drop, Some, sym, ◌∙◌, ap, arith, rules, append_assoc}
use Rattle.std.specs.Prelude.{slice_get}
use Rattle.std.proofs.lemmas.List.{same_lists, places, take_at, drop_at, take-append-drop, length-append}
use Rattle.yl_record.specs.Records.{RecordValue}
use Rattle.yl_sections.specs.Local.{all_rows}

module _ {X : Type 0} where
  shorter : (xs : List X) (a b : ℕ) → a ≤ b → take a xs ≡ take a (take b xs)
  shorter xs a b o = same_lists _ _ (search (rules, places)) (λ k d h. grind (arith, places))

  pub same_above : (old new : List X) (a b : ℕ) → a ≤ b → take b old ≡ take b new → take a old ≡ take a new
  same_above old new a b o e = shorter old a b o ∙ (ap (λ (xs : List X). take a xs) e ∙ sym (shorter new a b o))

  further : (xs : List X) (m n : ℕ) → m ≤ n → drop n xs ≡ drop (n - m) (drop m xs)
  further xs m n o = same_lists _ _ (search (rules, places)) (λ k d h. grind (arith, places))

  again : (xs : List X) (m n : ℕ) → drop (m + n) xs ≡ drop m (drop n xs)
  again xs m n = same_lists _ _ (search (rules, places)) (λ k d h. grind (arith, places))

  pub same_below : (old new : List X) (y old_end end : ℕ) → old_end ≤ y → drop old_end old ≡ drop end new → drop y old ≡ drop (y - old_end + end) new
  same_below old new y old_end end o e = further old old_end y o ∙ (ap (λ (xs : List X). drop (y - old_end) xs) e ∙ sym (again new (y - old_end) end))

  -- rows in three parts
  pub in_three : (xs : List X) (a b : ℕ) → a ≤ b → xs ≡ take a xs ++ (drop a (take b xs) ++ drop b xs)
  in_three xs a b o =
      sym (take-append-drop b xs)
      ∙ (ap (λ (ys : List X). ys ++ drop b xs) (sym (take-append-drop a (take b xs)))
      ∙ (append_assoc (take a (take b xs)) (drop a (take b xs)) (drop b xs)
      ∙ ap (λ (ys : List X). ys ++ (drop a (take b xs) ++ drop b xs)) (sym (shorter xs a b o))))

  pub middle : (front own back : List X) (a b : ℕ) → length front ≡ a → a + length own ≡ b → drop a (take b (front ++ (own ++ back))) ≡ own
  middle front own back a b at long =
      ap (λ (ys : List X). drop a (take b ys)) (sym (append_assoc front own back))
      ∙ (ap (λ (ys : List X). drop a ys) (take_at (front ++ own) back b (omega (arith, length-append front own, at, long))) ∙ drop_at front own a at)

  pub after : (front own back : List X) (a b : ℕ) → length front ≡ a → a + length own ≡ b → drop b (front ++ (own ++ back)) ≡ back
  after front own back a b at long =
      ap (λ (ys : List X). drop b ys) (sym (append_assoc front own back)) ∙ drop_at (front ++ own) back b (omega (arith, length-append front own, at, long))

  pub regrouped : (a b c d e : List X) → a ++ ((b ++ (c ++ d)) ++ e) ≡ (a ++ b) ++ (c ++ (d ++ e))
  regrouped a b c d e = simp append_assoc

-- the rows of a section among those of all
pub rows_around : (ss : List (List RecordValue)) (i : ℕ) (rs : List RecordValue) → slice_get ss i ≡ Some rs
    → all_rows ss ≡ all_rows (take i ss) ++ (rs ++ all_rows (drop (i + 1) ss))
rows_around [] i rs e = absurd (cc)
rows_around (s ∷ ss) zero rs e = let same : s ≡ rs = cc in ap (λ (ys : List RecordValue). ys ++ all_rows ss) same
rows_around (s ∷ ss) (suc i) rs e =
    let n : suc i + 1 ≡ suc (i + 1) = omega arith in
    ap (λ (ys : List RecordValue). s ++ ys) (rows_around ss i rs e)
    ∙ (sym (append_assoc s (all_rows (take i ss)) (rs ++ all_rows (drop (i + 1) ss)))
    ∙ ap (λ (m : ℕ). all_rows (take (suc i) (s ∷ ss)) ++ (rs ++ all_rows (drop m (s ∷ ss)))) (sym n))
