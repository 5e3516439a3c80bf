-- Lists in three parts, cut by rows: the second part is replaced, and the third one is moved.
use Rattle.std.proofs.Common.{◌≡◌, ◌≤◌, ◌<◌, ◌+◌, ℕ, List, ◌++◌, map, not, Bool, refl, sym, ◌∙◌, ap}
use Rattle.std.specs.Prelude.{nat_lt}
use Rattle.std.specs.List.{AllByRecursion, filter}
use Rattle.std.proofs.lemmas.List.{map-append}
use Rattle.std.proofs.lemmas.List.Elements.{filter-append}
use Rattle.yl_text.specs.Finding.{FindingValue}
use Rattle.yl_report.proofs.Filtered.{filter_in, in_filter}
use Rattle.yl_lint.proofs.Arranged.{AreSame}
use Rattle.yl_pieces.specs.Patched.{below_first, in_first, list_patched, row_of}
use Rattle.yl_pieces.proofs.PatchedLists.{parts_patched}
use Rattle.yl_piece_reports.proofs.Same.{same_both, same_crossed, same_is, same_map, same_then}

-- the first part stands in the first n rows, the second in the `old` rows that come next, and the third below them
pub record AreApart {X : Type 0} (row : X → ℕ) (n old : ℕ) (xs ys zs : List X) : Type 0 where
  pub above : AllByRecursion (λ (x : X). row x < n) xs
  pub between : AllByRecursion (λ (x : X). (n ≤ row x) × (row x < n + old)) ys
  pub below : AllByRecursion (λ (x : X). n + old ≤ row x) zs

module _ {X : Type 0} (row : X → ℕ) (moved : X → X) (n old : ℕ) (new : List X) where
  abbrev patched : List X → List X
  patched xs = list_patched row moved n old xs new

  pub part_replaced : (xs ys zs zs' : List X) → AreApart row n old xs ys zs → map moved zs ≡ zs' → patched (xs ++ (ys ++ zs)) ≡ xs ++ (new ++ zs')
  part_replaced xs ys zs zs' a e = parts_patched row n old xs ys zs a.above a.between a.below moved new zs' e

  -- in a list that is cut in two ways
  pub both_replaced : (xs ys zs zs' us vs ws ws' : List X) → xs ++ (ys ++ zs) ≡ us ++ (vs ++ ws) → AreApart row n old xs ys zs
      → AreApart row n old us vs ws
      → map moved zs ≡ zs' → map moved ws ≡ ws' → xs ++ (new ++ zs') ≡ us ++ (new ++ ws')
  both_replaced xs ys zs zs' us vs ws ws' same a b e f =
      sym (part_replaced xs ys zs zs' a e) ∙ (ap (λ (ts : List X). patched ts) same ∙ part_replaced us vs ws ws' b f)

-- ---- lists with the same members

same_filter : (p : FindingValue → Bool) (xs ys : List FindingValue) → AreSame xs ys → AreSame (filter p xs) (filter p ys)
same_filter p xs ys s = record {
  there = λ f i. let r = in_filter p f xs i in filter_in p f ys (s.there f r.0) r.1;
  back = λ f i. let r = in_filter p f ys i in filter_in p f xs (s.back f r.0) r.1;
}

module _ (moved : FindingValue → FindingValue) (n old : ℕ) where
  abbrev above : List FindingValue → List FindingValue
  above xs = in_first row_of n xs

  abbrev below : List FindingValue → List FindingValue
  below xs = map moved (below_first row_of (n + old) xs)

  pub same_patched : (xs ys new : List FindingValue) → AreSame xs ys → AreSame (list_patched row_of moved n old xs new)
      (list_patched row_of moved n old ys new)
  same_patched xs ys new s =
      same_both (above xs) (new ++ below xs) (above ys) (new ++ below ys)
      (same_filter (λ (f : FindingValue). nat_lt (row_of f) n) xs ys s)
      (same_both new (below xs) new (below ys) (same_is new new refl)
      (same_map moved (below_first row_of (n + old) xs) (below_first row_of (n + old) ys)
      (same_filter (λ (f : FindingValue). not (nat_lt (row_of f) (n + old))) xs ys s)))

  cut_both : (xs ys new more : List FindingValue) → list_patched row_of moved n old (xs ++ ys) (new ++ more)
      ≡ (above xs ++ above ys) ++ ((new ++ more) ++ (below xs ++ below ys))
  cut_both xs ys new more =
      λ i. filter-append (λ (f : FindingValue). nat_lt (row_of f) n) xs ys i
      ++ ((new ++ more)
      ++ (ap (map moved) (filter-append (λ (f : FindingValue). not (nat_lt (row_of f) (n + old))) xs ys) ∙ map-append moved
      (below_first row_of (n + old) xs) (below_first row_of (n + old) ys)) i)

  -- two lists one after another, each patched by itself
  pub both_patched : (xs ys new more : List FindingValue)
      → AreSame (list_patched row_of moved n old xs new ++ list_patched row_of moved n old ys more)
      (list_patched row_of moved n old (xs ++ ys) (new ++ more))
  both_patched xs ys new more =
      let each = list_patched row_of moved n old xs new ++ list_patched row_of moved n old ys more in
      let between = (above xs ++ above ys) ++ ((new ++ below xs) ++ (more ++ below ys)) in
      let parts = (above xs ++ above ys) ++ ((new ++ more) ++ (below xs ++ below ys)) in
      let all = list_patched row_of moved n old (xs ++ ys) (new ++ more) in
      same_then each between all
      (same_crossed (above xs) (new ++ below xs) (above ys) (more ++ below ys))
      (same_then between parts all
      (same_both (above xs ++ above ys) ((new ++ below xs) ++ (more ++ below ys)) (above xs ++ above ys) ((new ++ more) ++ (below xs ++ below ys))
      (same_is (above xs ++ above ys) (above xs ++ above ys) refl)
      (same_crossed new (below xs) more (below ys)))
      (same_is parts all (sym (cut_both xs ys new more))))
