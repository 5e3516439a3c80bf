-- What stands in sections and what stands in their pieces: rows, facts and comments.
use Rattle.std.proofs.Common.{◌≡◌, ℕ, ◌+◌, List, [], ◌∷◌, ◌++◌, map, refl, ap, sym, ◌∙◌, inl, inr, arith, append-nil}
use Rattle.std.specs.List.{AllZip, flat_map}
use Rattle.yl_lexeme.specs.Lexeme.{PlacedCommentValue}
use Rattle.yl_indentation.specs.declared.fact.Fact.{Fact}
use Rattle.yl_indentation.specs.FactsAlike.{fact_below}
use Rattle.yl_sections.specs.Kept.{KeptValue, rows_kept}
use Rattle.yl_lint.specs.TextReport.{comments_in_sections, moved_comment}
use Rattle.yl_piece_reports.specs.Cuts.{IsCutOf, IsInPieces, items_in}
use Rattle.yl_piece_reports.proofs.Items.{items_at, items_both, rows_both}

-- the pieces of all sections
abbrev pub flat : List (List KeptValue) → List KeptValue
flat cs = flat_map (λ c. c) cs

abbrev pub AreCut : List KeptValue → List (List KeptValue) → Type 0
AreCut ks cs = AllZip IsCutOf ks cs

-- ---- rows

pub cut_rows : (k : KeptValue) (c : List KeptValue) → IsCutOf k c → rows_kept c ≡ k.rows
cut_rows k c (inl e) = let z : k.rows + 0 ≡ k.rows = omega arith in ap rows_kept e ∙ z
cut_rows k c (inr h) = h.rows

pub all_rows : (ks : List KeptValue) (cs : List (List KeptValue)) → AreCut ks cs → rows_kept (flat cs) ≡ rows_kept ks
all_rows [] [] h = refl
all_rows [] (c ∷ cs) h = absurd h
all_rows (k ∷ ks) [] h = absurd h
all_rows (k ∷ ks) (c ∷ cs) h =
    let here : rows_kept c ≡ k.rows = cut_rows k c h.0 in
    let more : rows_kept (flat cs) ≡ rows_kept ks = all_rows ks cs h.1 in
    let both : rows_kept (c ++ flat cs) ≡ rows_kept c + rows_kept (flat cs) = rows_both c (flat cs) in
    omega (arith, here, more, both)

-- ---- items that are the same in the same order

module _ {X : Type 0} (down : ℕ → X → X) (items : KeptValue → List X) (twice : (n m : ℕ) (x : X) → down (n + m) x ≡ down n (down m x))
    (agree : (k : KeptValue) (ps : List KeptValue) → IsInPieces k ps → items_in down items 0 ps ≡ items k) where
  cut_at : (line : ℕ) (k : KeptValue) (c : List KeptValue) → IsCutOf k c → items_in down items line c ≡ map (down line) (items k)
  cut_at line k c (inl e) = ap (items_in down items line) e ∙ append-nil (map (down line) (items k))
  cut_at line k c (inr h) = items_at down items twice line c ∙ ap (map (down line)) (agree k c h)

  pub all_items : (line : ℕ) (ks : List KeptValue) (cs : List (List KeptValue)) → AreCut ks cs → items_in down items line (flat cs) ≡ items_in down items line ks
  all_items line [] [] h = refl
  all_items line [] (c ∷ cs) h = absurd h
  all_items line (k ∷ ks) [] h = absurd h
  all_items line (k ∷ ks) (c ∷ cs) h =
      items_both down items line c (flat cs)
      ∙ (ap (λ (n : ℕ). items_in down items line c ++ items_in down items (line + n) (flat cs)) (cut_rows k c h.0)
      ∙ (ap (λ (xs : List X). xs ++ items_in down items (line + k.rows) (flat cs)) (cut_at line k c h.0)
      ∙ ap (λ (xs : List X). map (down line) (items k) ++ xs) (all_items (line + k.rows) ks cs h.1)))

-- ---- facts

pub fact_twice : (n m : ℕ) (f : Fact) → fact_below (n + m) f ≡ fact_below n (fact_below m f)
fact_twice n m f =
    let e : n + m + f.line ≡ n + (m + f.line) = omega arith in
    λ i. record { line = e i; column = f.column; expectation = f.expectation }

pub all_facts : (line : ℕ) (ks : List KeptValue) (cs : List (List KeptValue)) → AreCut ks cs
    → items_in fact_below (λ k. k.facts) line (flat cs) ≡ items_in fact_below (λ k. k.facts) line ks
all_facts line ks cs h = all_items fact_below (λ k. k.facts) fact_twice (λ k ps p. p.facts) line ks cs h

-- ---- comments

comment_twice : (n m : ℕ) (c : PlacedCommentValue) → moved_comment (n + m) c ≡ moved_comment n (moved_comment m c)
comment_twice n m c =
    let e : n + m + c.line ≡ n + (m + c.line) = omega arith in
    λ i. record { line = e i; column = c.column; text = c.text; behind = c.behind }

pub comments_are : (line : ℕ) (ks : List KeptValue) → comments_in_sections line ks ≡ items_in moved_comment (λ k. k.comments) line ks
comments_are line [] = refl
comments_are line (k ∷ ks) = ap (λ (cs : List PlacedCommentValue). map (moved_comment line) k.comments ++ cs) (comments_are (line + k.rows) ks)

pub all_comment_items : (line : ℕ) (ks : List KeptValue) (cs : List (List KeptValue)) → AreCut ks cs
    → items_in moved_comment (λ k. k.comments) line (flat cs) ≡ items_in moved_comment (λ k. k.comments) line ks
all_comment_items line ks cs h = all_items moved_comment (λ k. k.comments) comment_twice (λ k ps p. p.comments) line ks cs h

pub all_comments : (line : ℕ) (ks : List KeptValue) (cs : List (List KeptValue)) → AreCut ks cs → comments_in_sections line (flat cs) ≡ comments_in_sections line ks
all_comments line ks cs h =
    comments_are line (flat cs) ∙ (all_comment_items line ks cs h ∙ sym (comments_are line ks))
