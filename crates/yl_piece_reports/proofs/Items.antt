-- What stands in pieces one after another, and so many lines further down.
use Rattle.std.proofs.Common.{◌≡◌, ℕ, ◌+◌, List, [], ◌∷◌, ◌++◌, map, refl, ap, sym, ◌∙◌, arith, append_assoc}
use Rattle.std.proofs.lemmas.List.{map-append}
use Rattle.yl_sections.specs.Kept.{KeptValue, rows_kept}
use Rattle.yl_piece_reports.specs.Cuts.{items_in}

-- the rows of pieces one after another
pub rows_both : (ps qs : List KeptValue) → rows_kept (ps ++ qs) ≡ rows_kept ps + rows_kept qs
rows_both [] qs = omega arith
rows_both (p ∷ ps) qs = let e : rows_kept (ps ++ qs) ≡ rows_kept ps + rows_kept qs = rows_both ps qs in omega (arith, e)

module _ {X : Type 0} (down : ℕ → X → X) (items : KeptValue → List X) where
  pub items_both : (line : ℕ) (ps qs : List KeptValue) → items_in down items line (ps ++ qs) ≡ items_in down items line ps ++ items_in down items (line + rows_kept ps) qs
  items_both line [] qs =
      let e : line ≡ line + 0 = omega arith in
      ap (λ (n : ℕ). items_in down items n qs) e
  items_both line (p ∷ ps) qs =
      let here = map (down line) (items p) in
      let more = items_in down items (line + p.rows) ps in
      let e : line + p.rows + rows_kept ps ≡ line + (p.rows + rows_kept ps) = omega arith in
      ap (λ (xs : List X). here ++ xs) (items_both (line + p.rows) ps qs)
      ∙ (ap (λ (n : ℕ). here ++ (more ++ items_in down items n qs)) e
      ∙ sym (append_assoc here more (items_in down items (line + (p.rows + rows_kept ps)) qs)))

  -- where moving twice is moving once
  module _ (twice : (n m : ℕ) (x : X) → down (n + m) x ≡ down n (down m x)) where
    map_twice : (n m : ℕ) (xs : List X) → map (down (n + m)) xs ≡ map (down n) (map (down m) xs)
    map_twice n m [] = refl
    map_twice n m (x ∷ xs) = ap (λ (y : X). y ∷ map (down (n + m)) xs) (twice n m x) ∙ ap (λ (ys : List X). down n (down m x) ∷ ys) (map_twice n m xs)

    pub items_down : (n line : ℕ) (ps : List KeptValue) → items_in down items (n + line) ps ≡ map (down n) (items_in down items line ps)
    items_down n line [] = refl
    items_down n line (p ∷ ps) =
        let here = map (down n) (map (down line) (items p)) in
        let e : n + line + p.rows ≡ n + (line + p.rows) = omega arith in
        ap (λ (xs : List X). xs ++ items_in down items (n + line + p.rows) ps) (map_twice n line (items p))
        ∙ (ap (λ (k : ℕ). here ++ items_in down items k ps) e
        ∙ (ap (λ (xs : List X). here ++ xs) (items_down n (line + p.rows) ps)
        ∙ sym (map-append (down n) (map (down line) (items p)) (items_in down items (line + p.rows) ps))))

    -- at a line, by those at line 0
    pub items_at : (line : ℕ) (ps : List KeptValue) → items_in down items line ps ≡ map (down line) (items_in down items 0 ps)
    items_at line ps =
        let e : line ≡ line + 0 = omega arith in
        ap (λ (n : ℕ). items_in down items n ps) e ∙ items_down line 0 ps
