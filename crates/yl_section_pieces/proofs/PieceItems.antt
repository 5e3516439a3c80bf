-- What stands in pieces one after another: in which rows, and further down.
use Rattle.std.proofs.Common.{◌≡◌, ◌≤◌, ◌<◌, ◌+◌, ◌-◌, ℕ, List, [], ◌∷◌, ◌++◌, map, refl, sym, ◌∙◌, ap, arith}
use Rattle.std.specs.List.{AllByRecursion}
use Rattle.yl_text.proofs.Every.{all_both, all_map, all_then}
use Rattle.yl_sections.specs.Kept.{KeptValue, rows_kept}
use Rattle.yl_pieces.proofs.PatchedLists.{map_moved}
use Rattle.yl_piece_reports.specs.Cuts.{items_in}
use Rattle.yl_piece_reports.proofs.Items.{items_at, items_both}
use Rattle.yl_section_pieces.proofs.Replaced.{AreApart, both_replaced}

-- where what a function gives is what two others give, one after the other
pub map_as : {X : Type 0} (f g h : X → X) (P : X → Type 0) → ((x : X) → P x → f (g x) ≡ h x) → (xs : List X) → AllByRecursion P xs
    → map f (map g xs) ≡ map h xs
map_as f g h P each [] a = refl
map_as {X = X} f g h P each (x ∷ xs) a =
    ap (λ (y : X). y ∷ map f (map g xs)) (each x a.0) ∙ ap (λ (ys : List X). h x ∷ ys) (map_as f g h P each xs a.1)

module _ {X : Type 0} (row : X → ℕ) (down : ℕ → X → X) (items : KeptValue → List X) (Own : ℕ → X → Type 0)
    (lies : (line rows : ℕ) (x : X) → Own rows x → (line ≤ row (down line x)) × (row (down line x) < line + rows)) where
  abbrev Stands : (line rows : ℕ) → X → Type 0
  Stands line rows x = (line ≤ row x) × (row x < line + rows)

  abbrev pub HasOwn : KeptValue → Type 0
  HasOwn k = AllByRecursion (Own k.rows) (items k)

  -- the items of pieces stand in the rows of these
  pub items_stand : (line : ℕ) (ks : List KeptValue) → AllByRecursion HasOwn ks
      → AllByRecursion (Stands line (rows_kept ks)) (items_in down items line ks)
  items_stand line [] h = tt
  items_stand line (k ∷ ks) h =
      all_both (Stands line (k.rows + rows_kept ks)) (map (down line) (items k)) (items_in down items (line + k.rows) ks)
      (all_map (Stands line (k.rows + rows_kept ks)) (Own k.rows) (down line) (items k) (λ x o. here line k.rows (rows_kept ks) x o) h.0)
      (all_then (Stands (line + k.rows) (rows_kept ks)) (Stands line (k.rows + rows_kept ks)) (items_in down items (line + k.rows) ks)
      (λ x s. there line k.rows (rows_kept ks) x s) (items_stand (line + k.rows) ks h.1))
    where
      here : (line rows more : ℕ) (x : X) → Own rows x → Stands line (rows + more) (down line x)
      here line rows more x o = let s = lies line rows x o in (s.0, omega (arith, s.1))

      there : (line rows more : ℕ) (x : X) → Stands (line + rows) more x → Stands line (rows + more) x
      there line rows more x s = (omega (arith, s.0), omega (arith, s.1))

  -- a piece between others
  module _ (n old : ℕ) (above below : List KeptValue) (p : KeptValue) (rows_above : rows_kept above ≡ n) (rows : p.rows ≡ old) where
    pub in_three : items_in down items 0 (above ++ (p ∷ below))
        ≡ items_in down items 0 above ++ (map (down n) (items p) ++ items_in down items (n + old) below)
    in_three =
        let first = items_in down items 0 above in
        let line : 0 + rows_kept above ≡ n = omega (arith, rows_above) in
        items_both down items 0 above (p ∷ below)
        ∙ (ap (λ (k : ℕ). first ++ (map (down k) (items p) ++ items_in down items (k + p.rows) below)) line
        ∙ ap (λ (k : ℕ). first ++ (map (down n) (items p) ++ items_in down items (n + k) below)) rows)

    pub are_apart : AllByRecursion HasOwn above → HasOwn p → AllByRecursion HasOwn below
        → AreApart row n old (items_in down items 0 above) (map (down n) (items p)) (items_in down items (n + old) below)
    are_apart a o b = record {
      above = all_then (Stands 0 (rows_kept above)) (λ (x : X). row x < n) (items_in down items 0 above) (λ x s. first x s) (items_stand 0 above a);
      between = all_map (λ (x : X). (n ≤ row x) × (row x < n + old)) (Own p.rows) (down n) (items p) (λ x w. second x w) o;
      below =
          all_then (Stands (n + old) (rows_kept below)) (λ (x : X). n + old ≤ row x) (items_in down items (n + old) below) (λ x s. s.0)
          (items_stand (n + old) below b);
    }
      where
        first : (x : X) → Stands 0 (rows_kept above) x → row x < n
        first x s = omega (arith, s.1, rows_above)

        second : (x : X) → Own p.rows x → (n ≤ row (down n x)) × (row (down n x) < n + old)
        second x w = let s = lies n p.rows x w in (s.0, omega (arith, s.1, rows))

  -- pieces further down
  module _ (twice : (n m : ℕ) (x : X) → down (n + m) x ≡ down n (down m x)) (old new : ℕ) (moved : X → X)
      (onto : (n : ℕ) (x : X) → moved (down (n + old) x) ≡ down (n + new) x) where
    pub items_moved : (n : ℕ) (ks : List KeptValue) → map moved (items_in down items (n + old) ks) ≡ items_in down items (n + new) ks
    items_moved n ks =
        ap (map moved) (items_at down items twice (n + old) ks)
        ∙ (map_moved (down (n + old)) (down (n + new)) moved (λ x. onto n x) (items_in down items 0 ks)
        ∙ sym (items_at down items twice (n + new) ks))

    -- ---- one piece in place of another: what is told of the rows above it, of its own from line 1 on, and of those below it

    module _ (n : ℕ) (some : 0 < n) (above below : List KeptValue) (p q : KeptValue) (rows_above : rows_kept above ≡ n) (rows : p.rows ≡ old)
        (new_rows : q.rows ≡ new)
        (a : AllByRecursion HasOwn above) (o : HasOwn p) (b : AllByRecursion HasOwn below) where
      -- the list is patched
      pub in_three_patched : (added : List X) → map (down n) (items q) ≡ added
          → items_in down items 0 (above ++ (q ∷ below)) ≡ items_in down items 0 above ++ (added ++ items_in down items (n + new) below)
      in_three_patched added e =
          in_three n new above below q rows_above new_rows
          ∙ ap (λ (xs : List X). items_in down items 0 above ++ (xs ++ items_in down items (n + new) below)) e

      module _ (first second third came : List X) (added : map (down n) (items q) ≡ map (down (n - 1)) came)
          (apart : AreApart row n old first (map (down (n - 1)) second) (map (down (n + old - 1)) third)) where
        onto_told : (x : X) → moved (down (n + old - 1) x) ≡ down (n + new - 1) x
        onto_told x =
            let was : n + old - 1 ≡ n - 1 + old = omega (arith, some) in
            let now : n - 1 + new ≡ n + new - 1 = omega (arith, some) in
            ap (λ (k : ℕ). moved (down k x)) was ∙ (onto (n - 1) x ∙ ap (λ (k : ℕ). down k x) now)

        -- the items of the pieces are those that are told of all rows
        pub items_replaced : items_in down items 0 (above ++ (p ∷ below)) ≡ first ++ (map (down (n - 1)) second ++ map (down (n + old - 1)) third)
            → items_in down items 0 (above ++ (q ∷ below)) ≡ first ++ (map (down (n - 1)) came ++ map (down (n + new - 1)) third)
        items_replaced was =
            in_three_patched (map (down (n - 1)) came) added
            ∙ both_replaced row moved n old (map (down (n - 1)) came)
            (items_in down items 0 above) (map (down n) (items p)) (items_in down items (n + old) below) (items_in down items (n + new) below)
            first (map (down (n - 1)) second) (map (down (n + old - 1)) third) (map (down (n + new - 1)) third)
            (sym (in_three n old above below p rows_above rows) ∙ was)
            (are_apart n old above below p rows_above rows a o b)
            apart
            (items_moved n below)
            (map_moved (down (n + old - 1)) (down (n + new - 1)) moved onto_told third)
