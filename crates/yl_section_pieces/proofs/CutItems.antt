-- What stands in the pieces into which a section is cut.
use Rattle.std.proofs.Common.{◌≡◌, ◌<◌, ◌≤◌, ◌+◌, ◌-◌, ℕ, List, [], ◌∷◌, ◌++◌, length, drop, map, ap, sym, ◌∙◌, subst, arith, append-nil, Option, Some}
use Rattle.std.specs.List.{AllByRecursion}
use Rattle.std.proofs.lemmas.List.{drop-drop, length-map}
use Rattle.yl_text.specs.Finding.{FindingValue}
use Rattle.yl_text.proofs.Every.{all_drop, all_map}
use Rattle.yl_sections.specs.Kept.{KeptValue}
use Rattle.yl_pieces.specs.State.{DocumentState}
use Rattle.yl_piece_reports.specs.Cuts.{items_in}
use Rattle.yl_section_pieces.specs.declared.borders.Border.{Border}
use Rattle.yl_section_pieces.specs.declared.cut.Cursor.{Cursor}
use Rattle.yl_section_pieces.specs.Pieces.{summaries}
use Rattle.yl_section_pieces.specs.Cut.{above_row, next_after, piece_at, pieces_from}
use Rattle.yl_section_pieces.proofs.CutLists.{IsParted, above_all, above_and_left, above_passes, above_whole, all_and, left_below, map_back, parted_drop}

-- the items from an index on stand in this row or below
abbrev pub AreLow : {X : Type 0} → (X → ℕ) → List X → (start from : ℕ) → Type 0
AreLow row xs start from = AllByRecursion (λ x. start ≤ row x) (drop from xs)

-- the borders come one after another, and the list is parted at each
abbrev pub IsPartedAt : {A X : Type 0} → (X → ℕ) → List X → (low : ℕ) → List (Border A) → Type 0
IsPartedAt row xs low [] = Unit {0}
IsPartedAt row xs low (b ∷ bs) = (low ≤ b.row) × IsParted row b.row xs × IsPartedAt row xs b.row bs

-- of one of the lists of a section: in which row an item stands, how it is moved down and up, which items a piece has, and how many stand before
-- them
module _ (k : KeptValue) (found : List FindingValue) {X : Type 0} (row : X → ℕ) (down above : ℕ → X → X) (items : KeptValue → List X) (index : Cursor → ℕ) (xs : List X)
    (items_are : (at : Cursor) (end : ℕ) → items (piece_at k found at end) ≡ map (above at.row) (above_row row end (drop (index at) xs)))
    (index_is : (at : Cursor) (end : ℕ) → index (next_after k found at end) ≡ index at + length (items (piece_at k found at end)))
    (back : (n : ℕ) (x : X) → n ≤ row x → down n (above n x) ≡ x) where
  -- the items of the rows from this place on
  abbrev left : Cursor → List X
  left at = drop (index at) xs

  abbrev part : Cursor → ℕ → List X
  part at end = above_row row end (left at)

  left_after : (at : Cursor) (end : ℕ) → left (next_after k found at end) ≡ drop (length (part at end)) (left at)
  left_after at end =
      let many : length (items (piece_at k found at end)) ≡ length (part at end) = ap (λ (ys : List X). length ys) (items_are at end) ∙ length-map (part at end) (above at.row) in
      ap (λ (n : ℕ). drop n xs) (index_is at end ∙ ap (λ (n : ℕ). index at + n) many) ∙ sym (drop-drop (length (part at end)) (index at) xs)

  pub low_after : (at : Cursor) (end : ℕ) → IsParted row end xs → AreLow row xs end (index (next_after k found at end))
  low_after at end h =
      subst (λ (ys : List X). AllByRecursion (λ x. end ≤ row x) ys) (sym (left_after at end)) (left_below row end (left at) (parted_drop row end (index at) xs h))

  here : (at : Cursor) (end : ℕ) → AreLow row xs at.row (index at) → map (down at.row) (items (piece_at k found at end)) ≡ part at end
  here at end low =
      ap (map (down at.row)) (items_are at end)
      ∙ map_back (down at.row) (above at.row) (λ x. at.row ≤ row x) (back at.row) (part at end) (above_all row (λ x. at.row ≤ row x) end (left at) low)

  -- they stand in the rows of the piece
  pub within : (P : X → Type 0) (Q : ℕ → X → Type 0) → ((start end : ℕ) (x : X) → P x → start ≤ row x → row x < end → Q (end - start) (above start x)) → AllByRecursion P xs
      → (at : Cursor) (end : ℕ) → AreLow row xs at.row (index at) → AllByRecursion (Q (end - at.row)) (items (piece_at k found at end))
  within P Q each all at end low =
      let Among : X → Type 0 = λ x. (P x × (at.row ≤ row x)) × (row x < end) in
      let among : AllByRecursion Among (part at end) =
      all_and (λ x. P x × (at.row ≤ row x)) (λ x. row x < end) (part at end)
      (all_and P (λ x. at.row ≤ row x) (part at end) (above_all row P end (left at) (all_drop P xs (index at) all)) (above_all row (λ x. at.row ≤ row x) end (left at) low))
      (above_passes row end (left at)) in
      subst (λ (ys : List X). AllByRecursion (Q (end - at.row)) ys) (sym (items_are at end))
      (all_map (Q (end - at.row)) Among (above at.row) (part at end) (λ x h. each at.row end x h.0.0 h.0.1 h.1) among)

  module _ {A : Type 0} (all : AllByRecursion (λ x. row x < k.rows) xs) where
    pub items_left : (at : Cursor) (before : Option DocumentState) (bs : List (Border A)) → AreLow row xs at.row (index at) → IsPartedAt row xs at.row bs
        → items_in down items at.row (summaries (pieces_from k found at before bs)) ≡ left at
    items_left at before [] low h =
        append-nil (map (down at.row) (items (piece_at k found at k.rows)))
        ∙ (here at k.rows low ∙ above_whole row k.rows (left at) (all_drop (λ x. row x < k.rows) xs (index at) all))
    items_left at before (b ∷ bs) low h =
        let next = next_after k found at b.row in
        let more = summaries (pieces_from k found next (Some b.state) bs) in
        let near : at.row ≤ b.row = h.0 in
        let e : at.row + (b.row - at.row) ≡ b.row = omega (arith, near) in
        ap (λ (ys : List X). ys ++ items_in down items (at.row + (b.row - at.row)) more) (here at b.row low)
        ∙ (ap (λ (n : ℕ). part at b.row ++ items_in down items n more) e
        ∙ (ap (λ (ys : List X). part at b.row ++ ys) (items_left next (Some b.state) bs (low_after at b.row h.1) h.2 ∙ left_after at b.row)
        ∙ above_and_left row b.row (left at)))
