-- Bridge: the summaries of a text's sections, cut into those of pieces. A section without a fault may be kept in pieces: runs of its rows,
-- one after another, each with a summary of its own, whose lines count from the piece's first row.
use Rattle.std.specs.Prelude.{ℕ, ◌≡◌, ◌+◌, ◌⊎◌, List, [], ◌∷◌, ◌++◌, map, Some, None, option_map, slice_get}
use Rattle.std.specs.List.{AllByRecursion, AllZip, Contains, flat_map}
use Rattle.yl_text.specs.Finding.{FindingValue}
use Rattle.yl_indentation.specs.FactsAlike.{fact_below}
use Rattle.yl_sections.specs.Kept.{KeptValue, rows_kept}
use Rattle.yl_lint.specs.TextReport.{moved, moved_comment}

-- ---- what stands in pieces

-- the items of pieces, one after another, where the first piece begins at this line. The functions say how an item is moved so many lines
-- down, and which items a piece has
abbrev pub items_in : {X : Type 0} → (ℕ → X → X) → (KeptValue → List X) → ℕ → List KeptValue → List X
items_in down items line [] = []
items_in down items line (p ∷ ps) = map (down line) (items p) ++ items_in down items (line + p.rows) ps

-- each member of the one list is one of the other
pub record HaveSameMembers (xs ys : List FindingValue) : Type 0 where
  pub there : (f : FindingValue) → Contains xs f → Contains ys f
  pub back : (f : FindingValue) → Contains ys f → Contains xs f

-- ---- a section and its pieces

-- it has no fault, and a fault hides nothing of it
pub record IsFaultless (k : KeptValue) : Type 0 where
  pub fault : k.fault ≡ None
  pub hidden : k.hidden ≡ []
  pub parse_fault : k.parse_fault ≡ None

-- all that is kept of the section is kept of its pieces. A report asks of what is found no more than that it is found
pub record IsInPieces (k : KeptValue) (ps : List KeptValue) : Type 0 where
  pub whole : IsFaultless k
  pub parts : AllByRecursion IsFaultless ps
  pub first : option_map (λ p. p.first) (slice_get ps 0) ≡ Some k.first
  pub rows : rows_kept ps ≡ k.rows
  pub found : HaveSameMembers (items_in moved (λ p. p.found) 0 ps) k.found
  pub facts : items_in fact_below (λ p. p.facts) 0 ps ≡ k.facts
  pub comments : items_in moved_comment (λ p. p.comments) 0 ps ≡ k.comments

-- the section stays whole, or is cut into these pieces
abbrev pub IsCutOf : KeptValue → List KeptValue → Type 0
IsCutOf k ps = (ps ≡ k ∷ []) ⊎ IsInPieces k ps

-- the summaries `ps` are those of the sections `ks`, each whole or in pieces
pub record AreCutsOf (ks ps : List KeptValue) : Type 0 where
  pub cuts : List (List KeptValue)
  pub each : AllZip IsCutOf ks cuts
  pub all : ps ≡ flat_map (λ c. c) cuts
