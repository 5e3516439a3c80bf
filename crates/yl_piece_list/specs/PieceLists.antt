-- Bridge: the pieces of all sections in two lists: what is kept of each, and the state before it, if one is kept.
use Rattle.std.specs.Prelude.{List, [], ◌∷◌, map, Option}
use Rattle.yl_sections.specs.Kept.{KeptValue}
use Rattle.yl_pieces.specs.State.{DocumentState}
use Rattle.yl_section_pieces.specs.Pieces.{PieceValue}

-- the pieces of two lists of the same length
abbrev pub pieces_of : List KeptValue → List (Option DocumentState) → List PieceValue
pieces_of [] bs = []
pieces_of (k ∷ ks) [] = []
pieces_of (k ∷ ks) (b ∷ bs) = record { kept = k; before = b } ∷ pieces_of ks bs

abbrev pub states : List PieceValue → List (Option DocumentState)
states ps = map (λ p. p.before) ps

-- the state before a piece, if one is kept
abbrev pub StateBeforeValue : Type 0
StateBeforeValue = Option DocumentState
