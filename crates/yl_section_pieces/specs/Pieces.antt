-- Bridge: a section without a fault that is kept in pieces: runs of its rows, one after another, each with a summary and, but for the first,
-- the state before it. Any other section is kept whole.
use Rattle.std.specs.Prelude.{◌≡◌, ◌<◌, ◌≤◌, ◌⊎◌, ◌++◌, ◌∷◌, true, [], List, length, map, take, drop, Option, Some, None}
use Rattle.yl_config.specs.declared.config.Config.{Config}
use Rattle.yl_record.specs.Records.{RecordValue}
use Rattle.yl_sections.specs.Judge.{kept_of_section}
use Rattle.yl_sections.specs.Kept.{KeptValue}
use Rattle.yl_pieces.specs.State.{DocumentState, start_state}
use Rattle.yl_pieces.specs.Told.{fault_in, is_border}
use Rattle.yl_pieces.specs.Laws.{AreClosed}
use Rattle.yl_pieces.specs.Edit.{after_front}
use Rattle.yl_piece_reports.specs.Cuts.{IsInPieces}
use Rattle.yl_piece_reports.specs.Plain.{StandsWithin}

-- ---- pieces

-- the summary of a piece, and the state before its rows; of the first piece of a section no state is kept
pub record PieceValue : Type 0 where
  pub kept : KeptValue
  pub before : Option DocumentState

abbrev pub summaries : List PieceValue → List KeptValue
summaries ps = map (λ p. p.kept) ps

-- a piece may begin after these rows of a section, and this is the state after them
pub record IsStateAfter (front : List RecordValue) (s : DocumentState) : Type 0 where
  pub some : 0 < length front
  pub closed : AreClosed front
  pub sound : fault_in start_state 0 front ≡ None
  pub state : s ≡ after_front front
  pub border : is_border s ≡ true

-- the first of these rows has a lexeme
abbrev pub BeginsWithLexeme : List RecordValue → Type 0
BeginsWithLexeme [] = ⊥
BeginsWithLexeme (r ∷ rs) = 0 < length r.entry.lexemes

-- what is kept before a piece that comes after the rows `front` of its section and begins with the first of the rows `rest`. That row is not
-- empty, since it has a lexeme, but for the first row of a section
abbrev pub IsBefore : (front rest : List RecordValue) → KeptValue → Option DocumentState → Type 0
IsBefore front rest k None = front ≡ []
IsBefore front rest k (Some s) = IsStateAfter front s × (BeginsWithLexeme rest × (k.first ≡ 0))

-- the piece begins after the rows `front` of its section, with the first of the rows `rest`
pub record IsPieceOf (front rest : List RecordValue) (p : PieceValue) : Type 0 where
  pub rows : p.kept.rows ≤ length rest
  pub some : 0 < p.kept.rows
  pub within : StandsWithin p.kept
  pub before : IsBefore front rest p.kept p.before

-- these pieces, one after another, have the rows `rest`, which come after the rows `front` of the section
abbrev pub ArePiecesOf : (front rest : List RecordValue) → List PieceValue → Type 0
ArePiecesOf front rest [] = rest ≡ []
ArePiecesOf front rest (p ∷ ps) = IsPieceOf front rest p × ArePiecesOf (front ++ take p.kept.rows rest) (drop p.kept.rows rest) ps

-- ---- a section

-- the section of these rows is kept in these pieces
pub record IsKeptInPieces (config : Config) (rs : List RecordValue) (ps : List PieceValue) : Type 0 where
  pub cut : IsInPieces (kept_of_section config rs) (summaries ps)
  pub pieces : ArePiecesOf [] rs ps

-- the section of these rows as one piece
abbrev pub whole_piece : Config → List RecordValue → PieceValue
whole_piece config rs = record { kept = kept_of_section config rs; before = None }

-- the section of these rows is kept whole, or in two pieces or more
abbrev pub IsKeptSection : Config → List RecordValue → List PieceValue → Type 0
IsKeptSection config rs ps = (ps ≡ whole_piece config rs ∷ []) ⊎ (IsKeptInPieces config rs ps × (1 < length ps))
