-- Bridge: what is kept of a piece, by what is told of its rows from the state before them; and laws: a section without a fault is a piece,
-- and a piece is cut into two where another may begin.
use Rattle.std.specs.Prelude.{ℕ, ◌≡◌, ◌<◌, ◌-◌, ◌++◌, true, List, [], ◌∷◌, map, length, None}
use Rattle.std.specs.List.{filter}
use Rattle.yl_text.specs.declared.finding.RuleId.TheVariants.{Indentation}
use Rattle.yl_text.specs.Finding.{FindingValue}
use Rattle.yl_lexeme.specs.Lexeme.{PlacedCommentValue}
use Rattle.yl_indentation.specs.declared.fact.Fact.{Fact}
use Rattle.yl_rules.specs.Addressed.{is_addressed}
use Rattle.yl_config.specs.declared.config.Config.{Config}
use Rattle.yl_record.specs.Records.{RecordValue}
use Rattle.yl_sections.specs.Judge.{document_of, kept_of_section}
use Rattle.yl_sections.specs.Kept.{KeptValue, event_findings, is_on, items_if, shown_comment_findings}
use Rattle.yl_sections.specs.Sections.{lexemes_of}
use Rattle.yl_pieces.specs.State.{DocumentState, start_state}
use Rattle.yl_pieces.specs.Told.{Told, fault_in, is_border, state_after, told}
use Rattle.yl_pieces.specs.Laws.{AreClosed}
use Rattle.yl_pieces.specs.Patched.{below_first, in_first, row_of}
use Rattle.yl_piece_reports.specs.Cuts.{IsInPieces}

-- ---- so many lines further up

abbrev pub finding_above : ℕ → FindingValue → FindingValue
finding_above n f = record f { line = f.line - n }

abbrev pub fact_above : ℕ → Fact → Fact
fact_above n f = record f { line = f.line - n }

abbrev pub comment_above : ℕ → PlacedCommentValue → PlacedCommentValue
comment_above n c = record c { line = c.line - n }

-- ---- the summary of a piece

-- of so many rows without a fault, of which this was told from this line on. What the rules on keys and anchors find in the piece is given,
-- with lines that count from its first row
abbrev pub kept_by_told : Config → (first rows line : ℕ) → Told → List FindingValue → KeptValue
kept_by_told config first rows line t in_events = record {
  rows = rows;
  first = first;
  found = map (finding_above line) (t.found ++ shown_comment_findings config t.comments) ++ in_events;
  facts = items_if (is_on config Indentation) (map (fact_above line) t.facts);
  comments = map (comment_above line) (filter is_addressed t.comments);
  fault = None;
  hidden = [];
  parse_fault = None;
}

-- where a piece begins
pub record PieceStart : Type 0 where
  -- the column of a section's first lexeme; 0 where no section begins
  pub first : ℕ
  -- the line from which on its rows are told: 0 where a section begins, or else 1, since a comment in them is not the first of the text
  pub line : ℕ
  pub state : DocumentState

-- of these rows
abbrev pub kept_of_piece : Config → PieceStart → List RecordValue → List FindingValue → KeptValue
kept_of_piece config p rs in_events = kept_by_told config p.first (length rs) p.line (told config p.state p.line rs) in_events

-- ---- a piece in two

-- where the next piece begins, after these rows
abbrev pub start_after : PieceStart → List RecordValue → PieceStart
start_after p front = record { first = 0; line = 1; state = state_after p.state p.line front }

-- a piece may begin after these rows, which have no fault
pub record IsBorderAfter (p : PieceStart) (front : List RecordValue) : Type 0 where
  pub some : 0 < length front
  pub closed : AreClosed front
  pub sound : fault_in p.state p.line front ≡ None
  pub border : is_border (state_after p.state p.line front) ≡ true

-- what the rules on keys and anchors find goes with the lines in which it stands
abbrev pub pieces_in_two : Config → PieceStart → (front rest : List RecordValue) → List FindingValue → List KeptValue
pieces_in_two config p front rest in_events =
    kept_of_piece config p front (in_first row_of (length front) in_events)
    ∷ (kept_of_piece config (start_after p front) rest (map (finding_above (length front)) (below_first row_of (length front) in_events)) ∷ [])

abbrev pub PieceIsCut : Type 0
PieceIsCut = (config : Config) (p : PieceStart) (front rest : List RecordValue) (in_events : List FindingValue) → IsBorderAfter p front
    → IsInPieces (kept_of_piece config p (front ++ rest) in_events) (pieces_in_two config p front rest in_events)

-- ---- a section

-- where a section begins
abbrev pub section_start : Config → List RecordValue → PieceStart
section_start config rs = record { first = (kept_of_section config rs).first; line = 0; state = start_state }

-- what the rules on keys and anchors find in a section
abbrev pub found_in_events : Config → List RecordValue → List FindingValue
found_in_events config rs = event_findings config (document_of (lexemes_of rs)).events

-- a section without a fault is a piece
abbrev pub SectionIsPiece : Type 0
SectionIsPiece = (config : Config) (rs : List RecordValue) → (kept_of_section config rs).fault ≡ None
    → kept_of_section config rs ≡ kept_of_piece config (section_start config rs) rs (found_in_events config rs)

-- and is cut into two
abbrev pub FaultlessSectionIsCut : Type 0
FaultlessSectionIsCut = (config : Config) (front rest : List RecordValue) →
    let start = section_start config (front ++ rest) in
    (kept_of_section config (front ++ rest)).fault ≡ None → IsBorderAfter start front
    → IsInPieces (kept_of_section config (front ++ rest)) (pieces_in_two config start front rest (found_in_events config (front ++ rest)))
