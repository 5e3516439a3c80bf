-- Bridge: a section that ends anew before an edit, and the piece that comes in place of its last one.
use Rattle.std.specs.Prelude.{◌≡◌, ◌<◌, ◌≤◌, ◌+◌, ◌∷◌, ◌++◌, ℕ, true, [], List, length, take, None}
use Rattle.yl_config.specs.declared.config.Config.{Config}
use Rattle.yl_record.specs.Records.{RecordValue}
use Rattle.yl_sections.specs.Front.{IsFront}
use Rattle.yl_sections.specs.Kept.{KeptValue, rows_kept}
use Rattle.yl_sections.specs.Local.{is_start_at}
use Rattle.yl_rejudge.specs.Documents.{AreFront}
use Rattle.yl_section_pieces.specs.Pieces.{IsKeptSection, PieceValue, summaries}
use Rattle.yl_section_pieces.specs.Sections.{AreKeptSections, IsSectionBorder}

-- ---- where a section ends

-- the old section of the rows from x on, before y, ends before row `from` in the new text, and did not in the old one; no lexeme and no
-- comment begins in the rows that it loses
pub record RowsEndAnew (old new : List RecordValue) (x y from : ℕ) : Type 0 where
  pub before : x < from
  pub after : from < y
  pub start : is_start_at new from ≡ true
  pub front : AreFront old x from y

-- the piece of index i is the last one of the section that begins with the piece of index f
pub record IsLastPiece (ps : List PieceValue) (f i : ℕ) : Type 0 where
  pub order : f ≤ i
  pub within : i < length ps
  pub last : IsSectionBorder ps (i + 1)
  pub passed : (j : ℕ) → f < j → j ≤ i → IsSectionBorder ps j → ⊥

-- ---- the last piece of a section

-- the summary of fewer rows, without a fault, in which stands all that is kept
abbrev pub with_rows : ℕ → KeptValue → KeptValue
with_rows rows k = record {
  rows = rows;
  first = k.first;
  found = k.found;
  facts = k.facts;
  comments = k.comments;
  fault = None;
  hidden = [];
  parse_fault = None;
}

-- of the section of these rows, the last piece of which is x, the first rows are left, n of them in the last piece
pub record LosesRows (config : Config) (rs : List RecordValue) (above : List PieceValue) (x : PieceValue) (n : ℕ) : Type 0 where
  pub kept : IsKeptSection config rs (above ++ (x ∷ []))
  pub some : 0 < n
  pub within : rows_kept (summaries above) + n ≤ length rs
  pub front : IsFront (rows_kept (summaries above) + n) rs

-- the piece y comes in place of the last piece x of a section of which the first rows are left, n of them in this piece
abbrev pub IsShorter : Config → (x : PieceValue) (n : ℕ) → PieceValue → Type 0
IsShorter config x n y =
    (rs : List RecordValue) (above : List PieceValue) → LosesRows config rs above x n
    → IsKeptSection config (take (rows_kept (summaries above) + n) rs) (above ++ (y ∷ []))

-- these pieces come in place of the last piece x of such a section, and the sections `ss` follow it
abbrev pub AreKeptBehind : Config → (x : PieceValue) (n : ℕ) → List (List RecordValue) → List PieceValue → Type 0
AreKeptBehind config x n ss ps =
    (rs : List RecordValue) (above : List PieceValue) → LosesRows config rs above x n
    → AreKeptSections config (take (rows_kept (summaries above) + n) rs ∷ ss) (above ++ ps)
