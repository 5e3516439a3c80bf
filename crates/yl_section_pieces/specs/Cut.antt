-- Bridge: what is kept of a section, cut where its pieces begin.
use Rattle.std.specs.Prelude.{ℕ, ◌+◌, ◌-◌, ◌==◌, if◌then◌else◌, List, [], ◌∷◌, drop, length, map, nat_lt, Option, Some, None}
use Rattle.std.specs.List.{take_while}
use Rattle.yl_text.specs.Finding.{FindingValue}
use Rattle.yl_sections.specs.Kept.{KeptValue}
use Rattle.yl_pieces.specs.State.{DocumentState}
use Rattle.yl_pieces.specs.Patched.{row_of}
use Rattle.yl_piece_reports.specs.Told.{comment_above, fact_above, finding_above}
use Rattle.yl_section_pieces.specs.declared.borders.Border.{Border}
use Rattle.yl_section_pieces.specs.declared.cut.Cursor.{Cursor}
use Rattle.yl_section_pieces.specs.Pieces.{PieceValue}

-- the items at the start of a list that stand above this row. The function says in which row an item stands
abbrev pub above_row : {X : Type 0} → (X → ℕ) → ℕ → List X → List X
above_row row end xs = take_while (λ x. nat_lt (row x) end) xs

-- where the first piece begins
abbrev pub at_start : Cursor
at_start = record { row = 0; found = 0; facts = 0; comments = 0 }

-- the summary of the piece that begins here and ends above the row `end`. What is found is given in the order of lines
abbrev pub piece_at : KeptValue → List FindingValue → Cursor → (end : ℕ) → KeptValue
piece_at k found at end = record {
  rows = end - at.row;
  first = if at.row == 0 then k.first else 0;
  found = map (finding_above at.row) (above_row row_of end (drop at.found found));
  facts = map (fact_above at.row) (above_row (λ f. f.line) end (drop at.facts k.facts));
  comments = map (comment_above at.row) (above_row (λ c. c.line) end (drop at.comments k.comments));
  fault = None;
  hidden = [];
  parse_fault = None;
}

-- where the next piece begins
abbrev pub next_after : KeptValue → List FindingValue → Cursor → (end : ℕ) → Cursor
next_after k found at end = let p = piece_at k found at end in record {
  row = end;
  found = at.found + length p.found;
  facts = at.facts + length p.facts;
  comments = at.comments + length p.comments;
}

-- the piece that begins here, before which this is kept, and those that begin at the borders
abbrev pub pieces_from : {A : Type 0} → KeptValue → List FindingValue → Cursor → Option DocumentState → List (Border A) → List PieceValue
pieces_from k found at before [] = record { kept = piece_at k found at k.rows; before = before } ∷ []
pieces_from k found at before (b ∷ bs) =
    record { kept = piece_at k found at b.row; before = before } ∷ pieces_from k found (next_after k found at b.row) (Some b.state) bs
