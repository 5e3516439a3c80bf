-- Bridge: the events of the latest row that a judge has read, as it holds them. An anchor that waits
-- above the row is not among what it holds.
use Rattle.std.specs.Prelude.{◌≡◌, ◌-◌, ◌++◌, ◌==◌, if◌then◌else◌, ℕ, List, [], ◌∷◌, map, length, None}
use Rattle.yl_marks.specs.Keys.{lexeme_at_line}
use Rattle.yl_events.specs.declared.symbol.Outline.{Outline}
use Rattle.yl_events.specs.Event.{EventValue}
use Rattle.yl_events.specs.Seen.{LineValue, event_seen}
use Rattle.yl_record.specs.Records.{RecordValue}
use Rattle.yl_sections.specs.declared.row_judge.RowJudge.{RowJudge}
use Rattle.yl_pieces.specs.declared.piece.PieceJudge.{PieceJudge}
use Rattle.yl_pieces.specs.State.{DocumentState}
use Rattle.yl_pieces.specs.Told.{fault_in}
use Rattle.yl_pieces.specs.Events.{events_in, without_anchor}

-- the lexemes of the row, which is at this line. Those of the rows down to this one are counted
abbrev pub lexemes_held : {A : Type 0} → ℕ → RecordValue → RowJudge A → LineValue
lexemes_held line r d = record { lexemes = map (lexeme_at_line line) r.entry.lexemes; first = d.reader.count - length r.entry.lexemes; waiting = None }

-- for a row without lexemes the judge still holds what was told of an earlier row
abbrev pub outlines_held : {A : Type 0} → RecordValue → RowJudge A → List Outline
outlines_held r d = if length r.entry.lexemes == 0 then [] else d.reader.outlines.items

abbrev pub events_at : {A : Type 0} → ℕ → RecordValue → RowJudge A → List EventValue
events_at line r d = map (event_seen (lexemes_held line r d)) (outlines_held r d)

-- the events of the latest row that was read, which is the row above the judge's line
unfoldable pub events_held : {A : Type 0} → RecordValue → PieceJudge A → List EventValue
events_held r j = events_at (j.line - 1) r j.rows

-- where the rows have no fault, these are the events of the row after the rows, but for anchors
abbrev pub TellsEvents : DocumentState → List RecordValue → RecordValue → List EventValue → Type 0
TellsEvents s rs r es = events_in s 1 (rs ++ r ∷ []) ≡ events_in s 1 rs ++ map without_anchor es

-- the judge, which has read these rows and then this one, holds the events of the latter, if they
-- have no fault
abbrev pub TellsRow : {A : Type 0} → DocumentState → List RecordValue → RecordValue → PieceJudge A → Type 0
TellsRow s rs r j = fault_in s 1 (rs ++ r ∷ []) ≡ None → TellsEvents s rs r (events_held r j)
