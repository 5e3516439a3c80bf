-- Bridge: a row that is marked and parsed behind others.
use Rattle.std.specs.Prelude.{◌≡◌, ℕ, true, List, [], ◌∷◌, Option, Some, None}
use Rattle.yl_marks.specs.declared.symbol.Symbol.{Symbol}
use Rattle.yl_marks.specs.declared.symbol.Symbol.TheVariants.{OpenSequence, OpenMapping, BeginKey, Close, One}
use Rattle.yl_marks.specs.FactsByLine.{KeyMarkerValue}
use Rattle.yl_marks.specs.MarksAlike.{IsAbove, KeyMarkerState, key_marker_state}
use Rattle.yl_events.specs.declared.fault.PlacedParseFault.{PlacedParseFault}
use Rattle.yl_events.specs.declared.symbol.Outline.{Outline}
use Rattle.yl_events.specs.DocumentOutcome.{steps}
use Rattle.yl_events.specs.SymbolParsing.{FeedsSymbols, SymbolParserValue}
use Rattle.yl_events.specs.Trail.{trail_after}
use Rattle.yl_sections.specs.declared.row_reader.RowReader.{RowReader}

-- a marker that goes on from a state; the rows count from line 1
pub record MarksFrom (s : KeyMarkerState) (m : KeyMarkerValue) : Type 0 where
  pub state : key_marker_state m ≡ s
  pub above : IsAbove 1 m.marks

-- the number of lexemes is the marker's, where it is known
abbrev pub IsCounted : {A : Type 0} → RowReader A → Type 0
IsCounted r = r.is_counted ≡ true → r.count ≡ r.marker.marks.count

-- the index of the first lexeme among the symbols
abbrev pub first_index : List Symbol → ℕ
first_index [] = 0
first_index (OpenSequence i ∷ ws) = first_index ws
first_index (OpenMapping i ∷ ws) = first_index ws
first_index (BeginKey i ∷ ws) = first_index ws
first_index (Close ∷ ws) = first_index ws
first_index (One kind i ∷ ws) = i

-- the symbols of a row are taken, or the document has this fault
pub record ParsesFrom (p : SymbolParserValue) (first : ℕ) (ws : List Symbol) (fault : Option PlacedParseFault) (q : SymbolParserValue) (out : List Outline) : Type 0 where
  pub told : FeedsSymbols p first [] ws fault q out
  pub taken : fault ≡ None → steps ws p.goals [] ≡ Some (record { goals = q.goals; events = out })
  pub trail : fault ≡ None → q.trail ≡ trail_after p.trail ws
