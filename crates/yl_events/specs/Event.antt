-- Meaning: events: YAML 1.2.2, 3.1.2. Names and values are in UTF-8.
use Rattle.std.specs.Prelude.{ℕ, ◌≡◌, Bool, true, false, List, [], map, Option, Some, None, option_map, slice_get}
use Rattle.std.specs.Option.{option_map_or}
use Rattle.yl_text.specs.declared.position.Pos.{Pos}
use Rattle.yl_lexeme.specs.declared.lexeme.Style.{Style}
use Rattle.yl_lexeme.specs.Lexeme.{LexemeValue}
use Rattle.yl_events.specs.declared.symbol.Outline.{Outline}
use Rattle.yl_events.specs.declared.symbol.Shape.{Shape}
use Rattle.yl_events.specs.declared.symbol.Shape.TheVariants as shape
use Rattle.yl_events.specs.declared.event.EventKind.{EventKind}
use Rattle.yl_events.specs.declared.event.EventKind.TheVariants as kind
use Rattle.yl_events.specs.declared.event.EventAnchor.{EventAnchor}
use Rattle.yl_events.specs.declared.event.Event.{Event}
use Rattle.yl_events.specs.Derives.{Derives}
use Rattle.yl_marks.specs.Marks.{symbols_of_lexemes}

-- what an event is
pub data EventKindValue : Type 0 where
  DocumentStart : EventKindValue
  DocumentEnd : EventKindValue
  SequenceStart : EventKindValue
  SequenceEnd : EventKindValue
  MappingStart : EventKindValue
  MappingEnd : EventKindValue
  AliasOf : (name : List ℕ) → EventKindValue
  ScalarOf : (style : Style) (value : List ℕ) → EventKindValue
  Empty : EventKindValue

pub record EventAnchorValue : Type 0 where
  pub name : List ℕ
  pub place : Pos

-- an event; the place is that of its content, after properties
pub record EventValue : Type 0 where
  pub kind : EventKindValue
  pub place : Option Pos
  pub anchor : Option EventAnchorValue
  pub is_tagged : Bool

-- ---- the events of the code

abbrev pub kind_value : EventKind → EventKindValue
kind_value kind.DocumentStart = DocumentStart
kind_value kind.DocumentEnd = DocumentEnd
kind_value kind.SequenceStart = SequenceStart
kind_value kind.SequenceEnd = SequenceEnd
kind_value kind.MappingStart = MappingStart
kind_value kind.MappingEnd = MappingEnd
kind_value (kind.Alias name) = AliasOf name.now
kind_value (kind.Scalar style value) = ScalarOf style value.now
kind_value kind.Empty = Empty

abbrev pub anchor_value : Option EventAnchor → Option EventAnchorValue
anchor_value None = None
anchor_value (Some a) = Some (record { name = a.name.now; place = a.place })

abbrev pub anchor_if : Bool → List ℕ → Pos → Option EventAnchorValue
anchor_if false name place = None
anchor_if true name place = Some (record { name = name; place = place })

abbrev pub event_value : Event → EventValue
event_value e = record {
  kind = kind_value e.kind;
  place = e.place;
  anchor = anchor_if e.has_anchor e.anchor_name.now e.anchor_place;
  is_tagged = e.is_tagged;
}

-- ---- names, values and places of the lexemes of a document

abbrev pub value_of : Option LexemeValue → List ℕ
value_of x = option_map_or (λ y. y.value) x []

abbrev pub start_of : Option LexemeValue → Pos
start_of x = option_map_or (λ y. y.start) x (record { line = 0; col = 0 })

abbrev pub value_at : List LexemeValue → ℕ → List ℕ
value_at xs i = value_of (slice_get xs i)

abbrev pub start_at : List LexemeValue → ℕ → Pos
start_at xs i = start_of (slice_get xs i)

-- the value of the lexeme with which the content begins, if there is one
abbrev pub content_value : List LexemeValue → Option ℕ → List ℕ
content_value xs place = option_map_or (value_at xs) place []

abbrev pub kind_of : List LexemeValue → Shape → Option ℕ → EventKindValue
kind_of xs shape.DocumentStart place = DocumentStart
kind_of xs shape.DocumentEnd place = DocumentEnd
kind_of xs shape.SequenceStart place = SequenceStart
kind_of xs shape.SequenceEnd place = SequenceEnd
kind_of xs shape.MappingStart place = MappingStart
kind_of xs shape.MappingEnd place = MappingEnd
kind_of xs shape.Alias place = AliasOf (content_value xs place)
kind_of xs (shape.Scalar style) place = ScalarOf style (content_value xs place)
kind_of xs shape.Empty place = Empty

abbrev pub anchor_of : List LexemeValue → Option ℕ → Option EventAnchorValue
anchor_of xs place = option_map (λ i. record { name = value_at xs i; place = start_at xs i }) place

-- the event of an outline of the document with these lexemes
abbrev pub event_of_outline : List LexemeValue → Outline → EventValue
event_of_outline xs o =
    let place = option_map (start_at xs) o.place in
    record { kind = kind_of xs o.kind o.place; place = place; anchor = anchor_of xs o.anchor; is_tagged = o.is_tagged }

-- es are the events of the derivation of the document with these lexemes
pub record AreEvents (xs : List LexemeValue) (es : List EventValue) : Type 0 where
  pub outlines : List Outline
  pub derived : Derives (symbols_of_lexemes xs) outlines
  pub filled : es ≡ map (event_of_outline xs) outlines
