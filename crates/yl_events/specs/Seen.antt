-- Bridge: the events of a line, by the lexemes of the line and the anchor that waits for its node
-- before it.
use Rattle.std.specs.Prelude.{ℕ, ◌≡◌, ◌<◌, ◌+◌, ◌-◌, ◌==◌, nat_lt, if◌then◌else◌, List, [], length, Option, Some, None, IfSome, option_map, slice_get}
use Rattle.std.specs.Option.{option_map_or}
use Rattle.yl_text.specs.declared.position.Pos.{Pos}
use Rattle.yl_lexeme.specs.Lexeme.{LexemeValue}
use Rattle.yl_events.specs.declared.symbol.Outline.{Outline}
use Rattle.yl_events.specs.declared.symbol.Shape.{Shape}
use Rattle.yl_events.specs.declared.symbol.Shape.TheVariants as shape
use Rattle.yl_events.specs.Event.{EventValue, EventKindValue, EventAnchorValue, DocumentStart, DocumentEnd, SequenceStart, SequenceEnd, MappingStart, MappingEnd, AliasOf, ScalarOf, Empty, start_at, value_at, start_of, value_of}
use Rattle.yl_events.specs.declared.line_lexemes.WaitingAnchor.{WaitingAnchor}

-- an anchor of an earlier line: its index in the document, its name and its place
pub record WaitingAnchorValue : Type 0 where
  pub index : ℕ
  pub name : List ℕ
  pub place : Pos

abbrev pub waiting_value : WaitingAnchor → WaitingAnchorValue
waiting_value w = record { index = w.index; name = w.name.now; place = w.place }

-- the lexemes of a line, the number of lexemes of the document before them, and the anchor that
-- waits
pub record LineValue : Type 0 where
  pub lexemes : List LexemeValue
  pub first : ℕ
  pub waiting : Option WaitingAnchorValue

-- the anchor that waits, if it has this index
abbrev pub waits_at : ℕ → Option WaitingAnchorValue → Option WaitingAnchorValue
waits_at i None = None
waits_at i (Some w) = if w.index == i then Some w else None

-- the lexeme of the line with this index in the document
abbrev pub lexeme_of_line : LineValue → ℕ → Option LexemeValue
lexeme_of_line l i = if nat_lt i l.first then None else slice_get l.lexemes (i - l.first)

-- the value and the place of the lexeme with this index
abbrev pub value_seen : LineValue → ℕ → List ℕ
value_seen l i = option_map_or (λ w. w.name) (waits_at i l.waiting) (value_of (lexeme_of_line l i))

abbrev pub start_seen : LineValue → ℕ → Pos
start_seen l i = option_map_or (λ w. w.place) (waits_at i l.waiting) (start_of (lexeme_of_line l i))

abbrev pub content_seen : LineValue → Option ℕ → List ℕ
content_seen l place = option_map_or (value_seen l) place []

abbrev pub kind_seen : LineValue → Shape → Option ℕ → EventKindValue
kind_seen l shape.DocumentStart place = DocumentStart
kind_seen l shape.DocumentEnd place = DocumentEnd
kind_seen l shape.SequenceStart place = SequenceStart
kind_seen l shape.SequenceEnd place = SequenceEnd
kind_seen l shape.MappingStart place = MappingStart
kind_seen l shape.MappingEnd place = MappingEnd
kind_seen l shape.Alias place = AliasOf (content_seen l place)
kind_seen l (shape.Scalar style) place = ScalarOf style (content_seen l place)
kind_seen l shape.Empty place = Empty

abbrev pub anchor_seen : LineValue → Option ℕ → Option EventAnchorValue
anchor_seen l place = option_map (λ i. record { name = value_seen l i; place = start_seen l i }) place

-- the event of an outline that names only these lexemes
abbrev pub event_seen : LineValue → Outline → EventValue
event_seen l o =
    let place = option_map (start_seen l) o.place in
    record { kind = kind_seen l o.kind o.place; place = place; anchor = anchor_seen l o.anchor; is_tagged = o.is_tagged }

-- ---- in a document

-- the lexemes of the document from the index `first` on begin with these
abbrev pub HasLine : List LexemeValue → ℕ → List LexemeValue → Type 0
HasLine xs first line = (i : ℕ) → i < length line → slice_get xs (first + i) ≡ slice_get line i

-- the anchor that waits is an anchor of the document with these lexemes
abbrev pub IsAnchorOf : List LexemeValue → Option WaitingAnchorValue → Type 0
IsAnchorOf xs waiting = IfSome waiting (λ w. (value_at xs w.index ≡ w.name) × (start_at xs w.index ≡ w.place))
