-- Meaning: what is printed of an event: a line in the notation of the YAML test suite, with the
-- place of its content.
use Rattle.std.specs.Prelude.{ℕ, ◌+◌, ◌-◌, Bool, true, false, nat_le, ◌==◌, if◌then◌else◌, List, [], ◌++◌, slice_get, codes, decimal, Option, Some, None}
use Rattle.yl_lexeme.specs.Lexeme.{LexemeValue}
use Rattle.yl_events.specs.Event.{value_of}
use Rattle.yl_events.specs.declared.symbol.Outline.{Outline}
use Rattle.yl_events.specs.declared.symbol.Shape.{Shape}
use Rattle.yl_events.specs.declared.symbol.Shape.TheVariants as shape
use Rattle.yl_dump.specs.Names.{value_opening}
use Rattle.yl_dump.specs.Quoting.{escaped_text}

-- the lexemes at hand: those that begin in the line, the first of them by its index in the document; and an earlier one by its index
pub record GroupValue : Type 0 where
  pub line : ℕ
  pub opening : List ℕ  -- what is printed of a place in the line before its column
  pub first : ℕ
  pub lexemes : List LexemeValue
  pub earlier : Option (ℕ × LexemeValue)

-- a place in a line, as it is printed before the column
abbrev pub opening_of : ℕ → List ℕ
opening_of line = codes " @" ++ decimal (line + 1) ++ codes ":"

abbrev pub earlier_at : ℕ → Option (ℕ × LexemeValue) → Option LexemeValue
earlier_at i None = None
earlier_at i (Some x) = if x.0 == i then Some x.1 else None

-- the lexeme of this index in the document
abbrev pub lexeme_at : GroupValue → ℕ → Option LexemeValue
lexeme_at h i = if nat_le h.first i then slice_get h.lexemes (i - h.first) else earlier_at i h.earlier

abbrev pub column_text : List ℕ → Option LexemeValue → List ℕ
column_text opening None = []
column_text opening (Some x) = opening ++ decimal (x.start.col + 1)

-- the lexeme of this index, of those that begin in the line
abbrev pub own_lexeme : GroupValue → ℕ → Option LexemeValue
own_lexeme h i = if nat_le h.first i then slice_get h.lexemes (i - h.first) else None

abbrev pub place_shown : GroupValue → Option ℕ → List ℕ
place_shown h None = []
place_shown h (Some i) = column_text h.opening (own_lexeme h i)

abbrev pub name_at : GroupValue → Option ℕ → List ℕ
name_at h None = []
name_at h (Some i) = value_of (lexeme_at h i)

abbrev pub anchor_text : GroupValue → Option ℕ → List ℕ
anchor_text h None = []
anchor_text h (Some i) = codes " &" ++ value_of (lexeme_at h i)

abbrev pub tag_text : Bool → List ℕ
tag_text true = codes " <>"
tag_text false = []

abbrev pub sign_of : Shape → List ℕ
sign_of shape.DocumentStart = codes "+DOC"
sign_of shape.DocumentEnd = codes "-DOC"
sign_of shape.SequenceStart = codes "+SEQ"
sign_of shape.SequenceEnd = codes "-SEQ"
sign_of shape.MappingStart = codes "+MAP"
sign_of shape.MappingEnd = codes "-MAP"
sign_of shape.Alias = codes "=ALI"
sign_of (shape.Scalar style) = codes "=VAL"
sign_of shape.Empty = codes "=VAL"

-- an alias's name or a scalar's value
abbrev pub content_text : GroupValue → Shape → Option ℕ → List ℕ
content_text h shape.Alias place = codes " *" ++ name_at h place
content_text h (shape.Scalar style) place = value_opening style ++ escaped_text (name_at h place) ++ codes "\""
content_text h shape.Empty place = codes " :\"\""
content_text h _ place = []

abbrev pub event_line : GroupValue → Outline → List ℕ
event_line h o = sign_of o.kind ++ anchor_text h o.anchor ++ tag_text o.is_tagged ++ content_text h o.kind o.place ++ place_shown h o.place ++ codes "\n"
