-- Meaning: the texts of a configuration, and the patterns in their lines.
use Rattle.std.specs.Prelude.{ℕ, ◌+◌, ◌==◌, Bool, ◌||◌, nat_lt, if◌then◌else◌, List, [], ◌∷◌, ◌++◌, drop, length, Option, Some, None, option_and_then}
use Rattle.std.specs.List.{prefix_len}
use Prim.Native.Char.{code}
use Rattle.yl_text.specs.declared.position.Pos.{Pos}
use Rattle.yl_text.specs.Lines.{RowValue, lines_of}
use Rattle.yl_lexeme.specs.declared.lexeme.Style.TheVariants.{Literal, Folded}
use Rattle.yl_events.specs.Event.{EventKindValue, ScalarOf}
use Rattle.yl_settings.specs.Nodes.{Nodes, NoNode, Node, ItemValue, starts_sequence}
use Rattle.yl_config.specs.Misfits.{place_or}
use Rattle.yl_patterns.specs.Patterns.{PatternValue, Line, Nothing, Bad, Says, line_of}

-- ---- the lines of a text

-- how many spaces a line begins with
abbrev pub indentation : List ℕ → ℕ
indentation line = prefix_len (λ c. c == code " ") line

-- a line of spaces alone, or one that is indented deeper than this column
abbrev pub is_below : ℕ → List ℕ → Bool
is_below column line = (indentation line == length line) || nat_lt column (indentation line)

-- the lines after its header that belong to a block scalar in what begins at this column. Comments that follow it and are indented as
-- deep are among them; as patterns they say nothing
unfoldable pub block_lines : ℕ → List RowValue → List RowValue
block_lines column [] = []
block_lines column (line ∷ lines) = if is_below column line.text then line ∷ block_lines column lines else []

-- the lines after that of a place
abbrev pub lines_after : Option Pos → List RowValue → List RowValue
lines_after None lines = []
lines_after (Some place) lines = drop (place.line + 1) lines

-- the lines of a node that is a text, in what begins at this column. A block scalar's are those that the document has
abbrev pub text_lines : List RowValue → ℕ → EventKindValue → Option Pos → Option (List RowValue)
text_lines lines column (ScalarOf Literal value) place = Some (block_lines column (lines_after place lines))
text_lines lines column (ScalarOf Folded value) place = Some (block_lines column (lines_after place lines))
text_lines lines column (ScalarOf style value) place = Some (lines_of value)
text_lines lines column _ place = None

-- ---- the patterns in lines

-- patterns with one more after them, where its line is one
abbrev pub after : List PatternValue → Line → Option (List PatternValue)
after ps Nothing = Some ps
after ps Bad = None
after ps (Says p) = Some (ps ++ p ∷ [])

unfoldable pub with_line : List PatternValue → List ℕ → Option (List PatternValue)
with_line ps line = after ps (line_of line)

-- with those of lines, where each is one
unfoldable pub with_lines : List PatternValue → List RowValue → Option (List PatternValue)
with_lines ps [] = Some ps
with_lines ps (line ∷ lines) = option_and_then (λ qs. with_lines qs lines) (with_line ps line.text)

-- with those of a text, where a node is one
abbrev pub with_text : List RowValue → ℕ → EventKindValue → Option Pos → List PatternValue → Option (List PatternValue)
with_text lines column kind place ps = option_and_then (with_lines ps) (text_lines lines column kind place)

-- with those of nodes, where each is a text
unfoldable pub with_texts : List RowValue → ℕ → Nodes → List PatternValue → Option (List PatternValue)
with_texts lines column NoNode ps = Some ps
with_texts lines column (Node kind place inside more) ps = option_and_then (with_texts lines column more) (with_text lines column kind place ps)

-- with those of a text or of a sequence of texts, in what begins at this place
abbrev pub with_patterns : List RowValue → Pos → ItemValue → List PatternValue → Option (List PatternValue)
with_patterns lines holder item ps =
    if starts_sequence item.kind then with_texts lines (place_or holder item.place).col item.inside ps
    else with_text lines holder.col item.kind item.place ps

abbrev pub patterns_in : List RowValue → Pos → ItemValue → Option (List PatternValue)
patterns_in lines holder item = with_patterns lines holder item []
