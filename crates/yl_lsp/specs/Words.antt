-- Meaning: the range of a diagnostic (LSP 3.17, `Diagnostic`): a word of its line, or the line from its place on. It never leaves the
-- line.
use Rattle.std.specs.Prelude.{ℕ, ◌+◌, max, Bool, true, false, not, ◌||◌, ◌==◌, if◌then◌else◌, List, [], ◌∷◌, length, take, drop}
use Rattle.std.specs.List.{take_while}
use Prim.Native.Char.{code}
use Rattle.yl_text.specs.Character.{is_white, is_flow_indicator}
use Rattle.yl_text.specs.Lines.{RowValue}
use Rattle.yl_text.specs.declared.finding.RuleId.{RuleId}
use Rattle.yl_text.specs.declared.finding.RuleId.TheVariants.{LineLength, TrailingSpaces}
use Rattle.yl_text.specs.declared.position.Pos.{Pos}
use Rattle.yl_units.specs.declared.encoding.Encoding.{Encoding}
use Rattle.yl_units.specs.Places.{row_chars, told_place}
use Rattle.yl_lsp.specs.declared.range.Range.{Range}

-- a word ends before white space and before flow indicators (YAML 1.2.2, 5.5 and 5.3)
abbrev pub ends_word : ℕ → Bool
ends_word c = is_white c || is_flow_indicator c

-- a `:` at its end is none of it
abbrev pub without_colon : List ℕ → List ℕ
without_colon [] = []
without_colon (c ∷ []) = if c == code ":" then [] else c ∷ []
without_colon (c ∷ d ∷ cs) = c ∷ without_colon (d ∷ cs)

-- how many characters the word has that begins here, which is looked for in the next 256 characters
abbrev pub word_len : List ℕ → ℕ
word_len cs = length (without_colon (take_while (λ c. not (ends_word c)) (take 256 cs)))

-- the rules whose problems last to the line's end
abbrev pub is_to_line_end : RuleId → Bool
is_to_line_end LineLength = true
is_to_line_end TrailingSpaces = true
is_to_line_end _ = false

-- the column after the range of a rule's problem that begins at this column of a line: a word, and at least one character
abbrev pub end_column : RuleId → List ℕ → ℕ → ℕ
end_column rule row col = if is_to_line_end rule then length row else col + max 1 (word_len (drop col row))

-- the range of a rule's problem at a place, as an editor is told of it; past the line's end it is empty
abbrev pub range_of : Encoding → List RowValue → RuleId → Pos → Range
range_of e ps rule p = record {
  start = told_place e ps p;
  end = told_place e ps (record { line = p.line; col = end_column rule (row_chars ps p.line) p.col });
}
