-- Meaning: what is printed of a whole text: the states of its lines; or its lexemes, comments and
-- scan fault.
use Rattle.std.specs.Prelude.{◌≡◌, ℕ, ◌+◌, List, [], ◌∷◌, ◌++◌, codes, decimal, Option}
use Rattle.std.specs.Io.KnownBytes.{Appends}
use Rattle.yl_text.specs.Lines.{lines_of}
use Rattle.yl_lexeme.specs.Lexeme.{LexemeValue, CommentValue}
use Rattle.yl_row.specs.Entries.{LineStateValue, entries}
use Rattle.yl_scan.specs.Output.{ScanOutput, output_of_entries}
use Rattle.yl_scan.specs.Step.{characters_of}
use Rattle.yl_dump.specs.LexemeLine.{lexeme_line, comment_line}
use Rattle.yl_dump.specs.StateLine.{line_text}
use Rattle.yl_dump.specs.StepLines.{failed_lines}

-- what the lines of a text report
unfoldable pub output_of_text : List ℕ → ScanOutput
output_of_text text = output_of_entries 0 (entries (characters_of (lines_of text)))

-- the states of lines from this one on, each with its line's number, counted from 1
abbrev pub states_from : ℕ → List (Option LineStateValue) → List ℕ
states_from line [] = []
states_from line (s ∷ ss) = decimal (line + 1) ++ line_text s ++ codes "\n" ++ states_from (line + 1) ss

abbrev pub states_text : List ℕ → List ℕ
states_text text = states_from 0 (output_of_text text).states

-- the lines of these lexemes and of these comments, each in their order
pub data AreLines : List (ℕ × LexemeValue) → List (ℕ × CommentValue) → List ℕ → Type 0 where
  no_line : AreLines [] [] []
  lexeme_next : (x : ℕ × LexemeValue) (xs : List (ℕ × LexemeValue)) (cs : List (ℕ × CommentValue)) (t : List ℕ) → AreLines xs cs t → AreLines (x ∷ xs) cs (lexeme_line x.0 x.1 ++ t)
  comment_next : (c : ℕ × CommentValue) (xs : List (ℕ × LexemeValue)) (cs : List (ℕ × CommentValue)) (t : List ℕ) → AreLines xs cs t → AreLines xs (c ∷ cs) (comment_line c.0 c.1 ++ t)

-- the lines of the lexemes and comments, and behind them that of the fault
pub record IsPrinted (o : ScanOutput) (text : List ℕ) : Type 0 where
  pub lines : List ℕ
  pub each : AreLines o.lexemes o.comments lines
  pub whole : text ≡ lines ++ failed_lines o.fault

-- known bytes grow by such a text
pub record AppendsPrinted (old new : Option (List ℕ)) (o : ScanOutput) : Type 0 where
  pub text : List ℕ
  pub printed : IsPrinted o text
  pub appends : Appends old new text
