-- Meaning: what the rows of a text report, each with its line.
use Rattle.std.specs.Prelude.{ℕ, List, [], ◌∷◌, ◌++◌, ◌+◌, map, Option, Some, None, option_to_list}
use Rattle.yl_row.specs.declared.fault.PlacedScanFault.{PlacedScanFault}
use Rattle.yl_lexeme.specs.Lexeme.{LexemeValue, CommentValue}
use Rattle.yl_row.specs.Entries.{RowEntry, LineStateValue}

-- lexemes and comments with the line in which they begin, the state of each line that is sound, and
-- the fault with the line in which its lexeme begins
pub record ScanOutput : Type 0 where
  pub lexemes : List (ℕ × LexemeValue)
  pub comments : List (ℕ × CommentValue)
  pub states : List (Option LineStateValue)
  pub fault : Option (ℕ × PlacedScanFault)

abbrev pub no_output : ScanOutput
no_output = record { lexemes = []; comments = []; states = []; fault = None }

abbrev pub at_line : {A : Type 0} → ℕ → A → ℕ × A
at_line line x = (line, x)

abbrev pub with_comment : ℕ → Option CommentValue → List (ℕ × CommentValue) → List (ℕ × CommentValue)
with_comment line None cs = cs
with_comment line (Some c) cs = (line, c) ∷ cs

abbrev pub first_fault : Option (ℕ × PlacedScanFault) → Option (ℕ × PlacedScanFault) → Option (ℕ × PlacedScanFault)
first_fault None g = g
first_fault (Some f) g = Some f

abbrev pub fault_in : ℕ → Option PlacedScanFault → Option (ℕ × PlacedScanFault)
fault_in line None = None
fault_in line (Some f) = Some (line, f)

-- what a step reports: a lexeme that began in a row above, with its line; the lexemes and the
-- comment of the row; the state of the row, if it is sound; and a fault, with the line in which its
-- lexeme began
pub record StepValue : Type 0 where
  pub above : Option (ℕ × LexemeValue)
  pub lexemes : List LexemeValue
  pub comment : Option CommentValue
  pub state : Option LineStateValue
  pub fault : Option (ℕ × PlacedScanFault)

-- what the row at this line reports, and then what follows
abbrev pub output_with_step : ℕ → StepValue → ScanOutput → ScanOutput
output_with_step line t o = record {
  lexemes = option_to_list t.above ++ (map (at_line line) t.lexemes ++ o.lexemes);
  comments = with_comment line t.comment o.comments;
  states = t.state ∷ o.states;
  fault = first_fault t.fault o.fault;
}

abbrev pub entry_step : ℕ → RowEntry → StepValue
entry_step line e = record { above = None; lexemes = e.lexemes; comment = e.comment; state = e.state; fault = fault_in line e.fault }

-- what rows with these entries report, from this line on
abbrev pub output_of_entries : ℕ → List RowEntry → ScanOutput
output_of_entries line [] = no_output
output_of_entries line (e ∷ es) = output_with_step line (entry_step line e) (output_of_entries (line + 1) es)

-- the step of a row that reports nothing
abbrev pub silent_step : StepValue
silent_step = record { above = None; lexemes = []; comment = None; state = None; fault = None }
