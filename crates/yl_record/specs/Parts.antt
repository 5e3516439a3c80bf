-- Bridge: the parts of records, and what later rows put into them.
use Rattle.std.specs.Prelude.{◌≤◌, ◌<◌, ℕ, zero, suc, Bool, true, false, List, [], ◌∷◌, ◌++◌, ◌+◌, ◌-◌, map, Option, Some, None}
use Rattle.yl_lexeme.specs.Lexeme.{LexemeValue}
use Rattle.yl_row.specs.declared.fault.PlacedScanFault.{PlacedScanFault}
use Rattle.yl_row.specs.Entries.{RowEntry, LineStateValue}
use Rattle.yl_scan.specs.Settled.{with_last}
use Rattle.yl_scan.specs.Output.{StepValue}
use Rattle.yl_record.specs.Records.{RecordValue}

abbrev pub entry_in : RecordValue → RowEntry
entry_in r = r.entry

abbrev pub entries_in : List RecordValue → List RowEntry
entries_in rs = map entry_in rs

abbrev pub indentation_in : RecordValue → ℕ
indentation_in r = r.indentation

abbrev pub indentations_in : List RecordValue → List ℕ
indentations_in rs = map indentation_in rs

abbrev pub entry_with_fault : PlacedScanFault → RowEntry → RowEntry
entry_with_fault f e = record { state = e.state; lexemes = e.lexemes; comment = e.comment; fault = Some f }

abbrev pub entry_with_last : LexemeValue → RowEntry → RowEntry
entry_with_last x e = record { state = e.state; lexemes = e.lexemes ++ x ∷ []; comment = e.comment; fault = e.fault }

-- a fault, put into the row in which its lexeme began
abbrev pub with_fault_in : ℕ → PlacedScanFault → List RowEntry → List RowEntry
with_fault_in n f [] = []
with_fault_in zero f (e ∷ es) = entry_with_fault f e ∷ es
with_fault_in (suc n) f (e ∷ es) = e ∷ with_fault_in n f es

-- a lexeme or a fault, put into the row in which the lexeme began, if there is one; taken: the
-- number of rows before these that were released
abbrev pub with_lexeme_above : ℕ → Option (ℕ × LexemeValue) → List RowEntry → List RowEntry
with_lexeme_above taken None es = es
with_lexeme_above taken (Some p) es = with_last (p.0 - taken) p.1 es

abbrev pub with_fault_above : ℕ → Option (ℕ × PlacedScanFault) → List RowEntry → List RowEntry
with_fault_above taken None es = es
with_fault_above taken (Some p) es = with_fault_in (p.0 - taken) p.1 es

-- what a step reports of its own row
abbrev pub entry_of_step : StepValue → RowEntry
entry_of_step t = record { state = t.state; lexemes = t.lexemes; comment = t.comment; fault = None }

-- the rows so far, and what a step reports of its own row and of them
abbrev pub entries_with_step : ℕ → StepValue → List RowEntry → List RowEntry
entries_with_step taken t es = with_fault_above taken t.fault (with_lexeme_above taken t.above es ++ entry_of_step t ∷ [])

-- the rows so far, and what the end of the text reports of them
abbrev pub entries_with_end : ℕ → StepValue → List RowEntry → List RowEntry
entries_with_end taken t es = with_fault_above taken t.fault (with_lexeme_above taken t.above es)

-- a step with another state
abbrev pub with_state : Option LineStateValue → StepValue → StepValue
with_state x t = record { above = t.above; lexemes = t.lexemes; comment = t.comment; state = x; fault = t.fault }

-- the row `ago` rows before this line is one of `count` rows, before which `taken` rows were
-- released
abbrev pub LiesIn : (taken count line ago : ℕ) → Type 0
LiesIn taken count line ago = (taken + ago ≤ line) × (line < taken + count + ago)
