-- Bridge: the records of the rows that a recorder has read, and of those that follow.
use Rattle.std.specs.Prelude.{ℕ, Bool, true, false, List, ◌++◌, ◌+◌, ◌-◌, map, length, Option, Some, None}
use Rattle.yl_text.specs.Character.{indentation}
use Rattle.yl_lexeme.specs.Known.{SurroundingsValue}
use Rattle.yl_row.specs.declared.fault.PlacedScanFault.{PlacedScanFault}
use Rattle.yl_row.specs.Fault.{is_unclosed}
use Rattle.yl_row.specs.Step.{FoundLexemeValue}
use Rattle.yl_row.specs.ScalarReader.{open_found}
use Rattle.yl_row.specs.Entries.{RowEntry, LineStateValue, lexeme_of, entries, stopped_rows}
use Rattle.yl_row.specs.Run.{entries_by}
use Rattle.yl_scan.specs.Remaining.{PhaseValue, Fresh, Within, Halted, rows_to}
use Rattle.yl_scan.specs.Resume.{from_state}
use Rattle.yl_scan.specs.Settled.{with_last}
use Rattle.yl_record.specs.Parts.{entries_in, indentations_in, with_fault_in}
use Rattle.yl_record.specs.Records.{RecordValue, records_with}

-- the records of the rows of a text from a sound one on, by its state
abbrev pub records_from : LineStateValue → List (List ℕ) → List RecordValue
records_from state rows = records_with (map indentation rows) (from_state state rows)

-- a recorder. records: those of the rows that were read, without the ones that were released, and
-- without the scalar in progress. taken: the number of those that were released. stand: the phase
-- of its scanner. states: records hold states. refused: a call ran out of memory
pub record RecorderValue : Type 0 where
  pub records : List RecordValue
  pub taken : ℕ
  pub stand : PhaseValue
  pub states : Bool
  pub refused : Bool

-- the rows so far, with the scalar in progress or its fault, and the rows that follow it; the
-- scalar began in the row `begun - taken` of these
abbrev pub entries_with_scalar : (told : List RowEntry) (line begun taken at : ℕ) → FoundLexemeValue → SurroundingsValue → List (List ℕ) → Option PlacedScanFault → List RowEntry
entries_with_scalar told line begun taken at f k rows None = with_last (begun - taken) (lexeme_of at f) told ++ entries_by false (rows_to line begun f.down) f.column k rows
entries_with_scalar told line begun taken at f k rows (Some g) = with_fault_in (begun - taken) g told ++ stopped_rows (is_unclosed g.fault) (rows_to line begun g.down) rows

-- the rows so far, before which `taken` rows were released, and the rows that follow
abbrev pub entries_with_rest : (told : List RowEntry) (taken : ℕ) → PhaseValue → List (List ℕ) → List RowEntry
entries_with_rest told taken (Fresh start k) rows = told ++ entries_by start 0 0 k rows
entries_with_rest told taken (Within begun style at m k) rows = let f = open_found style at m rows in entries_with_scalar told (taken + length told) begun taken at f k rows f.fault
entries_with_rest told taken (Halted to_end down) rows = told ++ stopped_rows to_end down rows

abbrev pub without_state : RowEntry → RowEntry
without_state e = record { state = None; lexemes = e.lexemes; comment = e.comment; fault = e.fault }

-- the entries with their states, if these are wanted
abbrev pub if_wanted : Bool → List RowEntry → List RowEntry
if_wanted true es = es
if_wanted false es = map without_state es

-- these records, before which `taken` records were released, and those of the rows that follow
abbrev pub recorded_of : List RecordValue → (taken : ℕ) (states : Bool) → PhaseValue → List (List ℕ) → List RecordValue
recorded_of rs taken states stand rows = records_with (indentations_in rs ++ map indentation rows) (if_wanted states (entries_with_rest (entries_in rs) taken stand rows))

-- the records of the rows that were read, without those that were released, and of these rows, if
-- these follow
abbrev pub recorded : RecorderValue → List (List ℕ) → List RecordValue
recorded r rows = recorded_of r.records r.taken r.states r.stand rows

-- the records of a text, without states
abbrev pub records_without_states : List (List ℕ) → List RecordValue
records_without_states rows = records_with (map indentation rows) (map without_state (entries rows))
