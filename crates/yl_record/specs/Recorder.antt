-- Bridge: what a recorder and its scanner keep in step, and which records are complete.
use Rattle.std.specs.Prelude.{◌≡◌, ◌≤◌, ◌<◌, ◌⊎◌, ◌^◌, ℕ, suc, Bool, true, false, List, [], ◌∷◌, ◌+◌, ◌-◌, length, drop, Option, Some, None}
use Rattle.std.specs.List.{AllByRecursion}
use Rattle.std.specs.Option.{ForSome}
use Rattle.yl_row.specs.Entries.{RowEntry, LineStateValue}
use Rattle.yl_scan.specs.Remaining.{PhaseValue}
use Rattle.yl_scan.specs.Scanner.{ScannerValue, begun_at, is_halted}
use Rattle.yl_record.specs.Records.{RecordValue}
use Rattle.yl_record.specs.Parts.{entries_in}
use Rattle.yl_record.specs.Recorded.{RecorderValue, if_wanted}

abbrev pub HasNoFault : RowEntry → Type 0
HasNoFault e = e.fault ≡ None

abbrev pub AreFaultless : List RowEntry → Type 0
AreFaultless es = AllByRecursion HasNoFault es

-- at most one row has a fault
abbrev pub FailsOnce : List RowEntry → Type 0
FailsOnce [] = Unit {0}
FailsOnce (e ∷ es) = AreFaultless es ⊎ ((e.fault ≡ None) × FailsOnce es)

-- the row is inside a scalar: no lexeme begins in it, and it is not sound
abbrev pub IsInside : RowEntry → Type 0
IsInside e = (e.lexemes ≡ []) × (e.state ≡ None)

-- a scalar in progress began in one of these rows, before which `taken` rows were released, and the
-- rows below that one are inside it
pub record IsOpenSince (told : List RowEntry) (taken begun : ℕ) : Type 0 where
  pub least : taken ≤ begun
  pub most : begun < taken + length told
  pub inside : AllByRecursion IsInside (drop (suc (begun - taken)) told)

-- the rows so far fit the phase of the scanner
pub record IsRecording (told : List RowEntry) (taken : ℕ) (states : Bool) (stand : PhaseValue) : Type 0 where
  pub open_since : ForSome (begun_at stand) (IsOpenSince told taken)
  pub once : FailsOnce told
  pub faultless : is_halted stand ≡ false → AreFaultless told
  pub wanted : if_wanted states told ≡ told

-- the number of complete records, of `count` before which `taken` were released: those above the
-- row in which the scalar in progress began
abbrev pub complete_before : ℕ → ℕ → Option ℕ → ℕ
complete_before count taken None = count
complete_before count taken (Some begun) = begun - taken

abbrev pub complete_count : RecorderValue → ℕ
complete_count r = complete_before (length r.records) r.taken (begun_at r.stand)

-- the state in a record, if there is one
abbrev pub state_in : Option RecordValue → Option LineStateValue
state_in None = None
state_in (Some r) = r.entry.state

-- the records fit the scanner
pub record KeepsStep (rs : List RecordValue) (taken : ℕ) (s : ScannerValue) : Type 0 where
  pub line : s.line ≡ taken + length rs
  pub few : s.line < 2 ^ 32
  pub kept : IsRecording (entries_in rs) taken s.states s.stand
