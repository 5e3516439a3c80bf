-- Bridge: the records that are held of a text that is edited. Nothing is read after a scan fault,
-- so the records there may stay as they were before the fault.
use Rattle.std.specs.Prelude.{◌≡◌, ℕ, true, List, take, drop, Option, Some, None}
use Rattle.yl_lexeme.specs.declared.lexeme.Kind.{Kind}
use Rattle.yl_row.specs.Entries.{LineStateValue, Stopped, Stands}
use Rattle.yl_record.specs.Records.{RecordValue, records}
use Rattle.yl_record.specs.Recorded.{records_from}
use Rattle.yl_sections.specs.Local.{begins_section, is_start_at}
use Rattle.yl_rescan.specs.Agree.{state_of_row}

-- the kind of the last lexeme above a row with this state
abbrev pub last_in : LineStateValue → Option Kind
last_in Stopped = None
last_in (Stands levels brackets last) = last

-- Above row `cut` these are the records of the text. At this row, counted from 0, reading has
-- stopped. From this row on they are the records of its rows after another state, in which a
-- section begins with this row
pub record IsCutAt (t : List (List ℕ)) (cut : ℕ) (rs : List RecordValue) : Type 0 where
  pub stopped : state_of_row (records t) cut ≡ Some Stopped
  pub front : take cut rs ≡ take cut (records t)
  pub start : is_start_at rs cut ≡ true
  pub state : LineStateValue
  pub sound : state_of_row rs cut ≡ Some state
  pub behind : drop cut rs ≡ records_from state (drop cut t)
  pub begins : begins_section (last_in state) (drop cut rs) ≡ true

-- the records that are held: those of the text, or records that are cut at a row
abbrev pub AreHeld : List (List ℕ) → Option ℕ → List RecordValue → Type 0
AreHeld t None rs = rs ≡ records t
AreHeld t (Some cut) rs = IsCutAt t cut rs
