-- Bridge: states compared as the code compares them; where scanning begins, why it ends, and at
-- which row the records are cut then.
use Rattle.std.specs.Prelude.{◌≡◌, ◌<◌, ◌≤◌, ◌+◌, ◌-◌, ℕ, Bool, false, List, length, drop, Option, true, ltb, if◌then◌else◌, Some, None, IsSome, IfSome, slice_get}
use Rattle.yl_lexeme.specs.declared.lexeme.Kind.{Kind}
use Rattle.yl_row.specs.Entries.{LineStateValue, Stopped}
use Rattle.yl_scan.specs.State.{state_eq}
use Rattle.yl_record.specs.Records.{RecordValue}
use Rattle.yl_record.specs.Recorder.{state_in}
use Rattle.yl_sections.specs.Local.{begins_section, is_start_at}
use Rattle.yl_rescan.specs.declared.scanning.ScanEnd.{ScanEnd}
use Rattle.yl_rescan.specs.declared.scanning.ScanEnd.TheVariants.{Agreed, Halted, TextEnd}

-- both states are there, and they are the same
abbrev pub agree : Option LineStateValue → Option LineStateValue → Bool
agree (Some s) (Some t) = state_eq s t
agree (Some s) None = false
agree None t = false

-- the state of row i, if it is sound
abbrev pub state_of_row : List RecordValue → ℕ → Option LineStateValue
state_of_row rs i = state_in (slice_get rs i)

-- scanning begins with this state at row `row`, which is above row a, or at the text's start
abbrev pub BeginsBelow : List RecordValue → (a row : ℕ) → Option LineStateValue → Type 0
BeginsBelow rs a row None = row ≡ 0
BeginsBelow rs a row (Some s) = (row < a) × (state_of_row rs row ≡ Some s)

-- scanning begins with this state at row `row`, or at the text's start
abbrev pub BeginsAt : List RecordValue → ℕ → Option LineStateValue → Type 0
BeginsAt rs row None = row ≡ 0
BeginsAt rs row (Some s) = state_of_row rs row ≡ Some s

-- row j of the new text has the state of its old row, where the new rows from `stop` on are the old
-- ones from b on
abbrev pub agrees : (old new : List RecordValue) (stop b j : ℕ) → Bool
agrees old new stop b j = agree (state_of_row old (j - stop + b)) (state_of_row new j)

-- scanning goes on over a row with this state, whose old row is `at`: the two states do not agree,
-- as far as the old records are those of the old text; from the cut on, reading has not stopped
abbrev pub GoesOn : List RecordValue → Option ℕ → ℕ → Option LineStateValue → Type 0
GoesOn old None at state = agree (state_of_row old at) state ≡ false
GoesOn old (Some cut) at state = (at < cut → agree (state_of_row old at) state ≡ false) × (cut ≤ at → state ≡ Some Stopped → ⊥)

-- the number of rows that are read but not made again: the row that shows why scanning ends, if the
-- text does not end there
abbrev pub read_beyond : ScanEnd → ℕ
read_beyond TextEnd = 0
read_beyond why = 1

-- row `end` is one of the rows from `stop` on, in a text of `count` rows
abbrev pub EndsAt : (stop count end : ℕ) → Type 0
EndsAt stop count end = (stop ≤ end) × (end < count)

-- below a fault, scanning ends at the old row `at`: the row is sound, and a section begins with it;
-- or the old records are cut at this row or above it
abbrev pub StopsAt : List RecordValue → Option ℕ → ℕ → Type 0
StopsAt old None at = (is_start_at old at ≡ true) × IsSome (state_of_row old at)
StopsAt old (Some cut) at = cut ≤ at

-- the old row at which scanning ended, where there are `count` old records
abbrev pub counterpart : ScanEnd → (end stop b count : ℕ) → ℕ
counterpart TextEnd end stop b count = count
counterpart why end stop b count = end - stop + b

-- the row at which the records are cut then: the old cut, moved, or the row at which reading has
-- stopped
abbrev pub next_cut : ScanEnd → Option ℕ → (at end : ℕ) → Option ℕ
next_cut Agreed (Some cut) at end = if ltb at cut then Some (cut - at + end) else None
next_cut Halted None at end = Some end
next_cut why cut at end = None

-- these records may be held: if they are cut, a section begins with the row of the cut; if not,
-- scanning has not ended below a fault
abbrev pub MayKeep : List RecordValue → ScanEnd → Option ℕ → Type 0
MayKeep rs why (Some cut) = is_start_at rs cut ≡ true
MayKeep rs Halted None = ⊥
MayKeep rs why None = Unit {0}

-- the rows from row `end` on, whose old row is `at`, are passed down to before row `below`, whose
-- old row is `old_end`. Either these two are the ends of the texts, of which the new one has
-- `count` rows. Or the row `old_end` is sound and not above the old cut, a section begins with it,
-- also after a lexeme of the kind `last`, and the new records are cut at it
abbrev pub StopsPassed : List RecordValue → (cut : Option ℕ) → Option Kind → (at end old_end below count : ℕ) → (next : Option ℕ) → Type 0
StopsPassed old cut last at end old_end below count None = (old_end ≡ length old) × (below ≡ count)
StopsPassed old cut last at end old_end below count (Some c) =
    (at ≤ old_end) × IfSome cut (λ n. n ≤ old_end) × (below ≡ old_end - at + end) × (c ≡ below) × IsSome (state_of_row old old_end) × (is_start_at old old_end ≡ true)
    × (begins_section last (drop old_end old) ≡ true)
