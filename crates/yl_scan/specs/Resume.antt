-- Bridge: what the rows of a text from a sound one on consist of, by its state, and the laws of
-- reading again from there.
use Rattle.std.specs.Prelude.{◌≡◌, ◌++◌, ◌-◌, ◌≤◌, ℕ, false, true, List, take, drop, Some}
use Rattle.yl_lexeme.specs.Known.{row_start}
use Rattle.yl_row.specs.Entries.{RowEntry, LineStateValue, Stopped, Stands, stopped_rows, entries}
use Rattle.yl_row.specs.Run.{entries_by}
use Rattle.yl_scan.specs.Remaining.{PhaseValue, Fresh, Halted}
use Rattle.yl_scan.specs.Restart.{state_at, AreSameAbove}

-- what the rows from a sound row on consist of, if this is its state
abbrev pub from_state : LineStateValue → List (List ℕ) → List RowEntry
from_state Stopped rows = stopped_rows false 0 rows
from_state (Stands levels brackets last) rows = entries_by true 0 0 (row_start levels brackets last) rows

-- the phase of a scanner before a sound row with this state
abbrev pub phase_at : LineStateValue → PhaseValue
phase_at Stopped = Halted false 0
phase_at (Stands levels brackets last) = Fresh true (row_start levels brackets last)

-- what the rows from a sound row on consist of depends on its state and on these rows alone
abbrev pub ResumeLaw : Type 0
ResumeLaw = (t : List (List ℕ)) (i : ℕ) (s : LineStateValue) → state_at (entries t) i ≡ Some s → drop i (entries t) ≡ from_state s (drop i t)

-- what an edited text consists of: above a sound row down to which both texts are the same, what
-- the text before the edit does, and from that row on, what its state and the rows give
abbrev pub RestartLaw : Type 0
RestartLaw =
    (old new : List (List ℕ)) (r : ℕ) (s : LineStateValue) → AreSameAbove r old new → state_at (entries new) r ≡ Some s
    → entries new ≡ take r (entries old) ++ from_state s (drop r new)

-- and from a row on that is sound in both texts with the same state, if the rows from there on are
-- equal, what the text before the edit does; only the rows between these two have to be read
abbrev pub ConvergenceLaw : Type 0
ConvergenceLaw =
    (old new : List (List ℕ)) (r m n : ℕ) (s z : LineStateValue) → AreSameAbove r old new → state_at (entries new) r ≡ Some s
    → r ≤ m → drop m new ≡ drop n old → state_at (entries new) m ≡ Some z → state_at (entries old) n ≡ Some z
    → entries new ≡ take r (entries old) ++ (take (m - r) (from_state s (drop r new)) ++ drop n (entries old))
