-- Meaning: which rows of an edited text are scanned again. A text is given as its rows, and a row
-- as its characters.
use Rattle.std.specs.Prelude.{◌≡◌, ◌≤◌, ◌<◌, ◌+◌, ◌-◌, ◌⊎◌, ℕ, List, length, Some, None, IsSome}
use Rattle.yl_row.specs.Entries.{LineStateValue, Stopped, entries}
use Rattle.yl_scan.specs.Restart.{state_at}

-- the last sound row above row a, or row 0 if there is none
pub record IsRestart (t : List (List ℕ)) (a r : ℕ) : Type 0 where
  pub place : (r ≡ 0) ⊎ ((r < a) × IsSome (state_at (entries t) r))
  pub greatest : (j : ℕ) → r < j → j < a → state_at (entries t) j ≡ None

-- row i is sound, and reading has stopped there
abbrev pub HasStoppedAt : List (List ℕ) → ℕ → Type 0
HasStoppedAt t i = state_at (entries t) i ≡ Some Stopped

-- reading has stopped at one of the rows down to row m
pub record HasStoppedUpto (t : List (List ℕ)) (m : ℕ) : Type 0 where
  pub row : ℕ
  pub within : row ≤ m
  pub stopped : HasStoppedAt t row

-- row m of the new text and the old row that corresponds to it are sound and have the same state;
-- the lines of the new text from `stop` on are those of the old text from b on
pub record IsAgreement (old new : List (List ℕ)) (stop b m : ℕ) : Type 0 where
  pub state : LineStateValue
  pub before : state_at (entries old) (m - stop + b) ≡ Some state
  pub after : state_at (entries new) m ≡ Some state

-- the first row from `stop` on that agrees with its old row, or the last row of the text
pub record IsStop (old new : List (List ℕ)) (stop b m : ℕ) : Type 0 where
  pub place : ((stop ≤ m) × IsAgreement old new stop b m) ⊎ (m + 1 ≡ length new)
  pub least : (j : ℕ) → stop ≤ j → j < m → ¬ (IsAgreement old new stop b j)

-- The lines from a on, before b, were replaced by k lines. Then n rows were scanned again, at least
-- k, and at most as many as there are from row r down to row m. The records from row `from` on,
-- before row `end`, are new. Row `from` is row r, or a row above it at which reading has stopped.
-- Row `end` is at most the row after row m, or reading has stopped at row m or above it
pub record IsRescan (old new : List (List ℕ)) (a b k from end n : ℕ) : Type 0 where
  pub r : ℕ
  pub m : ℕ
  pub restart : IsRestart new a r
  pub stop : IsStop old new (a + k) b m
  pub some : k ≤ n
  pub few : n ≤ m - r + 1
  pub above : (from ≡ r) ⊎ ((from ≤ r) × HasStoppedAt new from)
  pub below : (end ≤ m + 1) ⊎ HasStoppedUpto new m
