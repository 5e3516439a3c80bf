-- Meaning: the sound rows of a text, and which rows of an edited text stay as they are.
use Rattle.std.specs.Prelude.{◌≡◌, ◌++◌, ◌+◌, ◌≤◌, ◌<◌, ◌⊎◌, length, ℕ, List, [], take, drop, Option, Some, None, IsSome, option_and_then, slice_get}
use Rattle.std.specs.List.{AllByRecursion}
use Rattle.yl_row.specs.Entries.{RowEntry, LineStateValue, Stopped, entries}

-- the state of the row at a line, if there is such a row and it is sound
abbrev pub state_at : List RowEntry → ℕ → Option LineStateValue
state_at es n = option_and_then (λ e. e.state) (slice_get es n)

-- nothing begins in a row
pub record IsQuiet (e : RowEntry) : Type 0 where
  pub lexemes : e.lexemes ≡ []
  pub comment : e.comment ≡ None
  pub fault : e.fault ≡ None

-- whether the row at line k is sound, and its state, depend only on the rows down to it; if it is
-- sound, so does what the rows above it consist of
abbrev pub PrefixLaw : Type 0
PrefixLaw =
    (t u : List (List ℕ)) (k : ℕ) → take (k + 1) t ≡ take (k + 1) u
    → (state_at (entries t) k ≡ state_at (entries u) k) × (IsSome (state_at (entries t) k) → take k (entries t) ≡ take k (entries u))

-- from sound rows with the same state on, equal rows consist of the same; below a fault, of nothing
pub record Shifts (t u : List (List ℕ)) (i j : ℕ) (s : LineStateValue) : Type 0 where
  pub same : drop i (entries t) ≡ drop j (entries u)
  pub quiet : s ≡ Stopped → AllByRecursion IsQuiet (drop i (entries t))

abbrev pub ShiftLaw : Type 0
ShiftLaw =
    (t u : List (List ℕ)) (i j : ℕ) (s : LineStateValue) → state_at (entries t) i ≡ Some s → state_at (entries u) j ≡ Some s → drop i t ≡ drop j u → Shifts t u i j s

-- two texts are the same down to line r, with that line, or r is 0
abbrev pub AreSameAbove : ℕ → List (List ℕ) → List (List ℕ) → Type 0
AreSameAbove r old new = (r ≡ 0) ⊎ (take (r + 1) old ≡ take (r + 1) new)

-- the rows of an edited text from one after the edit on are those from its counterpart on
abbrev pub CounterpartLaw : Type 0
CounterpartLaw =
    (old mid : List (List ℕ)) (a b i : ℕ) → a ≤ length old
    → drop (a + length mid + i) (take a old ++ (mid ++ drop b old)) ≡ drop (b + i) old

-- the rows above the edit stay
abbrev pub AboveLaw : Type 0
AboveLaw = (old mid : List (List ℕ)) (a b r : ℕ) → a ≤ length old → r < a → take (r + 1) old ≡ take (r + 1) (take a old ++ (mid ++ drop b old))
