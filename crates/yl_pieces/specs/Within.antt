-- Bridge: a law of rows: what is told of them stands in them.
use Rattle.std.specs.Prelude.{ℕ, ◌≤◌, ◌<◌, ◌+◌, List, length, IfSome}
use Rattle.std.specs.List.{AllByRecursion}
use Rattle.yl_config.specs.declared.config.Config.{Config}
use Rattle.yl_record.specs.Records.{RecordValue}
use Rattle.yl_pieces.specs.State.{DocumentState}
use Rattle.yl_pieces.specs.Told.{Told, told}

-- line l is one of so many rows, the first of which is at this line
abbrev pub IsAmong : (line rows l : ℕ) → Type 0
IsAmong line rows l = (line ≤ l) × (l < line + rows)

-- what is told stands in these rows. The lines of findings count from 1, others from 0
pub record IsToldWithin (line rows : ℕ) (t : Told) : Type 0 where
  pub found : AllByRecursion (λ f. (line < f.line) × (f.line ≤ line + rows)) t.found
  pub facts : AllByRecursion (λ f. IsAmong line rows f.line) t.facts
  pub comments : AllByRecursion (λ c. IsAmong line rows c.line) t.comments
  pub fault : IfSome t.fault (λ f. IsAmong line rows f.place.line)

-- whatever the state before the rows, and whatever the rows
abbrev pub ToldIsWithin : Type 0
ToldIsWithin = (config : Config) (s : DocumentState) (line : ℕ) (rs : List RecordValue) → IsToldWithin line (length rs) (told config s line rs)
