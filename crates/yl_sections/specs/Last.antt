-- Meaning: laws: the lexemes in the rows of a text, by the state of a sound row.
use Rattle.std.specs.Prelude.{◌≡◌, ℕ, List, [], take, drop, Option, Some, None}
use Rattle.std.specs.List.{AllByRecursion}
use Rattle.yl_lexeme.specs.declared.lexeme.Kind.{Kind}
use Rattle.yl_row.specs.Entries.{Stopped, Stands, entries}
use Rattle.yl_scan.specs.Restart.{state_at}
use Rattle.yl_record.specs.Records.{RecordValue, records}
use Rattle.yl_sections.specs.Local.{kind_after}

-- no lexeme begins in the row
abbrev pub HasNoLexeme : RecordValue → Type 0
HasNoLexeme r = r.entry.lexemes ≡ []

-- the state of a sound row, if no fault is before it, has the kind of the last lexeme above the row
abbrev pub LastLaw : Type 0
LastLaw =
    (t : List (List ℕ)) (i : ℕ) (levels : List ℕ) (brackets : List Kind) (last : Option Kind)
    → state_at (entries t) i ≡ Some (Stands levels brackets last) → kind_after None (take i (records t)) ≡ last

-- from a sound row after a fault on there is no lexeme
abbrev pub StoppedLaw : Type 0
StoppedLaw = (t : List (List ℕ)) (i : ℕ) → state_at (entries t) i ≡ Some Stopped → AllByRecursion HasNoLexeme (drop i (records t))
