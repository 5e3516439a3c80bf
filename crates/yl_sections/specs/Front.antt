-- Meaning: rows of a section after which no lexeme and no comment begins, since there is a scan
-- fault: their summary has what the summary of all rows has, and what that fault hides.
use Rattle.std.specs.Prelude.{◌≡◌, ◌⊎◌, ◌<◌, ◌≤◌, ◌+◌, ℕ, false, true, List, [], take, Some, None, IsSome, slice_get}
use Rattle.yl_row.specs.Entries.{entries}
use Rattle.yl_scan.specs.Restart.{state_at}
use Rattle.yl_record.specs.Records.{RecordValue, records}
use Rattle.yl_sections.specs.Local.{is_start_at}

-- no lexeme and no comment begins in the row
abbrev pub IsBare : RecordValue → Type 0
IsBare r = (r.entry.lexemes ≡ []) × (r.entry.comment ≡ None)

-- all lexemes and comments of these rows begin in the first n of them, and no scan fault does
pub record IsFront (n : ℕ) (rs : List RecordValue) : Type 0 where
  pub sound : (i : ℕ) (r : RecordValue) → i < n → slice_get rs i ≡ Some r → r.entry.fault ≡ None
  pub bare : (i : ℕ) (r : RecordValue) → n ≤ i → slice_get rs i ≡ Some r → IsBare r

-- if two texts are the same down to a row that is sound, or the first one, and this row begins a
-- section in the text `new` only, then no lexeme and no comment begins from the row on in the text
-- `old`
abbrev pub LostLaw : Type 0
LostLaw =
    (old new : List (List ℕ)) (r : ℕ) → (r ≡ 0) ⊎ (take (r + 1) old ≡ take (r + 1) new) → (r ≡ 0) ⊎ IsSome (state_at (entries new) r)
    → is_start_at (records old) r ≡ false → is_start_at (records new) r ≡ true → IsFront r (records old)
