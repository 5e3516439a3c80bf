-- Meaning: sections of two texts that begin in the same rows.
use Rattle.std.specs.Prelude.{◌≡◌, ◌+◌, ℕ, true, List}
use Rattle.yl_record.specs.Records.{RecordValue}
use Rattle.yl_sections.specs.Local.{is_start_at}

-- if a section begins e rows after row j of the new text, one begins e rows after row i of the old
-- text
abbrev pub GoOnAlike : List RecordValue → List RecordValue → ℕ → ℕ → Type 0
GoOnAlike old new i j = (e : ℕ) → is_start_at new (j + e) ≡ true → is_start_at old (i + e) ≡ true
