-- Bridge: a section that ends anew before an edit.
use Rattle.std.specs.Prelude.{◌≡◌, ◌<◌, ◌≤◌, ℕ, true, ◌+◌, List, length, take, slice_get, Some, None}
use Rattle.yl_record.specs.Records.{RecordValue}
use Rattle.yl_sections.specs.Local.{is_start_at}
use Rattle.yl_sections.specs.Kept.{KeptValue, rows_kept}
use Rattle.yl_sections.specs.Front.{IsBare}

-- all lexemes and comments of the rows from x on, before `end`, begin before row `from`, and no
-- scan fault does
abbrev pub AreFront : List RecordValue → (x from end : ℕ) → Type 0
AreFront rs x from end =
    (i : ℕ) (r : RecordValue) → x ≤ i → i < end → slice_get rs i ≡ Some r → (i < from → r.entry.fault ≡ None) × (from ≤ i → IsBare r)

-- the old section of index p ends before row `from` in the new text, and did not in the old one; no
-- lexeme and no comment begins in the rows that it loses
pub record EndsAnew (kept : List KeptValue) (old new : List RecordValue) (p from : ℕ) : Type 0 where
  pub section : p < length kept
  pub before : rows_kept (take p kept) < from
  pub after : from < rows_kept (take (p + 1) kept)
  pub start : is_start_at new from ≡ true
  pub front : AreFront old (rows_kept (take p kept)) from (rows_kept (take (p + 1) kept))
