-- Bridge: the sections that are judged again.
use Rattle.std.specs.Prelude.{◌≡◌, ◌≤◌, ◌<◌, ◌⊎◌, ℕ, true, ◌+◌, ◌-◌, ◌==◌, ◌&&◌, ltb, if◌then◌else◌, List, [], ◌∷◌, length, take, drop}
use Rattle.yl_record.specs.Records.{RecordValue}
use Rattle.yl_sections.specs.Sections.{sections}
use Rattle.yl_sections.specs.Local.{is_start_at}
use Rattle.yl_sections.specs.Kept.{KeptValue, rows_kept}

-- the sections with the indices from f on, before e, are replaced: they begin with row `from` or
-- above it. If sections are left after them, these begin with row `old_end` or below it, and a
-- section of the new rows begins there too; the old rows from `old_end` on are the new ones from
-- `end` on
pub record AreAround (ks : List KeptValue) (new : List RecordValue) (from old_end end f e : ℕ) : Type 0 where
  pub first : rows_kept (take f ks) ≤ from
  pub last : (e ≡ length ks) ⊎ ((old_end ≤ rows_kept (take e ks)) × (is_start_at new (rows_kept (take e ks) - old_end + end) ≡ true))

-- the section of index i has the rows from `from` on, before `end`
pub record HasRows (ks : List KeptValue) (from end i : ℕ) : Type 0 where
  pub there : i < length ks
  pub first : rows_kept (take i ks) ≤ from
  pub last : end ≤ rows_kept (take (i + 1) ks)

-- all sections stay: nothing is put in place of no section, before the section that holds the rows
pub record AllStay (ks new : List KeptValue) (from old_end end f e : ℕ) : Type 0 where
  pub none : new ≡ []
  pub same : e ≡ f
  pub rows : end ≡ old_end
  pub holds : HasRows ks from end f

-- the sections of the rows from x on, before z, which come after p others; if there are others, no
-- rows make no sections
abbrev pub changed_sections : ℕ → ℕ → ℕ → List RecordValue → List (List RecordValue)
changed_sections p x z new = if ltb 0 p && (x == z) then [] else sections (drop x (take z new))
