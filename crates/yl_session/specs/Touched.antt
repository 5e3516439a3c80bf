-- Bridge: the sections that an edit touches: those that it replaces, or, if all sections stay, the
-- section that has the lines of the edit, which is then put in its own place.
use Rattle.std.specs.Prelude.{◌≡◌, ◌<◌, ◌+◌, ℕ, List, [], ◌∷◌, length, take, drop}
use Rattle.yl_text.specs.Lines.{RowValue}
use Rattle.yl_sections.specs.Kept.{KeptValue, rows_kept}
use Rattle.yl_summary.specs.declared.edit.SectionEdit.{SectionEdit}
use Rattle.yl_patch.specs.Cut.{IsApart}

-- the index after that of the last touched section: the one after `from` if no summaries are put
-- in, else `end`
abbrev pub touched_end : ℕ → ℕ → List KeptValue → ℕ
touched_end from end [] = from + 1
touched_end from end (k ∷ ks) = end

-- the summaries of the touched sections after the edit
abbrev pub touched_by : List KeptValue → ℕ → List KeptValue → List KeptValue
touched_by ks from [] = take 1 (drop from ks)
touched_by ks from (n ∷ ns) = n ∷ ns

-- the summaries `new` replace those of the sections with the indices from `from` on, before `end`,
-- or all stay; and the edit lies in the lines of the sections that it touches, which are apart from
-- the lines of the others
pub record IsTouching (rows ins : List RowValue) (a b : ℕ) (ks : List KeptValue) (from end : ℕ) (new : List KeptValue) : Type 0 where
  pub stay : new ≡ [] → (from ≡ end) × (from < length ks)
  pub apart : IsApart rows ins a b (rows_kept (take from ks)) (rows_kept (take (touched_end from end new) ks)) (rows_kept (touched_by ks from new))

-- the edit replaces the touched sections
pub record IsEditOf {A : Type 0} (e : SectionEdit A) (ks : List KeptValue) (from end : ℕ) (new : List KeptValue) : Type 0 where
  pub sections : e.sections.now.items ≡ ks
  pub from_is : e.from ≡ from
  pub end_is : e.end ≡ touched_end from end new
  pub kept : e.kept.now ≡ touched_by ks from new
