-- Bridge: what is found in the lines of the sections that an edit touches, whatever comments
-- silence and a fault hides.
use Rattle.std.specs.Prelude.{◌≡◌, ◌+◌, ◌-◌, ◌==◌, ℕ, true, false, length, map, take, drop, slice_get, List}
use Rattle.std.specs.List.{splice}
use Rattle.yl_text.specs.Finding.{FindingValue}
use Rattle.yl_text.specs.Lines.{RowValue}
use Rattle.yl_indentation.specs.declared.measure.Measure.{Measure}
use Rattle.yl_indentation.specs.declared.options.IndentationOptions.{IndentationOptions}
use Rattle.yl_indentation.specs.Measures.{and_later, measure_of}
use Rattle.yl_config.specs.declared.config.Config.{Config}
use Rattle.yl_config.specs.Config.{options_of}
use Rattle.yl_sections.specs.Kept.{KeptValue, rows_kept}
use Rattle.yl_lint.specs.Onward.{onward_in_sections}
use Rattle.yl_lint.specs.TextReport.{facts_in_sections, moved}
use Rattle.yl_patch.specs.Cut.{IsInside, is_filled}
use Rattle.yl_edited_lines.specs.There.{found_there}
use Rattle.yl_edited_lines.specs.declared.there.Ends.{Ends}
use Rattle.yl_patch.specs.declared.touched.Touched.{Touched}

-- the sections with the indices from `from` on, before `end`
abbrev pub sections_between : ℕ → ℕ → List KeptValue → List KeptValue
sections_between from end ks = take (end - from) (drop from ks)

-- the measure of facts that have this measure, and of the facts of these sections after them
abbrev pub measure_upto : Measure → List KeptValue → Measure
measure_upto above ks = and_later above (measure_of (facts_in_sections ks))

-- after facts of either measure the same is found in these sections, under any options
abbrev pub AreFoundAlike : Measure → Measure → List KeptValue → Type 0
AreFoundAlike one other ks = (options : IndentationOptions) (line : ℕ) → onward_in_sections options line one ks ≡ onward_in_sections options line other ks

-- the lines of the touched sections after the edit
abbrev pub new_lines_of : Touched → ℕ → ℕ → List RowValue → List RowValue → List RowValue
new_lines_of t a b rows ins = take (t.new_end - t.first) (drop t.first (splice rows a b ins))

-- the edit lies in the lines of the touched sections, which are apart from the lines above and
-- below. They are the rows from `from_row` on, before `end_row`, and `count` rows after the edit
pub record IsCut (rows ins : List RowValue) (a b from_row end_row count : ℕ) (t : Touched) (e : Ends) : Type 0 where
  pub inside : IsInside t a b (length ins) (length rows)
  pub first : t.first ≡ from_row
  pub old_end : t.old_end ≡ end_row
  pub new_end : t.new_end ≡ t.first + count
  pub begins_text : e.begins ≡ (t.first == 0)
  pub ends_text : e.ends ≡ (t.old_end == length rows)
  pub old_seam : e.begins ≡ false → is_filled (slice_get rows t.first) ≡ true
  pub new_seam : e.begins ≡ false → is_filled (slice_get (splice rows a b ins) t.first) ≡ true
  pub behind_seam : e.ends ≡ false → is_filled (slice_get rows t.old_end) ≡ true

-- these are the findings in the touched lines after the edit, and in the sections that replace
-- those with the indices from `from` on, before `end`; the lines that the edit touches are theirs
pub record IsSeen (config : Config) (rows ins : List RowValue) (kept new : List KeptValue) (a b from end : ℕ) (t : Touched) (found : List FindingValue) : Type 0 where
  pub ends : Ends
  pub cut : IsCut rows ins a b (rows_kept (take from kept)) (rows_kept (take end kept)) (rows_kept new) t ends
  pub there : found ≡ map (moved t.first) (found_there (options_of config) ends (measure_of (facts_in_sections (take from kept))) (new_lines_of t a b rows ins) new)
