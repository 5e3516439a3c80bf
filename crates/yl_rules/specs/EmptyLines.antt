-- Meaning: yamllint's rule empty-lines, on runs of lines that consist of a break only.
use Rattle.std.specs.Prelude.{ℕ, Bool, true, false, not, ◌&&◌, ◌||◌, ◌==◌, nat_le, if◌then◌else◌, List, [], ◌∷◌, ◌++◌, ◌+◌, length, codes, decimal}
use Rattle.std.specs.List.{prefix_len}
use Rattle.yl_text.specs.Character.{starts_by}
use Rattle.yl_text.specs.Finding.{FindingValue, one_finding, at_each}
use Rattle.yl_text.specs.Lines.{RowValue}
use Rattle.yl_text.specs.declared.row.Break.{Break}
use Rattle.yl_text.specs.declared.row.Break.TheVariants.{No}
use Rattle.yl_text.specs.declared.finding.RuleId.TheVariants.{EmptyLines}
use Rattle.yl_rules.specs.declared.empty_lines.EmptyLinesOptions.{EmptyLinesOptions}

abbrev pub has_break : Break → Bool
has_break No = false
has_break _ = true

-- the line consists of a break only
abbrev pub is_break_only : RowValue → Bool
is_break_only row = length row.text == 0 && has_break row.end

-- the next line is the last one, and empty
abbrev pub is_text_end : List RowValue → Bool
is_text_end = starts_by (λ row. length row.text == 0 && not (has_break row.end))

-- a run of `run` lines, the last of which has the number `line`
abbrev pub too_many_blank_lines : ℕ → ℕ → ℕ → List FindingValue
too_many_blank_lines run bound line =
    if nat_le run bound then []
    else one_finding EmptyLines line 1 (codes "too many blank lines (" ++ (decimal run ++ (codes " > " ++ (decimal bound ++ codes ")"))))

-- the bound of a run is that for the end of a text, for its start, or for elsewhere; a text that
-- consists of one break has no finding
abbrev pub run_findings_of : EmptyLinesOptions → ℕ → ℕ → Bool → List FindingValue
run_findings_of o run line at_end =
    if line == 1 && at_end then []
    else too_many_blank_lines run (if at_end then o.max_end else if run == line then o.max_start else o.max) line

-- at a line with which a run of `run` lines ends: the run is judged there, if the next line does
-- not continue it
abbrev pub at_end_of_run : EmptyLinesOptions → ℕ → ℕ → List RowValue → List FindingValue
at_end_of_run o run line after =
    if run == 0 || starts_by is_break_only after then [] else run_findings_of o run line (is_text_end after)

abbrev pub empty_lines_at : EmptyLinesOptions → List RowValue → RowValue → List RowValue → List FindingValue
empty_lines_at o before row after = at_end_of_run o (prefix_len is_break_only (row ∷ before)) (length before + 1) after

abbrev pub empty_lines : EmptyLinesOptions → List RowValue → List FindingValue
empty_lines o rows = at_each (empty_lines_at o) [] rows
