-- Bridge: what is shown by the comments of a text's first sections alone.
use Rattle.std.specs.Prelude.{ℕ, Bool, List, take}
use Rattle.yl_text.specs.Lines.{RowValue}
use Rattle.yl_report.specs.Directive.{disables_file, is_silenced}
use Rattle.yl_report.specs.Report.{ProblemValue}
use Rattle.yl_problem_lists.specs.Showing.{shows}
use Rattle.yl_sections.specs.Kept.{KeptValue, rows_kept}
use Rattle.yl_lint.specs.TextReport.{comments_in_sections, first_text, shown}

-- the problem is shown by the comments of the first n sections, as far as these are shown
abbrev pub is_shown_upto : ℕ → List RowValue → List KeptValue → ProblemValue → Bool
is_shown_upto n rows ks p = shows (disables_file (first_text rows)) (is_silenced (comments_in_sections 0 (take n (shown ks)))) (rows_kept (shown ks)) p
