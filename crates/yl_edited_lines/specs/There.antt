-- Meaning: the findings in some lines of a text, and in the sections of these lines.
use Rattle.std.specs.Prelude.{Bool, true, List, ◌++◌}
use Rattle.yl_text.specs.declared.finding.RuleId.{RuleId}
use Rattle.yl_text.specs.declared.finding.RuleId.TheVariants.{NewLines, NewLineAtEndOfFile}
use Rattle.yl_text.specs.Finding.{FindingValue}
use Rattle.yl_text.specs.Lines.{RowValue}
use Rattle.yl_indentation.specs.declared.measure.Measure.{Measure}
use Rattle.yl_rules.specs.EmptyLines.{empty_lines}
use Rattle.yl_rules.specs.EndOfFile.{end_of_file}
use Rattle.yl_rules.specs.NewLines.{new_lines}
use Rattle.yl_settings.specs.declared.options.RuleOptions.{RuleOptions}
use Rattle.yl_sections.specs.Kept.{KeptValue, items_if}
use Rattle.yl_lint.specs.Onward.{onward_in_sections}
use Rattle.yl_lint.specs.TextReport.{findings_from}
use Rattle.yl_edited_lines.specs.declared.there.Ends.{Ends}

-- a rule judges lines with these ends: new-lines judges only lines that begin a text, and
-- new-line-at-end-of-file only lines that end one
abbrev pub judges : Ends → RuleId → Bool
judges e NewLines = e.begins
judges e NewLineAtEndOfFile = e.ends
judges e _ = true

-- the findings of the rules on lines; the first line is line 1
abbrev pub lines_there : RuleOptions → Ends → List RowValue → List FindingValue
lines_there o e rows =
    findings_from o.row 1 rows
    ++ (items_if e.begins (new_lines o.run.new_line rows) ++ (empty_lines o.run.empty_lines rows ++ items_if e.ends (end_of_file rows)))

-- the findings in the lines and in their sections, after facts of this measure
abbrev pub found_there : RuleOptions → Ends → Measure → List RowValue → List KeptValue → List FindingValue
found_there o e before rows ks = lines_there o e rows ++ onward_in_sections o.indentation 0 before ks
