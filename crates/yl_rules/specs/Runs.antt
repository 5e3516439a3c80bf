-- Meaning: the findings of the rules that look at the lines of a whole text.
use Rattle.std.specs.Prelude.{List, ◌++◌}
use Rattle.yl_text.specs.Finding.{FindingValue}
use Rattle.yl_text.specs.Lines.{RowValue}
use Rattle.yl_rules.specs.EmptyLines.{empty_lines}
use Rattle.yl_rules.specs.EndOfFile.{end_of_file}
use Rattle.yl_rules.specs.NewLines.{new_lines}
use Rattle.yl_rules.specs.declared.options.RunOptions.{RunOptions}

abbrev pub run_findings : RunOptions → List RowValue → List FindingValue
run_findings o rows = new_lines o.new_line rows ++ (empty_lines o.empty_lines rows ++ end_of_file rows)
