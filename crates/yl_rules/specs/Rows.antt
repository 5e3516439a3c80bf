-- Meaning: the findings of the rules that look at one line.
use Rattle.std.specs.Prelude.{ℕ, List, ◌++◌}
use Rattle.std.specs.Str.{chars}
use Rattle.yl_text.specs.Finding.{FindingValue}
use Rattle.yl_text.specs.Lines.{RowValue}
use Rattle.yl_rules.specs.TrailingSpaces.{trailing_spaces}
use Rattle.yl_rules.specs.LineLength.{line_length}
use Rattle.yl_rules.specs.declared.options.RowOptions.{RowOptions}

-- the findings in the characters of one line, whose number counts from 1
abbrev pub line_findings : RowOptions → ℕ → List ℕ → List FindingValue
line_findings o line cs = trailing_spaces line cs ++ line_length o line cs

abbrev pub row_findings : RowOptions → ℕ → RowValue → List FindingValue
row_findings o line row = line_findings o line (chars row.text)
