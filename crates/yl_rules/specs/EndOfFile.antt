-- Meaning: yamllint's rule new-line-at-end-of-file: the last line of a text has to be empty.
use Rattle.std.specs.Prelude.{ℕ, ◌==◌, if◌then◌else◌, List, [], ◌+◌, ◌-◌, length, codes, Option, Some, None, slice_get}
use Rattle.std.specs.Str.{chars}
use Rattle.yl_text.specs.Finding.{FindingValue, one_finding}
use Rattle.yl_text.specs.Lines.{RowValue}
use Rattle.yl_text.specs.declared.finding.RuleId.TheVariants.{NewLineAtEndOfFile}

-- the finding is after the last character of the last line, whose number is `line`
abbrev pub end_of_file_at : ℕ → Option RowValue → List FindingValue
end_of_file_at line None = []
end_of_file_at line (Some row) =
    if length row.text == 0 then []
    else one_finding NewLineAtEndOfFile line (length (chars row.text) + 1) (codes "no new line character at the end of file")

abbrev pub end_of_file : List RowValue → List FindingValue
end_of_file rows = end_of_file_at (length rows) (slice_get rows (length rows - 1))
