-- Meaning: yamllint's rule new-lines: the break in which the first line of a text has to end.
use Rattle.std.specs.Prelude.{ℕ, Bool, true, false, if◌then◌else◌, List, [], ◌∷◌, ◌+◌, length, codes}
use Rattle.std.specs.Str.{chars}
use Rattle.yl_text.specs.Finding.{FindingValue, one_finding}
use Rattle.yl_text.specs.Lines.{RowValue}
use Rattle.yl_text.specs.declared.row.Break.{Break}
use Rattle.yl_text.specs.declared.row.Break.TheVariants.{No, Lf, CrLf}
use Rattle.yl_text.specs.declared.finding.RuleId.TheVariants.{NewLines}
use Rattle.yl_rules.specs.declared.new_lines.NewLine.{NewLine}
use Rattle.yl_rules.specs.declared.new_lines.NewLine.TheVariants.{Unix, Dos}

-- there is a break, and it is not the one wanted
abbrev pub is_wrong_break : NewLine → Break → Bool
is_wrong_break wanted No = false
is_wrong_break Unix Lf = false
is_wrong_break Dos CrLf = false
is_wrong_break _ _ = true

-- the message has the wanted break as an escape
abbrev pub wrong_break : NewLine → List ℕ
wrong_break Unix = codes "wrong new line character: expected \\n"
wrong_break Dos = codes "wrong new line character: expected \\r\\n"

-- the finding is after the last character of the first line
abbrev pub new_lines : NewLine → List RowValue → List FindingValue
new_lines wanted [] = []
new_lines wanted (row ∷ rows) =
    if is_wrong_break wanted row.end then one_finding NewLines 1 (length (chars row.text) + 1) (wrong_break wanted) else []
