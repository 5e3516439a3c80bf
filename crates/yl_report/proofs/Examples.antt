-- Worked rows: the definitions compute what the documentation's examples say.
use Rattle.std.proofs.Common.{◌≡◌, refl, List, [], ◌∷◌, ◌++◌, true, false, None, codes}
use Rattle.std.specs.Fmt.{digits}
use Rattle.yl_text.specs.declared.finding.RuleId.TheVariants.{NewLineAtEndOfFile, Syntax, Colons, TrailingSpaces}
use Rattle.yl_text.specs.Finding.{one_finding}
use Rattle.yl_rules.specs.Levels.{default_levels}
use Rattle.yl_lexeme.specs.Lexeme.{PlacedCommentValue}
use Rattle.yl_report.specs.Directive.{is_silenced, disables_file}
use Rattle.yl_report.specs.Report.{ProblemValue, report_of, report_text, status_of}

-- a text that is cut off: two problems at one place, in the order of their rules, each once
abbrev cut_off : List ProblemValue
cut_off = report_of default_levels false (λ _ _. false) (one_finding Syntax 2 9 (codes "syntax error: comma or closing bracket expected") ++ one_finding NewLineAtEndOfFile 2 9 (codes "no new line character at the end of file") ++ one_finding Syntax 2 9 (codes "syntax error: comma or closing bracket expected"))

cut_off_printed : report_text (codes "f.yaml") cut_off true
    ≡ codes "f.yaml:2:9: [error] no new line character at the end of file (new-line-at-end-of-file)\nf.yaml:2:9: [error] syntax error: comma or closing bracket expected (syntax)\n"
unfolding digits
cut_off_printed = refl

cut_off_status : status_of cut_off true ≡ 1
cut_off_status = refl

-- `# yamllint disable rule:colons` in line 1
abbrev without_colons : List PlacedCommentValue
without_colons = record { line = 1; text = codes "# yamllint disable rule:colons"; column = 0; behind = None } ∷ []

colons_off : is_silenced without_colons Colons 2 ≡ true
colons_off = refl

colons_on_before : is_silenced without_colons Colons 0 ≡ false
colons_on_before = refl

others_on : is_silenced without_colons TrailingSpaces 2 ≡ false
others_on = refl

file_off : disables_file (codes "# yamllint disable-file ") ≡ true
file_off = refl
