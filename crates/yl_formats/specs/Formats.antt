-- Meaning: the problems of a file as text, in yamllint's formats (its option `--format`).
use Rattle.std.specs.Prelude.{ℕ, ◌-◌, Bool, not, ◌&&◌, if◌then◌else◌, List, [], ◌∷◌, ◌++◌, length, replicate, codes, decimal}
use Rattle.std.specs.List.{flat_map, list_all}
use Rattle.yl_text.specs.declared.finding.RuleId.{RuleId}
use Rattle.yl_text.specs.Finding.{rule_name}
use Rattle.yl_rules.specs.declared.level.Level.{Level}
use Rattle.yl_rules.specs.declared.level.Level.TheVariants.{Error, Warning}
use Rattle.yl_rules.specs.Levels.{level_name}
use Rattle.yl_report.specs.Report.{ProblemValue, is_error, is_syntax, report_text}
use Rattle.yl_formats.specs.declared.format.Format.{Format}
use Rattle.yl_formats.specs.declared.format.Format.TheVariants.{Parsable, Standard, Colored, Github}

-- ---- the parts of a line

abbrev pub place_text : ProblemValue → List ℕ
place_text p = decimal p.line ++ codes ":" ++ decimal p.column

-- a line's beginning, and the spaces that bring it to a width
abbrev pub padded : List ℕ → ℕ → List ℕ
padded line width = line ++ replicate (width - length line) 32

-- yamllint has no rule for the fault of a text: the message ends with this instead
abbrev pub syntax_mark : RuleId → List ℕ
syntax_mark rule = if is_syntax rule then codes " (syntax)" else []

-- the name of a rule with texts around it
abbrev pub rule_between : List ℕ → RuleId → List ℕ → List ℕ
rule_between before rule after = if is_syntax rule then [] else before ++ rule_name rule ++ after

-- ---- the line of a problem

abbrev pub standard_line : ProblemValue → List ℕ
standard_line p =
    padded (padded (codes "  " ++ place_text p) 12 ++ level_name p.level) 21
    ++ p.message ++ syntax_mark p.rule ++ rule_between (codes "  (") p.rule (codes ")") ++ codes "\n"

-- a text between the sequences that turn a terminal's attribute on, and all attributes off
abbrev pub with_attribute : (number text : List ℕ) → List ℕ
with_attribute number text = 27 ∷ codes "[" ++ number ++ codes "m" ++ text ++ 27 ∷ codes "[0m"

-- yellow and red
abbrev pub colored_level : Level → List ℕ
colored_level Warning = with_attribute (codes "33") (codes "warning")
colored_level Error = with_attribute (codes "31") (codes "error")

-- as `standard_line`, with the place and the rule faint; the widths count the sequences
abbrev pub colored_line : ProblemValue → List ℕ
colored_line p =
    padded (padded (codes "  " ++ with_attribute (codes "2") (place_text p)) 20 ++ colored_level p.level) 38
    ++ p.message ++ syntax_mark p.rule
    ++ rule_between (codes "  " ++ 27 ∷ codes "[2m(") p.rule (codes ")" ++ 27 ∷ codes "[0m") ++ codes "\n"

-- a command of a workflow of GitHub
abbrev pub github_line : List ℕ → ProblemValue → List ℕ
github_line name p =
    codes "::" ++ level_name p.level ++ codes " file=" ++ name ++ codes ",line=" ++ decimal p.line ++ codes ",col=" ++ decimal p.column
    ++ codes "::" ++ place_text p ++ codes " " ++ rule_between (codes "[") p.rule (codes "] ") ++ p.message ++ syntax_mark p.rule ++ codes "\n"

-- ---- the lines of a file

-- a warning, where none is asked for
abbrev pub is_hidden : Bool → ProblemValue → Bool
is_hidden no_warnings p = no_warnings && not (is_error p.level)

abbrev pub lines_text : (ProblemValue → List ℕ) → List ProblemValue → Bool → List ℕ
lines_text line problems no_warnings = flat_map (λ p. if is_hidden no_warnings p then [] else line p) problems

-- the lines of the problems between what begins and what ends them, where there are any
abbrev pub listed_text : (head : List ℕ) → (ProblemValue → List ℕ) → (end : List ℕ) → List ProblemValue → Bool → List ℕ
listed_text head line end problems no_warnings =
    if list_all (is_hidden no_warnings) problems then [] else head ++ lines_text line problems no_warnings ++ end

-- the problems of a file of this name in a format, without the warnings if so asked
abbrev pub problems_text : Format → List ℕ → List ProblemValue → Bool → List ℕ
problems_text Parsable name = report_text name
problems_text Standard name = listed_text (name ++ codes "\n") standard_line (codes "\n")
problems_text Colored name = listed_text (with_attribute (codes "4") name ++ codes "\n") colored_line (codes "\n")
problems_text Github name = listed_text (codes "::group::" ++ name ++ codes "\n") (github_line name) (codes "::endgroup::\n\n")
