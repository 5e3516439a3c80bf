-- Meaning: reports: their order, their printed lines, their status. A message is in UTF-8.
use Rattle.std.specs.Prelude.{ℕ, Bool, true, false, not, ◌&&◌, ◌||◌, if◌then◌else◌, List, [], ◌∷◌, ◌++◌, ◌-◌, codes, decimal, Option, is_some}
use Rattle.std.specs.List.{filter, filter_map, flat_map, list_any}
use Rattle.std.specs.Option.{option_map}
use Rattle.std.specs.Ordering.{then_cmp, on, nat_cmp, is_lt, is_eq}
use Rattle.std.specs.declared.cmp.Ordering.{Ordering}
use Rattle.std.specs.Cmp.Lexicographic.{slice_cmp}
use Rattle.yl_text.specs.declared.finding.RuleId.{RuleId}
use Rattle.yl_text.specs.declared.finding.RuleId.TheVariants.{Syntax}
use Rattle.yl_text.specs.Finding.{FindingValue, rule_name}
use Rattle.yl_rules.specs.declared.level.Level.{Level}
use Rattle.yl_rules.specs.declared.level.Level.TheVariants.{Error, Warning}
use Rattle.yl_rules.specs.Levels.{LevelTable, level_name}

-- ---- the order: by line, column, rule name and message

abbrev pub order_in_place : FindingValue → FindingValue → Ordering
order_in_place = then_cmp (on (λ f. rule_name f.rule) (slice_cmp nat_cmp)) (on (λ f. f.message) (slice_cmp nat_cmp))

abbrev pub order_in_line : FindingValue → FindingValue → Ordering
order_in_line = then_cmp (on (λ f. f.column) nat_cmp) order_in_place

abbrev pub finding_order : FindingValue → FindingValue → Ordering
finding_order = then_cmp (on (λ f. f.line) nat_cmp) order_in_line

-- x in its place, unless it is there
abbrev pub insert_once : FindingValue → List FindingValue → List FindingValue
insert_once x [] = x ∷ []
insert_once x (y ∷ ys) =
    let o = finding_order x y in if is_lt o then x ∷ y ∷ ys else if is_eq o then y ∷ ys else y ∷ insert_once x ys

-- in order, each once
abbrev pub sorted_once : List FindingValue → List FindingValue
sorted_once [] = []
sorted_once (x ∷ xs) = insert_once x (sorted_once xs)

-- ---- what is reported

-- a problem of a report; its line and its column count from 1, the column in characters
pub record ProblemValue : Type 0 where
  pub line : ℕ
  pub column : ℕ
  pub level : Level
  pub rule : RuleId
  pub message : List ℕ

abbrev pub is_syntax : RuleId → Bool
is_syntax Syntax = true
is_syntax _ = false

-- the rule is on, and nothing silences it in its line, which counts from 0 there; nothing but
-- `disable-file` silences a text's fault
abbrev pub is_reported : LevelTable → (RuleId → ℕ → Bool) → FindingValue → Bool
is_reported levels silenced f = is_some (levels f.rule) && (is_syntax f.rule || not (silenced f.rule (f.line - 1)))

abbrev pub with_level : LevelTable → FindingValue → Option ProblemValue
with_level levels f =
    option_map (λ level. record { line = f.line; column = f.column; level = level; rule = f.rule; message = f.message }) (levels f.rule)

-- the report of what was found, under levels and silencing comments: yamllint's "Disable with comments"
abbrev pub report_of : LevelTable → Bool → (RuleId → ℕ → Bool) → List FindingValue → List ProblemValue
report_of levels is_file_silenced silenced found =
    if is_file_silenced then [] else filter_map (with_level levels) (sorted_once (filter (is_reported levels silenced) found))

-- ---- status and printed lines

abbrev pub is_error : Level → Bool
is_error Error = true
is_error Warning = false

-- 1 if there is an error, else 2 if there is a warning and strict is asked, else 0
abbrev pub status_of : List ProblemValue → Bool → ℕ
status_of problems strict =
    if list_any (λ p. is_error p.level) problems then 1
    else (if strict && list_any (λ p. not (is_error p.level)) problems then 2 else 0)

-- yamllint's parsable form, `FILE:LINE:COLUMN: [LEVEL] MESSAGE (RULE)`, and a line feed
abbrev pub printed_line : List ℕ → ProblemValue → List ℕ
printed_line name p =
    name ++ codes ":" ++ decimal p.line ++ codes ":" ++ decimal p.column ++ codes ": [" ++ level_name p.level ++ codes "] "
    ++ p.message ++ codes " (" ++ rule_name p.rule ++ codes ")\n"

-- the printed lines of the problems, without the warnings if so asked
abbrev pub report_text : List ℕ → List ProblemValue → Bool → List ℕ
report_text name problems no_warnings =
    flat_map (λ p. if no_warnings && not (is_error p.level) then [] else printed_line name p) problems
