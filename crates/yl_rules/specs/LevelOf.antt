-- Bridge: the level of each rule, and the index of a rule in an array.
use Rattle.std.specs.Prelude.{ℕ, None, slice_index_or}
use Rattle.yl_text.specs.declared.finding.RuleId.{RuleId}
use Rattle.yl_text.specs.declared.finding.RuleId.TheVariants.{Anchors, Braces, Brackets, Colons, Commas, Comments, DocumentStart, EmptyLines, Hyphens, Indentation, KeyDuplicates, KeyOrdering, LineLength, NewLineAtEndOfFile, NewLines, QuotedStrings, Syntax, TrailingSpaces, Truthy}
use Rattle.yl_rules.specs.Levels.{LevelTable, with_syntax}
use Rattle.yl_rules.specs.declared.level.RuleLevels.{RuleLevels}

-- the index of each rule
abbrev pub rule_number : RuleId → ℕ
rule_number Anchors = 0
rule_number Braces = 1
rule_number Brackets = 2
rule_number Colons = 3
rule_number Commas = 4
rule_number Comments = 5
rule_number DocumentStart = 6
rule_number EmptyLines = 7
rule_number Hyphens = 8
rule_number Indentation = 9
rule_number KeyDuplicates = 10
rule_number KeyOrdering = 11
rule_number LineLength = 12
rule_number NewLineAtEndOfFile = 13
rule_number NewLines = 14
rule_number QuotedStrings = 15
rule_number Syntax = 16
rule_number TrailingSpaces = 17
rule_number Truthy = 18

-- the level of each rule that is on
abbrev pub level_of : RuleLevels → LevelTable
level_of levels rule = with_syntax rule (slice_index_or levels.levels (rule_number rule) None)
