-- Meaning: which rules are on, and the level of their findings: yamllint's option `level`, and its
-- default configuration.
use Rattle.std.specs.Prelude.{ℕ, if◌then◌else◌, List, Option, Some, None, codes, bytes_eq}
use Rattle.yl_text.specs.Finding.{rule_name}
use Rattle.yl_text.specs.declared.finding.RuleId.{RuleId}
use Rattle.yl_text.specs.declared.finding.RuleId.TheVariants.{Comments, DocumentStart, KeyOrdering, QuotedStrings, Syntax, Truthy}
use Rattle.yl_rules.specs.declared.level.Level.{Level}
use Rattle.yl_rules.specs.declared.level.Level.TheVariants.{Error, Warning}

-- the name in printed lines
abbrev pub level_name : Level → List ℕ
level_name Error = codes "error"
level_name Warning = codes "warning"

-- the level of each rule, or `None` if it is off
abbrev pub LevelTable : Type 0
LevelTable = RuleId → Option Level

-- a fault of the text is always an error
abbrev pub with_syntax : RuleId → Option Level → Option Level
with_syntax Syntax level = Some Error
with_syntax _ level = level

-- no rule but `syntax` is on
abbrev pub none_on : LevelTable
none_on rule = with_syntax rule None

-- yamllint's default configuration
abbrev pub default_levels : LevelTable
default_levels KeyOrdering = None
default_levels QuotedStrings = None
default_levels Comments = Some Warning
default_levels DocumentStart = Some Warning
default_levels Truthy = Some Warning
default_levels _ = Some Error

-- the table with one rule set; rules are compared by their names
abbrev pub set_level : LevelTable → RuleId → Option Level → LevelTable
set_level table rule level q = with_syntax q (if bytes_eq (rule_name q) (rule_name rule) then level else table q)
