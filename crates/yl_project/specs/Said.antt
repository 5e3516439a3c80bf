-- Meaning: what a project's configuration says: of the rules, for which paths each of them is off, which paths are ignored, and which files
-- are YAML.
use Rattle.std.specs.Prelude.{ℕ, Bool, if◌then◌else◌, List, [], ◌∷◌, map, Option, Some, None, codes, is_some, unwrap_or}
use Rattle.yl_text.specs.declared.position.Pos.{Pos}
use Rattle.yl_text.specs.declared.finding.RuleId.{RuleId}
use Rattle.yl_text.specs.declared.finding.RuleId.TheVariants.{Braces, Brackets, Colons, Commas, Comments, DocumentStart, EmptyLines, Hyphens, Indentation, LineLength, Truthy}
use Rattle.yl_text.specs.Finding.{rule_name}
use Rattle.yl_text.specs.Lines.{RowValue, lines_of}
use Rattle.yl_rules.specs.declared.level.Level.TheVariants.{Warning}
use Rattle.yl_rules.specs.Levels.{LevelTable, default_levels, set_level}
use Rattle.yl_indentation.specs.declared.options.IndentSequences.TheVariants.{Consistent}
use Rattle.yl_settings.specs.declared.options.RuleOptions.{RuleOptions}
use Rattle.yl_settings.specs.Nodes.{ItemValue, EntryValue, entries_of, starts_mapping}
use Rattle.yl_settings.specs.Options.{with_options_of}
use Rattle.yl_settings.specs.Standard.{standard_rule_options}
use Rattle.yl_config.specs.Misfits.{checked_rules, origin, place_or, turns_off, turns_on}
use Rattle.yl_config.specs.Settings.{Settings, all_off, standard, with_rules}
use Rattle.yl_patterns.specs.Patterns.{PatternValue}
use Rattle.yl_project.specs.Misfits.{is_key}
use Rattle.yl_project.specs.Texts.{patterns_in, with_lines}

-- a rule, and the patterns for whose paths it is off
pub record RuleIgnoreValue : Type 0 where
  pub rule : RuleId
  pub patterns : List PatternValue

pub record ProjectValue : Type 0 where
  pub settings : Settings
  pub rules : List RuleIgnoreValue
  pub ignored : List PatternValue
  pub yaml_files : List PatternValue

-- ---- those that come with the crate

-- which files are YAML unless a configuration says it
unfoldable pub standard_yaml_files : List PatternValue
standard_yaml_files = unwrap_or (with_lines [] (lines_of (codes "*.yaml\n*.yml\n.yamllint"))) []

-- these settings, for each path
abbrev pub everywhere : Settings → ProjectValue
everywhere s = record { settings = s; rules = map (λ rule. record { rule = rule; patterns = [] }) checked_rules; ignored = []; yaml_files = standard_yaml_files }

-- these rules as warnings
unfoldable pub as_warnings : LevelTable → List RuleId → LevelTable
as_warnings levels [] = levels
as_warnings levels (rule ∷ rules) = as_warnings (set_level levels rule (Some Warning)) rules

unfoldable pub switched_off : LevelTable → List RuleId → LevelTable
switched_off levels [] = levels
switched_off levels (rule ∷ rules) = switched_off (set_level levels rule None) rules

abbrev pub relaxed_warnings : List RuleId
relaxed_warnings = Braces ∷ Brackets ∷ Colons ∷ Commas ∷ EmptyLines ∷ Hyphens ∷ Indentation ∷ LineLength ∷ []

abbrev pub relaxed_off : List RuleId
relaxed_off = Comments ∷ DocumentStart ∷ Truthy ∷ []

abbrev pub relaxed_options : RuleOptions → RuleOptions
relaxed_options o = record o {
  braces = record o.braces { max_spaces_inside = Some 1 };
  brackets = record o.brackets { max_spaces_inside = Some 1 };
  indentation = record o.indentation { indent_sequences = Consistent };
}

-- yamllint's configuration `relaxed`
abbrev pub relaxed : Settings
relaxed = record { levels = switched_off (as_warnings default_levels relaxed_warnings) relaxed_off; options = relaxed_options standard_rule_options }

-- ---- over what is extended

-- the value of the last entry with this key; else, what was there before
unfoldable pub last_value : List ℕ → Option ItemValue → List EntryValue → Option ItemValue
last_value name before [] = before
last_value name before (e ∷ es) = last_value name (if is_key name e then Some e.value else before) es

abbrev pub value_of : List ℕ → List EntryValue → Option ItemValue
value_of name es = last_value name None es

-- a rule that is off has the standard options
unfoldable pub put_right_options : LevelTable → List RuleId → RuleOptions → RuleOptions
put_right_options levels [] o = o
put_right_options levels (rule ∷ rules) o =
    put_right_options levels rules (if is_some (levels rule) then o else with_options_of rule standard_rule_options o)

abbrev pub put_right : Settings → Settings
put_right s = record { levels = s.levels; options = put_right_options s.levels checked_rules s.options }

-- a mapping of rules laid over settings
abbrev pub rules_over : Settings → Option ItemValue → Settings
rules_over base None = base
rules_over base (Some rules) = if starts_mapping rules.kind then with_rules base (entries_of rules.inside) base else base

-- the patterns of a value, in what begins at this place; else, what is there without the value
abbrev pub patterns_or : List PatternValue → List RowValue → Pos → Option ItemValue → List PatternValue
patterns_or other lines holder None = other
patterns_or other lines holder (Some item) = unwrap_or (patterns_in lines holder item) []

-- the patterns of a rule with this value. A rule that is off has none
abbrev pub rule_patterns : List RowValue → List PatternValue → Option ItemValue → List PatternValue
rule_patterns lines base None = base
rule_patterns lines base (Some item) =
    if turns_on item.kind then base
    else if turns_off item.kind then []
    else if starts_mapping item.kind then patterns_or base lines (place_or origin item.place) (value_of (codes "ignore") (entries_of item.inside))
    else base

abbrev pub ignore_over : List RowValue → List EntryValue → RuleIgnoreValue → RuleIgnoreValue
ignore_over lines es r = record { rule = r.rule; patterns = rule_patterns lines r.patterns (value_of (rule_name r.rule) es) }

abbrev pub ignores_over : List RowValue → List RuleIgnoreValue → Option ItemValue → List RuleIgnoreValue
ignores_over lines base None = base
ignores_over lines base (Some rules) = if starts_mapping rules.kind then map (ignore_over lines (entries_of rules.inside)) base else base

-- what the root of a document says to be ignored; else what the files say that it names; else what is ignored in what is extended
abbrev pub ignored_over : List PatternValue → List PatternValue → List RowValue → ItemValue → List PatternValue
ignored_over base files lines root =
    let es = entries_of root.inside in
    patterns_or (if is_some (value_of (codes "ignore-from-file") es) then files else base) lines (place_or origin root.place) (value_of (codes "ignore") es)

abbrev pub yaml_files_of : List RowValue → ItemValue → List PatternValue
yaml_files_of lines root = patterns_or standard_yaml_files lines (place_or origin root.place) (value_of (codes "yaml-files") (entries_of root.inside))

-- the root of a document over what is extended, where these patterns stand in the files that it names
abbrev pub said_over : ProjectValue → List PatternValue → List RowValue → ItemValue → ProjectValue
said_over base files lines root =
    let rules = value_of (codes "rules") (entries_of root.inside) in
    record {
      settings = rules_over (put_right base.settings) rules;
      rules = ignores_over lines base.rules rules;
      ignored = ignored_over base.ignored files lines root;
      yaml_files = yaml_files_of lines root;
    }
