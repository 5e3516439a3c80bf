-- Meaning: the settings of the rules that a configuration makes.
use Rattle.std.specs.Prelude.{Bool, ◌&&◌, if◌then◌else◌, List, [], ◌∷◌, Option, Some, None, codes, bytes_eq, unwrap_or}
use Rattle.std.specs.List.{list_any}
use Rattle.yl_text.specs.declared.finding.RuleId.{RuleId}
use Rattle.yl_rules.specs.declared.level.Level.{Level}
use Rattle.yl_rules.specs.declared.level.Level.TheVariants.{Error}
use Rattle.yl_rules.specs.Levels.{LevelTable, none_on, set_level, default_levels}
use Rattle.yl_settings.specs.declared.options.RuleOptions.{RuleOptions}
use Rattle.yl_config.specs.Misfits.{is_free_option, rule_named, turns_off, turns_on}
use Rattle.yl_settings.specs.Nodes.{ItemValue, EntryValue, entries_of, starts_mapping}
use Rattle.yl_settings.specs.Options.{option_of, with_options_of}
use Rattle.yl_settings.specs.Standard.{standard_rule_options}
use Rattle.yl_settings.specs.Values.{level_in}
use Rattle.yl_settings.specs.Words.{word}

-- the level of each rule, or none if it is off, and the options of all rules
pub record Settings : Type 0 where
  pub levels : LevelTable
  pub options : RuleOptions

-- yamllint's default configuration
abbrev pub standard : Settings
standard = record { levels = default_levels; options = standard_rule_options }

-- no rule is on except syntax; the options are those of the default configuration
abbrev pub all_off : Settings
all_off = record { levels = none_on; options = standard_rule_options }

-- ---- a rule

abbrev pub at_level : RuleId → Option Level → Settings → Settings
at_level rule level s = record { levels = set_level s.levels rule level; options = s.options }

-- a rule set to this level, if there is one
abbrev pub with_rule_level : RuleId → Option Level → Settings → Settings
with_rule_level rule None s = s
with_rule_level rule (Some level) s = at_level rule (Some level) s

-- one entry of a rule's mapping, applied to the settings so far
abbrev pub with_option : RuleId → EntryValue → Settings → Settings
with_option rule e s =
    if is_free_option (word e.key) then s
    else if bytes_eq (word e.key) (codes "level") then with_rule_level rule (level_in e.value.kind) s
    else record { levels = s.levels; options = (option_of rule (word e.key) e.value).change s.options }

-- the entries of a rule's mapping, applied in order
unfoldable pub with_options : RuleId → List EntryValue → Settings → Settings
with_options rule [] s = s
with_options rule (e ∷ es) s = with_options rule es (with_option rule e s)

-- a rule with the options that it has in `base`, at a level or off
abbrev pub afresh : Settings → RuleId → Option Level → Settings → Settings
afresh base rule level s = record { levels = set_level s.levels rule level; options = with_options_of rule base.options s.options }

-- a rule turned on, at its level in `base`, or at level error if it is off there
abbrev pub turned_on : Settings → RuleId → Settings → Settings
turned_on base rule s = afresh base rule (Some (unwrap_or (base.levels rule) Error)) s

-- the value of a rule, which replaces the settings of the rule so far
abbrev pub with_value : Settings → RuleId → ItemValue → Settings → Settings
with_value base rule item s =
    if turns_on item.kind then turned_on base rule s
    else if turns_off item.kind then afresh base rule None s
    else if starts_mapping item.kind then with_options rule (entries_of item.inside) (turned_on base rule s)
    else s

abbrev pub with_named : Settings → Option RuleId → ItemValue → Settings → Settings
with_named base None item s = s
with_named base (Some rule) item s = with_value base rule item s

abbrev pub with_rule : Settings → EntryValue → Settings → Settings
with_rule base e s = with_named base (rule_named (word e.key)) e.value s

unfoldable pub with_rules : Settings → List EntryValue → Settings → Settings
with_rules base [] s = s
with_rules base (e ∷ es) s = with_rules base es (with_rule base e s)

-- ---- the root

abbrev pub is_extends : EntryValue → Bool
is_extends e = bytes_eq (word e.key) (codes "extends")

-- the configuration that is extended: the default one, or one with no rule on except syntax
abbrev pub base_of : List EntryValue → Settings
base_of es = if list_any is_extends es then standard else all_off

-- the entries of a mapping of rules replace those of an earlier one
abbrev pub with_entry : Settings → EntryValue → Settings → Settings
with_entry base e s =
    if bytes_eq (word e.key) (codes "rules") && starts_mapping e.value.kind then with_rules base (entries_of e.value.inside) base else s

unfoldable pub with_entries : Settings → List EntryValue → Settings → Settings
with_entries base [] s = s
with_entries base (e ∷ es) s = with_entries base es (with_entry base e s)

-- the settings of a document with this root
abbrev pub settings_of : ItemValue → Settings
settings_of root = if starts_mapping root.kind then with_entries (base_of (entries_of root.inside)) (entries_of root.inside) (base_of (entries_of root.inside)) else all_off
