-- Meaning: a project as it is kept, and answers, as definitions have them.
use Rattle.std.specs.Prelude.{ℕ, List, Option, Some, None, Result, Ok, Err}
use Rattle.yl_config.specs.declared.config.Config.{Config}
use Rattle.yl_config.specs.declared.fault.ConfigFault.{ConfigFault}
use Rattle.yl_config.specs.Config.{config_settings}
use Rattle.yl_config.specs.Settings.{Settings}
use Rattle.yl_patterns.specs.Patterns.{PatternValue}
use Rattle.yl_project.specs.Said.{ProjectValue, RuleIgnoreValue}

pub record KeptProject : Type 0 where
  pub config : Config
  pub rules : List RuleIgnoreValue
  pub ignored : List PatternValue
  pub yaml_files : List PatternValue

abbrev pub project_value : KeptProject → ProjectValue
project_value p = record { settings = config_settings p.config; rules = p.rules; ignored = p.ignored; yaml_files = p.yaml_files }

abbrev pub project_answer : Result KeptProject ConfigFault → Result ProjectValue ConfigFault
project_answer (Ok p) = Ok (project_value p)
project_answer (Err fault) = Err fault

abbrev pub settings_answer : Option Config → Option Settings
settings_answer None = None
settings_answer (Some config) = Some (config_settings config)
