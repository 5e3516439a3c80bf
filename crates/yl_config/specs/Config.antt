-- Meaning: what a configuration says: the level of each rule, or none if it is off, and the options
-- of the rules.
use Rattle.yl_rules.specs.declared.options.RowOptions.{RowOptions}
use Rattle.yl_rules.specs.Levels.{LevelTable}
use Rattle.yl_rules.specs.LevelOf.{level_of}
use Rattle.yl_settings.specs.declared.options.RuleOptions.{RuleOptions}
use Rattle.yl_config.specs.declared.config.Config.{Config}
use Rattle.yl_config.specs.Settings.{Settings}

abbrev pub levels_of : Config → LevelTable
levels_of config = level_of config.levels

abbrev pub options_of : Config → RuleOptions
options_of config = config.options

abbrev pub row_options_of : Config → RowOptions
row_options_of config = config.options.row

-- the settings of a configuration
abbrev pub config_settings : Config → Settings
config_settings config = record { levels = levels_of config; options = options_of config }
