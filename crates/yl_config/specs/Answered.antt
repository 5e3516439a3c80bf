-- Meaning: the result of reading a configuration, with the configuration as settings.
use Rattle.std.specs.Prelude.{Result, Ok, Err}
use Rattle.yl_config.specs.declared.config.Config.{Config}
use Rattle.yl_config.specs.declared.fault.ConfigFault.{ConfigFault}
use Rattle.yl_config.specs.Config.{config_settings}
use Rattle.yl_config.specs.Settings.{Settings}

abbrev pub settings_answer : Result Config ConfigFault → Result Settings ConfigFault
settings_answer (Ok config) = Ok (config_settings config)
settings_answer (Err fault) = Err fault
