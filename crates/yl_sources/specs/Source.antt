-- Meaning: the configuration that is asked for.
use Rattle.std.specs.Prelude.{◌≡◌, ℕ, List, Option, IfSome, Result, Ok, Err, string_bytes}
use Rattle.yl_config.specs.declared.config.Config.{Config}
use Rattle.yl_config.specs.declared.fault.ConfigFault.{ConfigFault}
use Rattle.yl_config.specs.Answered.{settings_answer}
use Rattle.yl_config.specs.Config.{config_settings}
use Rattle.yl_config.specs.Outcome.{IsConfigOf}
use Rattle.yl_config.specs.Settings.{standard}
use Rattle.yl_devices.specs.Text.{without_mark}
use Rattle.yl_programs.specs.declared.answer.Source.{Source}
use Rattle.yl_programs.specs.declared.answer.Source.TheVariants.{Standard, File, Data}

-- this is what the bytes say that were given, where they are known, less one leading byte-order mark
abbrev pub IsConfigRead : Option (List ℕ) → Result Config ConfigFault → Type 0
IsConfigRead given answer = IfSome given (λ bytes. IsConfigOf (without_mark bytes) (settings_answer answer))

-- the default configuration, or what a text says; there is an exit status only where a text has a fault. Nothing is said of a file, whose bytes
-- no definition knows
abbrev pub IsSourceAnswer : Source → Result Config ℕ → Type 0
IsSourceAnswer Standard (Ok config) = config_settings config ≡ standard
IsSourceAnswer Standard (Err status) = ⊥
IsSourceAnswer (Data text) (Ok config) = IsConfigOf (string_bytes text) (Ok (config_settings config))
IsSourceAnswer (Data text) (Err status) = (fault : ConfigFault) × IsConfigOf (string_bytes text) (Err fault)
IsSourceAnswer (File name) answer = Unit {0}
