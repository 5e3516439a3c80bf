-- Bridge: the configuration that settings name.
use Rattle.std.specs.Prelude.{◌≡◌, ◌||◌, true, false, Option, Some, None, is_some}
use Rattle.yl_lsp.specs.Params.{SettingsValue}
use Rattle.yl_server.specs.declared.settings.Found.{Found}
use Rattle.yl_server.specs.Bodies.{IsFound}

-- they name none, or the one that they name was found to be this
abbrev pub IsNamed : SettingsValue → Option Found → Type 0
IsNamed v None = (is_some v.config || is_some v.config_file) ≡ false
IsNamed v (Some found) = ((is_some v.config || is_some v.config_file) ≡ true) × IsFound v.config found
