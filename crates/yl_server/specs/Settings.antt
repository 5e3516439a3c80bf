-- Meaning: what the settings of an editor set.
use Rattle.std.specs.Prelude.{ℕ, ◌||◌, if◌then◌else◌, List, ◌++◌, codes, Option, Some, None, is_some, option_and_then, Ok, Err}
use Rattle.std.specs.Option.{option_map_or}
use Rattle.json.specs.Json.{Json}
use Rattle.yl_config.specs.declared.fault.ConfigFault.{ConfigFault}
use Rattle.yl_config.specs.declared.fault.ConfigFault.TheVariants.{Memory}
use Rattle.yl_config.specs.declared.fault.FaultPlace.{FaultPlace}
use Rattle.yl_config.specs.Faults.{fault_name, fault_place}
use Rattle.yl_lsp.specs.Messages.{placed_words}
use Rattle.yl_lsp.specs.Params.{SettingsValue, settings_in}
use Rattle.yl_server.specs.declared.settings.Found.{Found}
use Rattle.yl_server.specs.declared.settings.Found.TheVariants as found
use Rattle.yl_server.specs.declared.settings.Setting.{Setting}
use Rattle.yl_server.specs.declared.settings.Setting.TheVariants.{Set, Faulty}
use Rattle.yl_server.specs.declared.settings.SettingFault.{SettingFault}
use Rattle.yl_server.specs.declared.settings.SettingFault.TheVariants as fault

-- why a configuration is refused
abbrev pub refused_by : ConfigFault → SettingFault
refused_by Memory = fault.Memory
refused_by f = fault.Refused f

-- what is set where a configuration was found to be this
abbrev pub setting_found : Found → (most : Option ℕ) → Setting
setting_found (found.Said (Ok config)) most = Set (Some config) most
setting_found (found.Said (Err f)) most = Faulty (refused_by f)
setting_found found.Unreadable most = Faulty fault.Unreadable
setting_found found.NoMemory most = Faulty fault.Memory

-- a configuration is named by its text, or by its file
abbrev pub setting_said : Found → SettingsValue → Setting
setting_said f v = if is_some v.config || is_some v.config_file then setting_found f v.most else Set None v.most

-- what settings set. Those that are not there set nothing
abbrev pub setting_of : Found → Option Json → Setting
setting_of f None = Set None None
setting_of f (Some j) = option_map_or (setting_said f) (settings_in j) (Faulty fault.Shape)

-- the file of a configuration that settings name. A text comes before a file
abbrev pub file_said : SettingsValue → Option (List ℕ)
file_said v = if is_some v.config then None else v.config_file

abbrev pub file_named : Option Json → Option (List ℕ)
file_named settings = option_and_then file_said (option_and_then settings_in settings)

-- what is wrong with settings, or with what files say
abbrev pub fault_words : SettingFault → List ℕ
fault_words fault.Shape = codes "a setting is of another type than it has"
fault_words fault.Unreadable = codes "the file of the configuration cannot be read"
fault_words fault.Memory = codes "out of memory"
fault_words (fault.Refused f) = codes "the configuration is refused: " ++ fault_name f

-- and where, in the text of the configuration
abbrev pub place_of : SettingFault → Option FaultPlace
place_of (fault.Refused f) = fault_place f
place_of _ = None

abbrev pub words_at : (words : List ℕ) → Option FaultPlace → List ℕ
words_at words None = words
words_at words (Some p) = placed_words words p.line p.column

-- what the user is told
abbrev pub setting_words : SettingFault → List ℕ
setting_words f = words_at (fault_words f) (place_of f)
