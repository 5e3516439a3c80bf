-- Meaning: by what documents are judged, as the files of their folders say it.
use Rattle.std.specs.Prelude.{◌||◌, Bool, false, List, [], ◌∷◌, drop, Option, Some, None, is_some, unwrap_or}
use Rattle.std.specs.Option.{option_map_or, option_or}
use Rattle.yl_config.specs.declared.config.Config.{Config}
use Rattle.yl_workspace.specs.Changes.{is_granted}
use Rattle.yl_workspace.specs.Documents.{DocumentValue, configured, configured_document}
use Rattle.yl_server.specs.declared.governed.Governed.{Governed}
use Rattle.yl_server.specs.declared.governed.Governed.TheVariants as governed
use Rattle.yl_server.specs.declared.settings.SettingFault.{SettingFault}
use Rattle.yl_server.specs.declared.settings.SettingFault.TheVariants as fault
use Rattle.yl_server.specs.Settings.{refused_by}

-- by what a document is judged from now on, where something is found: a configuration, or none, so that it is ignored
abbrev pub judged : Governed → Option (Option Config)
judged (governed.By config) = Some (Some config)
judged governed.Ignored = Some None
judged _ = None

-- what is wrong with what is found
abbrev pub fault_in : Governed → Option SettingFault
fault_in (governed.Faulty f) = Some (refused_by f)
fault_in governed.Unreadable = Some fault.Unreadable
fault_in governed.NoMemory = Some fault.Memory
fault_in _ = None

-- What is found of documents is a list, in the order in which they are asked for. Past its end all is as it was
abbrev pub first_found : List Governed → Governed
first_found [] = governed.Same
first_found (g ∷ gs) = g

-- ---- a document that is opened

-- it is judged by what the settings name, or by what is found for it, or else by the standard configuration
abbrev pub config_at_first : (standard : Config) → (named : Option Config) → List Governed → Option Config
config_at_first standard None found = unwrap_or (judged (first_found found)) (Some standard)
config_at_first standard (Some c) found = Some c

abbrev pub fault_at_first : (named : Option Config) → List Governed → Option SettingFault
fault_at_first None found = fault_in (first_found found)
fault_at_first (Some c) found = None

-- ---- documents that are open

-- a document stays as it is where nothing is found
abbrev pub governed_document : Governed → Bool → DocumentValue → DocumentValue
governed_document g granted d = option_map_or (λ config. configured_document config granted d) (judged g) d

-- each document, by what is found for it. Memory is asked for once for each
abbrev pub governed_each : List Governed → List Bool → List DocumentValue → List DocumentValue
governed_each found grants [] = []
governed_each found grants (d ∷ ds) = governed_document (first_found found) (is_granted grants) d ∷ governed_each (drop 1 found) (drop 1 grants) ds

-- whether one of them is judged by another
abbrev pub is_changed : List Governed → Bool
is_changed [] = false
is_changed (g ∷ gs) = is_some (judged g) || is_changed gs

-- the first that is wrong
abbrev pub first_fault : List Governed → Option SettingFault
first_fault [] = None
first_fault (g ∷ gs) = option_or (fault_in g) (first_fault gs)

-- ---- where a configuration is set, or none any more

abbrev pub judged_anew : (named : Option Config) → List Governed → List Bool → List DocumentValue → List DocumentValue
judged_anew None found grants ds = governed_each found grants ds
judged_anew (Some c) found grants ds = configured (Some c) grants ds

abbrev pub fault_anew : (named : Option Config) → List Governed → Option SettingFault
fault_anew None found = first_fault found
fault_anew (Some c) found = None
