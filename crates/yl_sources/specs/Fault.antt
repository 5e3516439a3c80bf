-- Meaning: the line of a configuration's fault on standard error.
use Rattle.std.specs.Prelude.{ℕ, List, [], ◌++◌, codes, decimal, Option, Some, None}
use Rattle.yl_config.specs.declared.fault.FaultPlace.{FaultPlace}
use Rattle.yl_config.specs.declared.fault.ConfigFault.{ConfigFault}
use Rattle.yl_config.specs.Faults.{fault_name, fault_place}
use Rattle.yl_devices.specs.Fault.{line_with}

-- where a configuration's fault stands, if it has a place
abbrev pub place_words : Option FaultPlace → List ℕ
place_words None = []
place_words (Some p) = codes " at " ++ (decimal p.line ++ (codes ":" ++ decimal p.column))

abbrev pub config_words : ConfigFault → List ℕ
config_words f = codes "configuration: " ++ (fault_name f ++ place_words (fault_place f))

abbrev pub config_line : (program : List ℕ) → ConfigFault → List ℕ
config_line program f = line_with program (config_words f)
