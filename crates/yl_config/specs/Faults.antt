-- Meaning: the faults of a configuration.
use Rattle.std.specs.Prelude.{ℕ, ◌+◌, List, Option, Some, None, codes}
use Rattle.yl_text.specs.declared.position.Pos.{Pos}
use Rattle.yl_config.specs.declared.fault.FaultPlace.{FaultPlace}
use Rattle.yl_config.specs.declared.fault.ConfigFault.{ConfigFault}
use Rattle.yl_config.specs.declared.fault.ConfigFault.TheVariants as fault
use Rattle.yl_config.specs.declared.misfit.Misfit.{Misfit}
use Rattle.yl_config.specs.declared.misfit.MisfitKind.{MisfitKind}
use Rattle.yl_config.specs.declared.misfit.MisfitKind.TheVariants.{NotAMapping, UnknownKey, UnknownRule, UnknownOption, BadValue, BadLevel, UnknownExtends}

abbrev pub place_from_one : Pos → FaultPlace
place_from_one p = record { line = p.line + 1; column = p.col + 1 }

abbrev pub fault_name : ConfigFault → List ℕ
fault_name fault.NotUtf8 = codes "NotUtf8"
fault_name (fault.Syntax p) = codes "Syntax"
fault_name (fault.NotAMapping p) = codes "NotAMapping"
fault_name (fault.UnknownKey p) = codes "UnknownKey"
fault_name (fault.UnknownRule p) = codes "UnknownRule"
fault_name (fault.UnknownOption p) = codes "UnknownOption"
fault_name (fault.BadValue p) = codes "BadValue"
fault_name (fault.BadLevel p) = codes "BadLevel"
fault_name (fault.UnknownExtends p) = codes "UnknownExtends"
fault_name fault.Memory = codes "Memory"
fault_name fault.TooLarge = codes "TooLarge"

abbrev pub fault_place : ConfigFault → Option FaultPlace
fault_place fault.NotUtf8 = None
fault_place (fault.Syntax p) = Some p
fault_place (fault.NotAMapping p) = Some p
fault_place (fault.UnknownKey p) = Some p
fault_place (fault.UnknownRule p) = Some p
fault_place (fault.UnknownOption p) = Some p
fault_place (fault.BadValue p) = Some p
fault_place (fault.BadLevel p) = Some p
fault_place (fault.UnknownExtends p) = Some p
fault_place fault.Memory = None
fault_place fault.TooLarge = None

abbrev pub fault_by : MisfitKind → FaultPlace → ConfigFault
fault_by NotAMapping p = fault.NotAMapping p
fault_by UnknownKey p = fault.UnknownKey p
fault_by UnknownRule p = fault.UnknownRule p
fault_by UnknownOption p = fault.UnknownOption p
fault_by BadValue p = fault.BadValue p
fault_by BadLevel p = fault.BadLevel p
fault_by UnknownExtends p = fault.UnknownExtends p

-- the fault for a misfit
abbrev pub fault_of_misfit : Misfit → ConfigFault
fault_of_misfit m = fault_by m.kind (place_from_one m.place)
