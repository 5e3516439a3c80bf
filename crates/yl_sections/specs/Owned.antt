-- Bridge: the fault of a section, as the code holds it.
use Rattle.yl_sections.specs.Kept.{SectionFaultValue, Here, Behind}
use Rattle.yl_sections.specs.declared.fault.SectionFault.{SectionFault}
use Rattle.yl_sections.specs.declared.fault.SectionFault.TheVariants as is

abbrev pub section_fault_value : SectionFault → SectionFaultValue
section_fault_value (is.Here place text) = Here place text.now
section_fault_value (is.Behind text) = Behind text.now
