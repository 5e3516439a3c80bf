-- Meaning: the settings in a document of a configuration, or its fault at the first misfit.
use Rattle.std.specs.Prelude.{List, [], ◌++◌, Option, Some, None, Result, Ok, Err}
use Rattle.yl_text.specs.declared.position.Pos.{Pos}
use Rattle.yl_events.specs.Event.{EventValue}
use Rattle.yl_config.specs.declared.fault.ConfigFault.{ConfigFault}
use Rattle.yl_config.specs.declared.misfit.Misfit.{Misfit}
use Rattle.yl_config.specs.declared.misfit.MisfitKind.TheVariants.{NotAMapping}
use Rattle.yl_config.specs.Faults.{fault_of_misfit}
use Rattle.yl_config.specs.Misfits.{at_key, earliest, root_misfits}
use Rattle.yl_settings.specs.Nodes.{ItemValue, first_item, nodes_from}
use Rattle.yl_config.specs.Settings.{Settings, settings_of}

-- the root of a document
abbrev pub root_of : List EventValue → ItemValue
root_of es = first_item (first_item (nodes_from es)).inside

-- a second document begins at this position
abbrev pub next_misfits : Option Pos → List Misfit
next_misfits None = []
next_misfits (Some place) = at_key NotAMapping place

-- the fault at the first misfit, if there is one, else the settings
abbrev pub judgement : Settings → Option Misfit → Result Settings ConfigFault
judgement s None = Ok s
judgement s (Some m) = Err (fault_of_misfit m)

abbrev pub document_judgement : List EventValue → Option Pos → Result Settings ConfigFault
document_judgement es next = judgement (settings_of (root_of es)) (earliest None (root_misfits (root_of es) ++ next_misfits next))
