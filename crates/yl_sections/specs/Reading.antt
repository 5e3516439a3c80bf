-- Bridge: the document of a section that is read line by line.
use Rattle.std.specs.Prelude.{◌≡◌, ℕ, List, [], map, Option, Some, None}
use Rattle.yl_text.specs.Finding.{FindingValue}
use Rattle.yl_lexeme.specs.Lexeme.{LexemeValue}
use Rattle.yl_events.specs.declared.fault.PlacedParseFault.{PlacedParseFault}
use Rattle.yl_events.specs.DocumentOutcome.{DocumentOutcome, Events, Fails}
use Rattle.yl_events.specs.Event.{event_of_outline}
use Rattle.yl_tree.specs.declared.tree_rules.TreeRules.{TreeRules}
use Rattle.yl_tree.specs.TreeRules.{Finds}
use Rattle.yl_config.specs.declared.config.Config.{Config}
use Rattle.yl_sections.specs.Kept.{BuiltValue, event_findings}

-- ---- while the document is read

abbrev pub fault_told : DocumentOutcome → Option PlacedParseFault
fault_told (Events es) = None
fault_told (Fails f) = Some f

-- if the rules on keys and anchors are given the remaining events of the document of these lexemes,
-- these are all their findings; with a fault, nothing is said of them
abbrev pub FindsAll : {A : Type 0} → TreeRules A → List LexemeValue → DocumentOutcome → List FindingValue → Type 0
FindsAll t xs (Events es) all = Finds t (map (event_of_outline xs) es) all
FindsAll t xs (Fails f) all = Unit {0}

-- a part of the document was read: the remaining outcome has the same fault, and the rules the same
-- findings; or the document has this fault
abbrev pub ReadsOn : {A : Type 0} → Option PlacedParseFault → List LexemeValue → TreeRules A → DocumentOutcome → TreeRules A → DocumentOutcome → Type 0
ReadsOn None xs t before u after = (fault_told before ≡ fault_told after) × ((all : List FindingValue) → FindsAll t xs before all → FindsAll u xs after all)
ReadsOn (Some f) xs t before u after = before ≡ Fails f

-- the remaining outcome of the document of these lexemes has the fault of b, and the rules, given
-- its events, have the findings in the events of b
pub record Gives {A : Type 0} (config : Config) (xs : List LexemeValue) (t : TreeRules A) (o : DocumentOutcome) (b : BuiltValue) : Type 0 where
  pub fault : fault_told o ≡ b.fault
  pub found : FindsAll t xs o (event_findings config b.events)

-- with a fault there are no events
abbrev pub IsQuiet : BuiltValue → Type 0
IsQuiet b = (f : PlacedParseFault) → b.fault ≡ Some f → b.events ≡ []

-- the document ends: without a fault, and its rules have all their findings; or with this fault
abbrev pub Ends : {A : Type 0} → Option PlacedParseFault → List LexemeValue → TreeRules A → DocumentOutcome → TreeRules A → Type 0
Ends None xs t o u = (fault_told o ≡ None) × ((all : List FindingValue) → FindsAll t xs o all → Finds u [] all)
Ends (Some f) xs t o u = o ≡ Fails f

-- the number of lexemes that are judged, in a document that may have a fault; `end` is the number
-- up to the end of the line
abbrev pub counted_in : Option PlacedParseFault → ℕ → ℕ
counted_in None end = end
counted_in (Some f) end = f.place
