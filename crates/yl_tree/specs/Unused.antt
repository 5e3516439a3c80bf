-- Bridge: for each event of a document, whether it has an anchor that no alias refers to.
use Rattle.std.specs.Prelude.{Bool, false, not, if◌then◌else◌, List, [], ◌∷◌, codes, Option, Some, None}
use Rattle.yl_text.specs.declared.finding.RuleId.TheVariants.{Anchors}
use Rattle.yl_text.specs.Finding.{FindingValue}
use Rattle.yl_events.specs.Event.{EventValue, EventAnchorValue}
use Rattle.yl_tree.specs.Messages.{name_finding}
use Rattle.yl_tree.specs.Anchors.{is_used}

abbrev pub is_unused : Option EventAnchorValue → List EventValue → Bool
is_unused None after = false
is_unused (Some anchor) after = not (is_used after anchor.name)

abbrev pub unused_flags : List EventValue → List Bool
unused_flags [] = []
unused_flags (e ∷ es) = is_unused e.anchor es ∷ unused_flags es

abbrev pub unused_if : Bool → EventAnchorValue → List FindingValue
unused_if is_told anchor =
    if is_told
    then name_finding Anchors (Some anchor.place) (codes "found unused anchor \"") anchor.name (codes "\"")
    else []
