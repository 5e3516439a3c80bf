-- Meaning: the findings of yamllint's rule anchors in the events of a document.
use Rattle.std.specs.Prelude.{ℕ, Bool, true, false, not, ◌&&◌, ◌||◌, if◌then◌else◌, List, [], ◌∷◌, ◌++◌, codes, Option, Some, None, bytes_eq}
use Rattle.std.specs.List.{list_any}
use Rattle.std.specs.Option.{option_map_or}
use Rattle.yl_text.specs.declared.finding.RuleId.TheVariants.{Anchors}
use Rattle.yl_text.specs.Finding.{FindingValue, at_each}
use Rattle.yl_events.specs.Event.{EventValue, EventAnchorValue, EventKindValue, AliasOf}
use Rattle.yl_tree.specs.declared.options.AnchorsOptions.{AnchorsOptions}
use Rattle.yl_tree.specs.Messages.{name_finding}

-- there is an anchor, and it has this name
abbrev pub is_anchor_of : List ℕ → Option EventAnchorValue → Bool
is_anchor_of name anchor = option_map_or (λ a. bytes_eq a.name name) anchor false

abbrev pub is_alias_event : EventKindValue → Bool
is_alias_event (AliasOf name) = true
is_alias_event _ = false

abbrev pub is_alias_of : List ℕ → EventKindValue → Bool
is_alias_of name (AliasOf alias) = bytes_eq alias name
is_alias_of name _ = false

-- one of these events has an anchor of this name
abbrev pub is_declared : List EventValue → List ℕ → Bool
is_declared before name = list_any (λ e. is_anchor_of name e.anchor) before

-- an alias of this name comes before the next anchor of this name, or before the end
abbrev pub is_used : List EventValue → List ℕ → Bool
is_used [] name = false
is_used (e ∷ es) name =
    not (is_anchor_of name e.anchor) && (is_alias_of name e.kind || is_used es name)

abbrev pub undeclared_alias : AnchorsOptions → List EventValue → EventValue → EventKindValue → List FindingValue
undeclared_alias o before e (AliasOf name) =
    if o.forbid_undeclared_aliases && not (is_declared before name)
    then name_finding Anchors e.place (codes "found undeclared alias \"") name (codes "\"") else []
undeclared_alias o before e _ = []

abbrev pub anchor_findings :
    AnchorsOptions → List EventValue → Option EventAnchorValue → List EventValue → List FindingValue
anchor_findings o before None after = []
anchor_findings o before (Some a) after =
    (if o.forbid_duplicated_anchors && is_declared before a.name
    then name_finding Anchors (Some a.place) (codes "found duplicated anchor \"") a.name (codes "\"") else [])
    ++ (if o.forbid_unused_anchors && not (is_used after a.name)
    then name_finding Anchors (Some a.place) (codes "found unused anchor \"") a.name (codes "\"") else [])

abbrev pub anchors_at : AnchorsOptions → List EventValue → EventValue → List EventValue → List FindingValue
anchors_at o before e after = undeclared_alias o before e e.kind ++ anchor_findings o before e.anchor after

abbrev pub anchors : AnchorsOptions → List EventValue → List FindingValue
anchors o events = at_each (anchors_at o) [] events
