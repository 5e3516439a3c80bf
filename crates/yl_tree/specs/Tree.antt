-- Meaning: the findings of yamllint's rules on keys and anchors in the events of a document.
use Rattle.std.specs.Prelude.{List, [], ◌++◌, if◌then◌else◌}
use Rattle.std.specs.Option.{option_map_or}
use Rattle.yl_text.specs.Finding.{FindingValue}
use Rattle.yl_events.specs.Event.{EventValue}
use Rattle.yl_tree.specs.declared.options.TreeOptions.{TreeOptions}
use Rattle.yl_tree.specs.Anchors.{anchors}
use Rattle.yl_tree.specs.KeyRules.{key_duplicates, key_ordering}

-- rule by rule, each in the order of the events; a rule that is off finds nothing
abbrev pub tree_findings : TreeOptions → List EventValue → List FindingValue
tree_findings o es =
    option_map_or (λ d. key_duplicates d es) o.key_duplicates []
    ++ ((if o.key_ordering then key_ordering es else []) ++ option_map_or (λ a. anchors a es) o.anchors [])
