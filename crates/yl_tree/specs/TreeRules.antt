-- Bridge: the findings of the rules that are given events one after another, by the events that are
-- still to come.
use Rattle.std.specs.Prelude.{◌≡◌, List, ◌++◌}
use Rattle.yl_text.specs.Finding.{FindingValue}
use Rattle.yl_events.specs.Event.{EventValue}
use Rattle.yl_tree.specs.declared.tree_rules.TreeRules.{TreeRules}
use Rattle.yl_tree.specs.Finders.{FindsAnchors, FindsDuplicates, FindsIf, FindsMisplaced}

-- if these events come, these are all findings of the rules in the document
pub record Finds {A : Type 0} (t : TreeRules A) (es : List EventValue) (all : List FindingValue) : Type 0 where
  pub duplicates : List FindingValue
  pub misplaced : List FindingValue
  pub of_anchors : List FindingValue
  pub by_duplicates : FindsIf FindsDuplicates t.key_duplicates es duplicates
  pub by_ordering : FindsIf FindsMisplaced t.key_ordering es misplaced
  pub by_anchors : FindsIf FindsAnchors t.anchors es of_anchors
  pub whole : duplicates ++ (misplaced ++ of_anchors) ≡ all
