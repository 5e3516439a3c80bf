-- Bridge: the findings of a rule that is given events one after another, by the events that are
-- still to come.
use Rattle.std.specs.Prelude.{ℕ, ◌≡◌, ◌||◌, Bool, List, [], ◌++◌, map, reverse, Option, Some, None, bytes_eq}
use Rattle.yl_text.specs.Finding.{FindingValue, at_each}
use Rattle.yl_events.specs.Event.{EventValue}
use Rattle.yl_tree.specs.declared.walk.Walk.{Walk}
use Rattle.yl_tree.specs.declared.duplicates.DuplicateFinder.{DuplicateFinder}
use Rattle.yl_tree.specs.declared.ordering.MisplacedFinder.{MisplacedFinder}
use Rattle.yl_tree.specs.declared.anchor_finder.AnchorFinder.{AnchorFinder}
use Rattle.yl_tree.specs.Anchors.{anchors}
use Rattle.yl_tree.specs.Frames.{IsBehind}
use Rattle.yl_tree.specs.Greatest.{is_greater_among}
use Rattle.yl_tree.specs.KeyRules.{duplicate_at, is_greater, misplaced_at}
use Rattle.yl_tree.specs.OtherKeys.{is_other_at}
use Rattle.yl_tree.specs.NameSets.{is_among}
use Rattle.yl_tree.specs.NameStack.{level_at}
use Rattle.yl_tree.specs.References.{reference_value}

-- the walk is after some events, with the findings `found` at these; with the findings at the
-- events es, which are still to come, these are all findings of the rule
pub record FindsByWalk {M A : Type 0} (speaks_against : List ℕ → List ℕ → Bool) (is_against : M → ℕ → List ℕ → Bool)
    (found_at : List EventValue → EventValue → List EventValue → List FindingValue)
    (w : Walk M A) (found : List FindingValue) (es : List EventValue) (all : List FindingValue) : Type 0 where
  pub before : List EventValue
  pub behind : IsBehind speaks_against is_against w before
  pub whole : found ++ at_each found_at before es ≡ all

-- ---- if these events come, these are all findings of the rule in the document

abbrev pub FindsDuplicates : {A : Type 0} → DuplicateFinder A → List EventValue → List FindingValue → Type 0
FindsDuplicates f es all =
    FindsByWalk (λ key q. bytes_eq key q) (λ s n q. is_among (level_at n s.keys) q || is_other_at s.others (reverse s.outer.items) n q)
    (duplicate_at f.options) f.walk f.found.items es all

abbrev pub FindsMisplaced : {A : Type 0} → MisplacedFinder A → List EventValue → List FindingValue → Type 0
FindsMisplaced f es all =
    FindsByWalk is_greater (λ g n q. is_greater_among (level_at n g.keys) q) misplaced_at f.walk f.found.items es all

abbrev pub FindsAnchors : {A : Type 0} → AnchorFinder A → List EventValue → List FindingValue → Type 0
FindsAnchors f es all = anchors f.options (map reference_value f.references.items ++ es) ≡ all

-- a rule that may be off
abbrev pub FindsIf : {F : Type 0} → (F → List EventValue → List FindingValue → Type 0) → Option F
    → List EventValue → List FindingValue → Type 0
FindsIf Finds None es all = all ≡ []
FindsIf Finds (Some f) es all = Finds f es all
