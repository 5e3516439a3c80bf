-- What the rules on keys and anchors find in events of a text's first lines stands in these lines.
use Rattle.std.proofs.Common.{◌<◌, ℕ, ◌+◌, Bool, true, false, List, [], ◌∷◌, Option, Some, None}
use Rattle.std.specs.Prelude.{IfSome, not, ◌&&◌, codes, if◌then◌else◌}
use Rattle.std.specs.List.{AllByRecursion, list_any}
use Rattle.std.specs.Option.{option_map_or}
use Rattle.yl_text.specs.declared.finding.RuleId.{RuleId}
use Rattle.yl_text.specs.declared.finding.RuleId.TheVariants.{Anchors, KeyDuplicates, KeyOrdering}
use Rattle.yl_text.specs.declared.position.Pos.{Pos}
use Rattle.yl_text.specs.Finding.{FindingValue, at_each}
use Rattle.yl_text.proofs.Every.{all_both, all_if}
use Rattle.yl_events.specs.Event.{EventValue, EventAnchorValue, EventKindValue, DocumentStart, DocumentEnd, SequenceStart, SequenceEnd, MappingStart, MappingEnd, AliasOf, ScalarOf, Empty}
use Rattle.yl_tree.specs.declared.options.AnchorsOptions.{AnchorsOptions}
use Rattle.yl_tree.specs.declared.options.KeyDuplicatesOptions.{KeyDuplicatesOptions}
use Rattle.yl_tree.specs.declared.options.TreeOptions.{TreeOptions}
use Rattle.yl_tree.specs.Anchors.{anchor_findings, anchors, anchors_at, is_declared, is_used, undeclared_alias}
use Rattle.yl_tree.specs.KeyRules.{duplicate_at, is_duplicate, is_greater, key_duplicates, key_finding, key_ordering, misplaced_at}
use Rattle.yl_tree.specs.Keys.{earlier_keys, name_of}
use Rattle.yl_tree.specs.Messages.{name_finding}
use Rattle.yl_tree.specs.Tree.{tree_findings}

-- its content and its anchor, where it has them, begin in the first lines
pub record Begins (rows : ℕ) (e : EventValue) : Type 0 where
  pub place : IfSome e.place (λ p. p.line < rows)
  pub anchor : IfSome e.anchor (λ a. a.place.line < rows)

-- something holds of the rules on events
pub record OfEventRules (K : RuleId → Type 0) : Type 0 where
  pub anchors : K Anchors
  pub key_duplicates : K KeyDuplicates
  pub key_ordering : K KeyOrdering

-- what holds of each problem that such a rule finds in these lines
module _ (K : RuleId → Type 0) (k : OfEventRules K) (rows : ℕ) (P : FindingValue → Type 0)
    (own : (rule : RuleId) (line column : ℕ) (text : List ℕ) → K rule → line < rows → P (record { line = line + 1; column = column; rule = rule; message = text })) where
  abbrev Every : List FindingValue → Type 0
  Every fs = AllByRecursion P fs

  named : (rule : RuleId) (place : Option Pos) (front name back : List ℕ) → K rule → IfSome place (λ p. p.line < rows) → Every (name_finding rule place front name back)
  named rule None front name back r h = tt
  named rule (Some place) front name back r h = (own rule place.line (place.col + 1) _ r h, tt)

  -- at each event, if that holds at one
  each : (f : List EventValue → EventValue → List EventValue → List FindingValue) → ((before : List EventValue) (e : EventValue) (after : List EventValue) → Begins rows e → Every (f before e after))
      → (before es : List EventValue) → AllByRecursion (Begins rows) es → Every (at_each f before es)
  each f at before [] h = tt
  each f at before (e ∷ es) h = all_both P _ _ (at before e es h.0) (each f at (e ∷ before) es h.1)

  -- ---- keys

  own_key : (test : List (List ℕ) → List ℕ → Bool) (rule : RuleId) (front : List ℕ) (before : List EventValue) (e : EventValue) (name : Option (List ℕ))
      → K rule → Begins rows e → Every (key_finding test rule front before e name)
  own_key test rule front before e None r h = tt
  own_key test rule front before e (Some name) r h = all_if P (test (earlier_keys before) name) _ (named rule e.place _ _ _ r h.place)

  own_duplicates : (o : Option KeyDuplicatesOptions) (es : List EventValue) → AllByRecursion (Begins rows) es → Every (option_map_or (λ d. key_duplicates d es) o [])
  own_duplicates None es h = tt
  own_duplicates (Some o) es h = each (duplicate_at o) (λ before e after b. own_key (is_duplicate o) KeyDuplicates (codes "duplication of key \"") before e (name_of e) k.key_duplicates b) [] es h

  own_ordering : (on : Bool) (es : List EventValue) → AllByRecursion (Begins rows) es → Every (if on then key_ordering es else [])
  own_ordering false es h = tt
  own_ordering true es h = each misplaced_at (λ before e after b. own_key (λ earlier name. list_any (λ key. is_greater key name) earlier) KeyOrdering (codes "wrong ordering of key \"") before e (name_of e) k.key_ordering b) [] es h

  -- ---- anchors

  own_undeclared : (o : AnchorsOptions) (before : List EventValue) (e : EventValue) (kind : EventKindValue) → Begins rows e → Every (undeclared_alias o before e kind)
  own_undeclared o before e DocumentStart h = tt
  own_undeclared o before e DocumentEnd h = tt
  own_undeclared o before e SequenceStart h = tt
  own_undeclared o before e SequenceEnd h = tt
  own_undeclared o before e MappingStart h = tt
  own_undeclared o before e MappingEnd h = tt
  own_undeclared o before e (AliasOf name) h = all_if P (o.forbid_undeclared_aliases && not (is_declared before name)) _ (named Anchors e.place _ _ _ k.anchors h.place)
  own_undeclared o before e (ScalarOf style value) h = tt
  own_undeclared o before e Empty h = tt

  own_anchor : (o : AnchorsOptions) (before : List EventValue) (anchor : Option EventAnchorValue) (after : List EventValue)
      → IfSome anchor (λ a. a.place.line < rows) → Every (anchor_findings o before anchor after)
  own_anchor o before None after h = tt
  own_anchor o before (Some anchor) after h =
      all_both P _ _ (all_if P (o.forbid_duplicated_anchors && is_declared before anchor.name) _ (named Anchors (Some anchor.place) (codes "found duplicated anchor \"") anchor.name (codes "\"") k.anchors h))
      (all_if P (o.forbid_unused_anchors && not (is_used after anchor.name)) _ (named Anchors (Some anchor.place) (codes "found unused anchor \"") anchor.name (codes "\"") k.anchors h))

  own_anchors : (o : Option AnchorsOptions) (es : List EventValue) → AllByRecursion (Begins rows) es → Every (option_map_or (λ a. anchors a es) o [])
  own_anchors None es h = tt
  own_anchors (Some o) es h =
      each (anchors_at o) (λ before e after b. all_both P _ _ (own_undeclared o before e e.kind b) (own_anchor o before e.anchor after b.anchor)) [] es h

  pub own_events : (o : TreeOptions) (es : List EventValue) → AllByRecursion (Begins rows) es → AllByRecursion P (tree_findings o es)
  own_events o es h = all_both P _ _ (own_duplicates o.key_duplicates es h) (all_both P _ _ (own_ordering o.key_ordering es h) (own_anchors o.anchors es h))
