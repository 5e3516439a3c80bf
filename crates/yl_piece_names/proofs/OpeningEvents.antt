-- Events that open the collections that goals say, and what the rules on keys and anchors find behind them.
use Rattle.std.specs.Prelude.{if◌then◌else◌, is_some, reverse}
use Rattle.std.specs.Option.{option_map_or}
use Rattle.std.proofs.Common.{◌≡◌, ℕ, List, [], ◌∷◌, ◌++◌, map, length, drop, drop-cons, add-one, get_or, ◌+◌, ◌<◌, Bool, true, false, ◌||◌, refl, sym, ◌∙◌, ap, codes, append_assoc, Option, Some, None}
use Rattle.std.specs.List.{flat_map, list_any}
use Rattle.std.proofs.lemmas.Bool.{or_parts}
use Rattle.std.proofs.lemmas.List.{reverse-append}
use Rattle.std.proofs.lemmas.List.Folds.{list_any-append}
use Rattle.yl_text.specs.declared.finding.RuleId.{RuleId}
use Rattle.yl_text.specs.declared.finding.RuleId.TheVariants.{KeyDuplicates, KeyOrdering}
use Rattle.yl_text.specs.Finding.{FindingValue, at_each}
use Rattle.yl_events.specs.declared.symbol.BracketKind.TheVariants.{Square, Curly}
use Rattle.yl_events.specs.declared.symbol.Goal.{Goal}
use Rattle.yl_events.specs.declared.symbol.Goal.TheVariants.{Prefix, Directives, Ending, Formed, Entries, Indentless, Pairs, ValueOf, Colon, Items, ItemEnd, PairEnd, NodeEnd}
use Rattle.yl_events.specs.Event.{EventAnchorValue, EventKindValue, EventValue, AliasOf}
use Rattle.yl_tree.specs.declared.options.AnchorsOptions.{AnchorsOptions}
use Rattle.yl_tree.specs.declared.options.KeyDuplicatesOptions.{KeyDuplicatesOptions}
use Rattle.yl_tree.specs.declared.options.TreeOptions.{TreeOptions}
use Rattle.yl_tree.specs.Anchors.{anchor_findings, anchors, anchors_at, is_alias_event, undeclared_alias}
use Rattle.yl_tree.specs.Greatest.{is_greater_among}
use Rattle.yl_tree.specs.KeyRules.{is_duplicate, key_duplicates, key_ordering}
use Rattle.yl_tree.specs.OpenNodes.{OpenCollection, OpenNodes, collections_behind, new_collection, with_node}
use Rattle.yl_tree.specs.References.{is_reference}
use Rattle.yl_tree.specs.Tree.{tree_findings}
use Rattle.yl_open_collections.specs.Counted.{after_events, key_findings_after, what_counts, what_counts_of}
use Rattle.yl_open_collections.specs.OpenBy.{one_node_earlier}
use Rattle.yl_open_collections.specs.OpenBy.{open_by}
use Rattle.yl_open_collections.specs.OpenBy.{with_goal}
use Rattle.yl_open_collections.proofs.Counted.{collection, mappings_count}
use Rattle.yl_pieces.specs.DuplicatesOfRuns.{duplicates_after}
use Rattle.yl_pieces.specs.OrderingOfRuns.{ordering_after}
use Rattle.yl_pieces.proofs.KeyFindings.{after_both, all_found, both}
use Rattle.yl_piece_names.specs.declared.opening.Opening.{Opening}
use Rattle.yl_piece_names.specs.declared.opening.Opening.TheVariants.{Collection, Node, Nothing}
use Rattle.yl_piece_names.specs.AnchorsPatched.{anchors_between}
use Rattle.yl_piece_names.specs.OpeningEvents.{GoalsOpen, events_of, opened_by, opened_from, opening_events, opening_of, with_opening}
use Rattle.yl_piece_names.specs.TreePatched.{tree_findings_after}
use Rattle.yl_piece_names.proofs.KindsAndTurns.{counts_once}

-- ---- what a goal says

pub goal_opens : (g : Goal) (s : OpenNodes) → with_opening (opening_of g) s ≡ with_goal g s
goal_opens Prefix s = refl
goal_opens Directives s = refl
goal_opens Ending s = refl
goal_opens (Formed w ps) s = refl
goal_opens Entries s = refl
goal_opens Indentless s = refl
goal_opens Pairs s = refl
goal_opens (ValueOf w) s = refl
goal_opens Colon s = refl
goal_opens (Items b) s = refl
goal_opens (ItemEnd b) s = refl
goal_opens (PairEnd Square) s = refl
goal_opens (PairEnd Curly) s = refl
goal_opens (NodeEnd Square) s = refl
goal_opens (NodeEnd Curly) s = refl

-- ---- the events of a goal

earlier_of : (m n : Bool) (ks : List (List ℕ)) → what_counts_of (with_node None (collection m n ks)) ≡ one_node_earlier (what_counts_of (collection m n ks))
earlier_of true true ks = refl
earlier_of true false ks = refl
earlier_of false n ks = refl

again_of : (m n : Bool) (ks : List (List ℕ)) → what_counts_of (with_node None (with_node None (collection m n ks))) ≡ what_counts_of (collection m n ks)
again_of true true ks = refl
again_of true false ks = refl
again_of false n ks = refl

opened_so : (o : Opening) (s : OpenNodes) → what_counts (after_events s (events_of o)) ≡ with_opening o (what_counts s)
opened_so (Collection true) s = λ i. record {
  innermost = new_collection true;
  outer = again_of s.innermost.is_mapping s.innermost.is_key_next s.innermost.keys i ∷ map what_counts_of s.outer;
}
opened_so (Collection false) s = λ i. record {
  innermost = new_collection false;
  outer = again_of s.innermost.is_mapping s.innermost.is_key_next s.innermost.keys i ∷ map what_counts_of s.outer;
}
opened_so Node s = λ i. record { innermost = earlier_of s.innermost.is_mapping s.innermost.is_key_next s.innermost.keys i; outer = map what_counts_of s.outer }
opened_so Nothing s = refl

none_of : (o : Opening) → list_any is_reference (events_of o) ≡ false
none_of (Collection true) = refl
none_of (Collection false) = refl
none_of Node = refl
none_of Nothing = refl

module _ (test : List (List ℕ) → List ℕ → Bool) (rule : RuleId) (words : List ℕ) where
  quiet_of : (o : Opening) (s : OpenNodes) → key_findings_after test rule words s (events_of o) ≡ []
  quiet_of (Collection true) s = refl
  quiet_of (Collection false) s = refl
  quiet_of Node s = refl
  quiet_of Nothing s = refl

  all_quiet : (os : List Opening) (s : OpenNodes) → key_findings_after test rule words s (opening_events os) ≡ []
  all_quiet [] s = refl
  all_quiet (o ∷ os) s =
      both test rule words s (events_of o) (opening_events os)
      ∙ (λ i. quiet_of o s i ++ all_quiet os (after_events s (events_of o)) i)

-- ---- the events of all goals

from_both : (s : OpenNodes) (os ps : List Opening) → opened_from s (os ++ ps) ≡ opened_from (opened_from s os) ps
from_both s [] ps = refl
from_both s (o ∷ os) ps = from_both (with_opening o s) os ps

pub goals_open : GoalsOpen
goals_open [] = refl
goals_open (g ∷ goals) =
    ap opened_by (reverse-append (opening_of g ∷ []) (map opening_of goals))
    ∙ from_both (collections_behind []) (reverse (map opening_of goals)) (opening_of g ∷ [])
    ∙ ap (with_opening (opening_of g)) (goals_open goals)
    ∙ goal_opens g (open_by goals)

abbrev behind : List Opening → OpenNodes
behind os = after_events (collections_behind []) (opening_events os)

all_from : (s : OpenNodes) (os : List Opening) → what_counts (after_events s (opening_events os)) ≡ opened_from (what_counts s) os
all_from s [] = refl
all_from s (o ∷ os) =
    ap what_counts (after_both s (events_of o) (opening_events os))
    ∙ all_from (after_events s (events_of o)) os
    ∙ ap (λ t. opened_from t os) (opened_so o s)

opened_all : (os : List Opening) → what_counts (behind os) ≡ opened_by os
opened_all os = all_from (collections_behind []) os

-- what counts of the collections behind these events is what counts of those that are open
same_count : (os : List Opening) → what_counts (behind os) ≡ what_counts (opened_by os)
same_count os = sym (counts_once (behind os)) ∙ ap what_counts (opened_all os)

none_in : (os : List Opening) → list_any is_reference (opening_events os) ≡ false
none_in [] = refl
none_in (o ∷ os) =
    list_any-append is_reference (events_of o) (opening_events os)
    ∙ (λ i. none_of o i || none_in os i)

-- ---- what is found behind them

module _ (test : List (List ℕ) → List ℕ → Bool) (rule : RuleId) (words : List ℕ) (os : List Opening) (es : List EventValue) where
  found_behind : key_findings_after test rule words (collections_behind []) (opening_events os ++ es) ≡ key_findings_after test rule words (opened_by os) es
  found_behind =
      both test rule words (collections_behind []) (opening_events os) es
      ∙ ap (λ fs. fs ++ key_findings_after test rule words (behind os) es) (all_quiet test rule words os (collections_behind []))
      ∙ mappings_count.same_found test rule words (behind os) (opened_by os) es (same_count os)

module _ (a : AnchorsOptions) where
  no_alias : (before : List EventValue) (e : EventValue) (k : EventKindValue) → is_alias_event k ≡ false → undeclared_alias a before e k ≡ []
  no_alias before e (AliasOf name) h = cc
  no_alias before e k h = refl

  no_anchor : (before after : List EventValue) (x : Option EventAnchorValue) → is_some x ≡ false → anchor_findings a before x after ≡ []
  no_anchor before after None h = refl
  no_anchor before after (Some x) h = cc

  nothing_at : (before es : List EventValue) → list_any is_reference es ≡ false → at_each (anchors_at a) before es ≡ []
  nothing_at before [] h = refl
  nothing_at before (e ∷ es) h =
      let parts = or_parts (is_reference e) (list_any is_reference es) h in
      let own = or_parts (is_some e.anchor) (is_alias_event e.kind) parts.0 in
      λ i. (no_alias before e e.kind own.1 i ++ no_anchor before es e.anchor own.0 i) ++ nothing_at (e ∷ before) es parts.1 i

module _ (os : List Opening) (es : List EventValue) (none : list_any is_reference es ≡ false) where
  none_at_all : list_any is_reference (opening_events os ++ es) ≡ false
  none_at_all = list_any-append is_reference (opening_events os) es ∙ (λ i. none_in os i || none i)

  duplicates_if : (d : Option KeyDuplicatesOptions) → option_map_or (λ d. key_duplicates d (opening_events os ++ es)) d [] ≡ option_map_or (λ d. duplicates_after d (opened_by os) es) d []
  duplicates_if None = refl
  duplicates_if (Some d) =
      all_found (is_duplicate d) KeyDuplicates (codes "duplication of key \"") [] (opening_events os ++ es)
      ∙ found_behind (is_duplicate d) KeyDuplicates (codes "duplication of key \"") os es

  ordering_if : (on : Bool) → (if on then key_ordering (opening_events os ++ es) else []) ≡ (if on then ordering_after (opened_by os) es else [])
  ordering_if false = refl
  ordering_if true =
      all_found is_greater_among KeyOrdering (codes "wrong ordering of key \"") [] (opening_events os ++ es)
      ∙ found_behind is_greater_among KeyOrdering (codes "wrong ordering of key \"") os es

  anchors_if : (x : Option AnchorsOptions) → option_map_or (λ a. anchors a (opening_events os ++ es)) x [] ≡ option_map_or (λ a. anchors_between a [] [] []) x []
  anchors_if None = refl
  anchors_if (Some a) = nothing_at a [] (opening_events os ++ es) none_at_all

  pub found_alone : (o : TreeOptions) → tree_findings o (opening_events os ++ es) ≡ tree_findings_after o (opened_by os) es [] [] []
  found_alone o = λ i. duplicates_if o.key_duplicates i ++ (ordering_if o.key_ordering i ++ anchors_if o.anchors i)

-- ---- one after another

module _ (os : List Opening) (i : ℕ) (o : Opening) (within : i < length os) (is : o ≡ get_or os i o) where
  one_left : drop i os ≡ o ∷ drop (i + 1) os
  one_left = let first : drop i os ≡ get_or os i o ∷ drop (i + 1) os = rw (add-one i, drop-cons os i o within) refl in first ∙ ap (λ x. x ∷ drop (i + 1) os) (sym is)

  pub opened_left : (s : OpenNodes) → opened_from s (drop i os) ≡ opened_from (with_opening o s) (drop (i + 1) os)
  opened_left s = ap (opened_from s) one_left

  pub events_left : (es : List EventValue) → opening_events (drop i os) ++ es ≡ events_of o ++ (opening_events (drop (i + 1) os) ++ es)
  events_left es = ap (λ xs. opening_events xs ++ es) one_left ∙ append_assoc (events_of o) (opening_events (drop (i + 1) os)) es
