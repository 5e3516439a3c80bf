-- What counts of open collections is enough.
use Rattle.std.specs.Prelude.{if◌then◌else◌}
use Rattle.std.proofs.Common.{◌≡◌, ℕ, List, [], ◌∷◌, ◌++◌, map, Bool, true, false, refl, sym, ◌∙◌, ap, Option}
use Rattle.yl_text.specs.declared.finding.RuleId.{RuleId}
use Rattle.yl_events.specs.Event.{EventValue}
use Rattle.yl_tree.specs.Keys.{is_collection_start, is_collection_end, is_mapping_start, name_of}
use Rattle.yl_tree.specs.OpenNodes.{OpenCollection, OpenNodes, new_collection, with_node, with_node_in, first_or_new, without_first, closed, opened, with_event, keys_if_next}
use Rattle.yl_open_collections.specs.Counted.{after_events, finding_among, key_findings_after, what_counts_of, what_counts, MappingsCount}

-- ---- one event, by what it does

-- an event is the end of a collection, or its start, or another node
abbrev pub at_event : (is_end is_start is_mapping : Bool) → Option (List ℕ) → OpenNodes → OpenNodes
at_event is_end is_start is_mapping name s =
    if is_end then closed s else if is_start then opened is_mapping (with_node_in name s) else with_node_in name s

-- ---- one collection

abbrev pub collection : (is_mapping is_key_next : Bool) → List (List ℕ) → OpenCollection
collection is_mapping is_key_next keys = record { is_mapping = is_mapping; is_key_next = is_key_next; keys = keys }

once_of : (m n : Bool) (ks : List (List ℕ)) → what_counts_of (what_counts_of (collection m n ks)) ≡ what_counts_of (collection m n ks)
once_of true n ks = refl
once_of false n ks = refl

once : (o : OpenCollection) → what_counts_of (what_counts_of o) ≡ what_counts_of o
once o = once_of o.is_mapping o.is_key_next o.keys

new_counts : (m : Bool) → what_counts_of (new_collection m) ≡ new_collection m
new_counts true = refl
new_counts false = refl

node_of : (name : Option (List ℕ)) (m n : Bool) (ks : List (List ℕ)) → what_counts_of (with_node name (collection m n ks)) ≡ what_counts_of (with_node name (what_counts_of (collection m n ks)))
node_of name true n ks = refl
node_of name false n ks = refl

node : (name : Option (List ℕ)) (o : OpenCollection) → what_counts_of (with_node name o) ≡ what_counts_of (with_node name (what_counts_of o))
node name o = node_of name o.is_mapping o.is_key_next o.keys

keys_of : (m n : Bool) (ks : List (List ℕ)) → keys_if_next (collection m n ks) ≡ keys_if_next (what_counts_of (collection m n ks))
keys_of true n ks = refl
keys_of false n ks = refl

-- ---- all open collections

once_all : (os : List OpenCollection) → map what_counts_of (map what_counts_of os) ≡ map what_counts_of os
once_all [] = refl
once_all (o ∷ os) = λ i. once o i ∷ once_all os i

node_in : (name : Option (List ℕ)) (s : OpenNodes) → what_counts (with_node_in name s) ≡ what_counts (with_node_in name (what_counts s))
node_in name s = λ i. record { innermost = node name s.innermost i; outer = sym (once_all s.outer) i }

opened_in : (m : Bool) (name : Option (List ℕ)) (s : OpenNodes) → what_counts (opened m (with_node_in name s)) ≡ what_counts (opened m (with_node_in name (what_counts s)))
opened_in m name s = λ i. record { innermost = what_counts_of (new_collection m); outer = node name s.innermost i ∷ sym (once_all s.outer) i }

closed_to : (os : List OpenCollection) → what_counts (record { innermost = first_or_new os; outer = without_first os })
    ≡ what_counts (record { innermost = first_or_new (map what_counts_of os); outer = without_first (map what_counts_of os) })
closed_to [] = refl
closed_to (o ∷ os) = λ i. record { innermost = sym (once o) i; outer = sym (once_all os) i }

at_event_counts : (is_end is_start is_mapping : Bool) (name : Option (List ℕ)) (s : OpenNodes)
    → what_counts (at_event is_end is_start is_mapping name s) ≡ what_counts (at_event is_end is_start is_mapping name (what_counts s))
at_event_counts true is_start m name s = closed_to s.outer
at_event_counts false true m name s = opened_in m name s
at_event_counts false false m name s = node_in name s

event_counts : (e : EventValue) (s : OpenNodes) → what_counts (with_event e s) ≡ what_counts (with_event e (what_counts s))
event_counts e s = at_event_counts (is_collection_end e.kind) (is_collection_start e.kind) (is_mapping_start e.kind) (name_of e) s

-- ---- runs

-- where the same counts, the same counts after an event
same_event : (e : EventValue) (s t : OpenNodes) → what_counts s ≡ what_counts t → what_counts (with_event e s) ≡ what_counts (with_event e t)
same_event e s t same = event_counts e s ∙ ap (λ u. what_counts (with_event e u)) same ∙ sym (event_counts e t)

same_after : (s t : OpenNodes) (es : List EventValue) → what_counts s ≡ what_counts t → what_counts (after_events s es) ≡ what_counts (after_events t es)
same_after s t [] same = same
same_after s t (e ∷ es) same = same_after (with_event e s) (with_event e t) es (same_event e s t same)

once_in : (s : OpenNodes) → what_counts s ≡ what_counts (what_counts s)
once_in s = λ i. record { innermost = sym (once s.innermost) i; outer = sym (once_all s.outer) i }

keys_count : (s : OpenNodes) → keys_if_next s.innermost ≡ keys_if_next (what_counts s).innermost
keys_count s = keys_of s.innermost.is_mapping s.innermost.is_key_next s.innermost.keys

same_keys : (s t : OpenNodes) → what_counts s ≡ what_counts t → keys_if_next s.innermost ≡ keys_if_next t.innermost
same_keys s t same = keys_count s ∙ ap (λ (u : OpenNodes). keys_if_next u.innermost) same ∙ sym (keys_count t)

module _ (test : List (List ℕ) → List ℕ → Bool) (rule : RuleId) (words : List ℕ) where
  same_found : (s t : OpenNodes) (es : List EventValue) → what_counts s ≡ what_counts t → key_findings_after test rule words s es ≡ key_findings_after test rule words t es
  same_found s t [] same = refl
  same_found s t (e ∷ es) same =
      λ i. finding_among test rule words (same_keys s t same i) e (name_of e) ++ same_found (with_event e s) (with_event e t) es (same_event e s t same) i

-- ---- the law

pub mappings_count : MappingsCount
mappings_count = record {
  event = event_counts;
  run = λ s es. same_after s (what_counts s) es (once_in s);
  keys = keys_count;
  found = λ test rule words s es. same_found test rule words s (what_counts s) es (once_in s);
  same_found = same_found;
  same_after = same_after;
}
