-- Kinds and turns of open collections, by the shapes of events.
use Rattle.std.proofs.Common.{◌≡◌, ℕ, List, [], ◌∷◌, ◌++◌, map, Bool, true, false, refl, sym, ◌∙◌, ap, Option}
use Rattle.yl_events.specs.declared.symbol.Outline.{Outline}
use Rattle.yl_events.specs.declared.symbol.Shape.{Shape}
use Rattle.yl_events.specs.declared.symbol.Shape.TheVariants as shape
use Rattle.yl_lexeme.specs.Lexeme.{LexemeValue}
use Rattle.yl_events.specs.Event.{EventValue, EventKindValue, DocumentStart, DocumentEnd, SequenceStart, SequenceEnd, MappingStart, MappingEnd, AliasOf, ScalarOf, Empty, event_of_outline, kind_of}
use Rattle.yl_events.specs.Seen.{LineValue, event_seen, kind_seen}
use Rattle.yl_tree.specs.Keys.{is_collection_start, is_collection_end, is_mapping_start, name_of}
use Rattle.yl_tree.specs.OpenNodes.{OpenCollection, OpenNodes, new_collection, with_node, with_node_in, first_or_new, without_first, closed, opened, with_event}
use Rattle.yl_open_collections.specs.Counted.{after_events, what_counts_of}
use Rattle.yl_open_collections.specs.OpenBy.{keyless, one_node_earlier, before_a_node, kinds_and_turns, kind_shape, event_shapes, shapes}
use Rattle.yl_open_collections.proofs.Counted.{at_event, collection}

-- ---- kinds and turns alone

-- one event more. In a mapping keys and values take turns, so the collection after a node is the
-- one before it
abbrev pub with_shape : Shape → OpenNodes → OpenNodes
with_shape shape.SequenceStart s = opened false (before_a_node s)
with_shape shape.MappingStart s = opened true (before_a_node s)
with_shape shape.SequenceEnd s = closed s
with_shape shape.MappingEnd s = closed s
with_shape _ s = before_a_node s

abbrev pub after_shapes : OpenNodes → List Shape → OpenNodes
after_shapes s [] = s
after_shapes s (k ∷ ks) = after_shapes (with_shape k s) ks

pub after_both : (s : OpenNodes) (ks ls : List Shape) → after_shapes s (ks ++ ls) ≡ after_shapes (after_shapes s ks) ls
after_both s [] ls = refl
after_both s (k ∷ ks) ls = after_both (with_shape k s) ks ls

-- ---- one collection

-- its kind, and whether a key comes next in it
abbrev pub turn_of : OpenCollection → OpenCollection
turn_of o = keyless (what_counts_of o)

node_of : (name : Option (List ℕ)) (m n : Bool) (ks : List (List ℕ)) → turn_of (with_node name (collection m n ks)) ≡ one_node_earlier (turn_of (collection m n ks))
node_of name true n ks = refl
node_of name false n ks = refl

node : (name : Option (List ℕ)) (o : OpenCollection) → turn_of (with_node name o) ≡ one_node_earlier (turn_of o)
node name o = node_of name o.is_mapping o.is_key_next o.keys

new : (m : Bool) → turn_of (new_collection m) ≡ new_collection m
new true = refl
new false = refl

-- ---- all open collections

node_in : (name : Option (List ℕ)) (s : OpenNodes) → kinds_and_turns (with_node_in name s) ≡ before_a_node (kinds_and_turns s)
node_in name s = λ i. record { innermost = node name s.innermost i; outer = (kinds_and_turns s).outer }

opened_in : (m : Bool) (name : Option (List ℕ)) (s : OpenNodes) → kinds_and_turns (opened m (with_node_in name s)) ≡ opened m (before_a_node (kinds_and_turns s))
opened_in m name s = λ i. record { innermost = new m i; outer = node name s.innermost i ∷ (kinds_and_turns s).outer }

closed_to : (os : List OpenCollection) → kinds_and_turns (record { innermost = first_or_new os; outer = without_first os })
    ≡ record { innermost = first_or_new (map keyless (map what_counts_of os)); outer = without_first (map keyless (map what_counts_of os)) }
closed_to [] = refl
closed_to (o ∷ os) = refl

by_shape : (k : EventKindValue) (name : Option (List ℕ)) (s : OpenNodes)
    → kinds_and_turns (at_event (is_collection_end k) (is_collection_start k) (is_mapping_start k) name s) ≡ with_shape (kind_shape k) (kinds_and_turns s)
by_shape DocumentStart name s = node_in name s
by_shape DocumentEnd name s = node_in name s
by_shape SequenceStart name s = opened_in false name s
by_shape SequenceEnd name s = closed_to s.outer
by_shape MappingStart name s = opened_in true name s
by_shape MappingEnd name s = closed_to s.outer
by_shape (AliasOf of) name s = node_in name s
by_shape (ScalarOf style value) name s = node_in name s
by_shape Empty name s = node_in name s

-- ---- runs

pub turns_after : (s : OpenNodes) (es : List EventValue) → kinds_and_turns (after_events s es) ≡ after_shapes (kinds_and_turns s) (event_shapes es)
turns_after s [] = refl
turns_after s (e ∷ es) = turns_after (with_event e s) es ∙ ap (λ t. after_shapes t (event_shapes es)) (by_shape e.kind (name_of e) s)

pub turns_alike : (s t : OpenNodes) (es fs : List EventValue) → event_shapes es ≡ event_shapes fs → kinds_and_turns s ≡ kinds_and_turns t
    → kinds_and_turns (after_events s es) ≡ kinds_and_turns (after_events t fs)
turns_alike s t es fs same_shapes same = turns_after s es ∙ (λ i. after_shapes (same i) (same_shapes i)) ∙ sym (turns_after t fs)

-- ---- outlines

named_kind : (xs : List LexemeValue) (k : Shape) (place : Option ℕ) → kind_shape (kind_of xs k place) ≡ k
named_kind xs shape.DocumentStart place = refl
named_kind xs shape.DocumentEnd place = refl
named_kind xs shape.SequenceStart place = refl
named_kind xs shape.SequenceEnd place = refl
named_kind xs shape.MappingStart place = refl
named_kind xs shape.MappingEnd place = refl
named_kind xs shape.Alias place = refl
named_kind xs (shape.Scalar style) place = refl
named_kind xs shape.Empty place = refl

pub named : (xs : List LexemeValue) (os : List Outline) → event_shapes (map (event_of_outline xs) os) ≡ shapes os
named xs [] = refl
named xs (o ∷ os) = λ i. named_kind xs o.kind o.place i ∷ named xs os i

seen_kind : (l : LineValue) (k : Shape) (place : Option ℕ) → kind_shape (kind_seen l k place) ≡ k
seen_kind l shape.DocumentStart place = refl
seen_kind l shape.DocumentEnd place = refl
seen_kind l shape.SequenceStart place = refl
seen_kind l shape.SequenceEnd place = refl
seen_kind l shape.MappingStart place = refl
seen_kind l shape.MappingEnd place = refl
seen_kind l shape.Alias place = refl
seen_kind l (shape.Scalar style) place = refl
seen_kind l shape.Empty place = refl

pub seen : (l : LineValue) (os : List Outline) → event_shapes (map (event_seen l) os) ≡ shapes os
seen l [] = refl
seen l (o ∷ os) = λ i. seen_kind l o.kind o.place i ∷ seen l os i
