-- Of open collections that are no mappings nothing matters to the rules on keys.
use Rattle.std.proofs.Common.{◌≡◌, ℕ, suc, List, [], ◌∷◌, ◌++◌, length, map, Bool, true, false, refl, sym, ◌∙◌, ap, Option}
use Rattle.std.proofs.lemmas.List.{length-map}
use Rattle.yl_text.specs.declared.finding.RuleId.{RuleId}
use Rattle.yl_events.specs.Event.{EventValue}
use Rattle.yl_tree.specs.Keys.{is_collection_start, is_collection_end, is_mapping_start, name_of}
use Rattle.yl_tree.specs.OpenNodes.{OpenCollection, OpenNodes, closed, keys_if_next, new_collection, with_event, with_node}
use Rattle.yl_open_collections.specs.Counted.{finding_among, key_findings_after, what_counts, what_counts_of}
use Rattle.yl_pieces.specs.KeysOfRuns.{all_with_earlier, height, lasting_keys, with_earlier_keys, with_more_keys}

-- ---- one collection

abbrev collection : Bool → Bool → List (List ℕ) → OpenCollection
collection is_mapping is_key_next keys = record { is_mapping = is_mapping; is_key_next = is_key_next; keys = keys }

one_again : (b c : Bool) (ks : List (List ℕ)) → what_counts_of (collection b c ks) ≡ what_counts_of (what_counts_of (collection b c ks))
one_again true c ks = refl
one_again false c ks = refl

again : (o : OpenCollection) → what_counts_of o ≡ what_counts_of (what_counts_of o)
again o = one_again o.is_mapping o.is_key_next o.keys

one_node : (name : Option (List ℕ)) (b c : Bool) (ks : List (List ℕ)) → what_counts_of (with_node name (collection b c ks)) ≡ what_counts_of (with_node name (what_counts_of (collection b c ks)))
one_node name true c ks = refl
one_node name false c ks = refl

node_more : (name : Option (List ℕ)) (o : OpenCollection) → what_counts_of (with_node name o) ≡ what_counts_of (with_node name (what_counts_of o))
node_more name o = one_node name o.is_mapping o.is_key_next o.keys

one_more : (more : List (List ℕ)) (b c : Bool) (ks : List (List ℕ)) → what_counts_of (with_more_keys more (collection b c ks)) ≡ what_counts_of (with_more_keys more (what_counts_of (collection b c ks)))
one_more more true c ks = refl
one_more more false c ks = refl

keys_more : (more : List (List ℕ)) (o : OpenCollection) → what_counts_of (with_more_keys more o) ≡ what_counts_of (with_more_keys more (what_counts_of o))
keys_more more o = one_more more o.is_mapping o.is_key_next o.keys

one_next : (b c : Bool) (ks : List (List ℕ)) → keys_if_next (collection b c ks) ≡ keys_if_next (what_counts_of (collection b c ks))
one_next true c ks = refl
one_next false c ks = refl

next_keys : (o : OpenCollection) → keys_if_next o ≡ keys_if_next (what_counts_of o)
next_keys o = one_next o.is_mapping o.is_key_next o.keys

-- ---- one event more

all_again : (os : List OpenCollection) → map what_counts_of os ≡ map what_counts_of (map what_counts_of os)
all_again [] = refl
all_again (o ∷ os) = λ i. again o i ∷ all_again os i

closed_one : (s : OpenNodes) (os : List OpenCollection)
    → what_counts (closed (record { innermost = s.innermost; outer = os })) ≡ what_counts (closed (record { innermost = what_counts_of s.innermost; outer = map what_counts_of os }))
closed_one s [] = refl
closed_one s (o ∷ os) = λ i. record { innermost = again o i; outer = all_again os i }

by_kind : (e : EventValue) (s : OpenNodes) (b c : Bool) → is_collection_end e.kind ≡ b → is_collection_start e.kind ≡ c → what_counts (with_event e s) ≡ what_counts (with_event e (what_counts s))
by_kind e s true c on _ = rw on (closed_one s s.outer)
by_kind e s false true off on =
    let here : what_counts (record { innermost = new_collection (is_mapping_start e.kind); outer = with_node (name_of e) s.innermost ∷ s.outer })
    ≡ what_counts (record { innermost = new_collection (is_mapping_start e.kind); outer = with_node (name_of e) (what_counts_of s.innermost) ∷ map what_counts_of s.outer }) =
    λ i. record { innermost = what_counts_of (new_collection (is_mapping_start e.kind)); outer = node_more (name_of e) s.innermost i ∷ all_again s.outer i } in
    rw (off, on) here
by_kind e s false false off none =
    let here : what_counts (record { innermost = with_node (name_of e) s.innermost; outer = s.outer })
    ≡ what_counts (record { innermost = with_node (name_of e) (what_counts_of s.innermost); outer = map what_counts_of s.outer }) =
    λ i. record { innermost = node_more (name_of e) s.innermost i; outer = all_again s.outer i } in
    rw (off, none) here

event_more : (e : EventValue) (s : OpenNodes) → what_counts (with_event e s) ≡ what_counts (with_event e (what_counts s))
event_more e s = by_kind e s (is_collection_end e.kind) (is_collection_start e.kind) refl refl

same_event : (s t : OpenNodes) (e : EventValue) → what_counts s ≡ what_counts t → what_counts (with_event e s) ≡ what_counts (with_event e t)
same_event s t e same = event_more e s ∙ ap (λ u. what_counts (with_event e u)) same ∙ sym (event_more e t)

-- ---- a run

module _ (test : List (List ℕ) → List ℕ → Bool) (rule : RuleId) (words : List ℕ) where
  same_next : (s t : OpenNodes) → what_counts s ≡ what_counts t → keys_if_next s.innermost ≡ keys_if_next t.innermost
  same_next s t same = next_keys s.innermost ∙ ap (λ (u : OpenNodes). keys_if_next u.innermost) same ∙ sym (next_keys t.innermost)

  pub found_by_mappings : (s t : OpenNodes) (es : List EventValue) → what_counts s ≡ what_counts t → key_findings_after test rule words s es ≡ key_findings_after test rule words t es
  found_by_mappings s t [] same = refl
  found_by_mappings s t (e ∷ es) same =
      λ i. finding_among test rule words (same_next s t same i) e (name_of e) ++ found_by_mappings (with_event e s) (with_event e t) es (same_event s t e same) i

-- ---- keys from before a run

module _ (low : ℕ) (s : OpenNodes) where
  all_earlier : (os : List OpenCollection) → map what_counts_of (all_with_earlier low os s) ≡ map what_counts_of (all_with_earlier low (map what_counts_of os) s)
  all_earlier [] = refl
  all_earlier (o ∷ os) =
      λ i. (keys_more (lasting_keys low (suc (length os)) s) o
      ∙ ap (λ n. what_counts_of (with_more_keys (lasting_keys low (suc n) s) (what_counts_of o))) (sym (length-map os what_counts_of))) i
      ∷ all_earlier os i

  pub earlier_by_mappings : (t : OpenNodes) → what_counts (with_earlier_keys low t s) ≡ what_counts (with_earlier_keys low (what_counts t) s)
  earlier_by_mappings t =
      λ i. record {
        innermost = (keys_more (lasting_keys low (height t) s) t.innermost
            ∙ ap (λ n. what_counts_of (with_more_keys (lasting_keys low (suc n) s) (what_counts_of t.innermost))) (sym (length-map t.outer what_counts_of))) i;
        outer = all_earlier t.outer i;
      }
