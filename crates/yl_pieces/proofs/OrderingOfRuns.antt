-- What key-ordering finds at the events of a run, by the greatest keys before it.
use Rattle.std.proofs.Common.{◌≡◌, ℕ, List, [], ◌∷◌, ◌++◌, map, Bool, true, false, ◌&&◌, ◌||◌, refl, sym, ◌∙◌, ap, codes, Option, Some, None}
use Rattle.std.specs.Prelude.{if◌then◌else◌}
use Rattle.std.specs.Option.{option_to_list}
use Rattle.yl_text.specs.declared.finding.RuleId.TheVariants.{KeyOrdering}
use Rattle.yl_text.specs.Finding.{FindingValue}
use Rattle.yl_events.specs.Event.{EventValue}
use Rattle.yl_tree.specs.Greatest.{is_greater_among}
use Rattle.yl_tree.specs.KeyRules.{is_greater}
use Rattle.yl_tree.specs.Keys.{is_collection_start, is_collection_end, is_mapping_start, name_of}
use Rattle.yl_tree.specs.Messages.{name_finding}
use Rattle.yl_tree.specs.OpenNodes.{OpenCollection, OpenNodes, closed, with_event, with_node, keys_if_next}
use Rattle.yl_tree.proofs.Names.{greatest_changes, greatest_stays}
use Rattle.yl_open_collections.specs.Counted.{after_events, finding_among}
use Rattle.yl_pieces.specs.OrderingOfRuns.{OrderingOfRuns, greater_of, greatest, ordering_after, with_greatest_key, with_greatest_keys}
use Rattle.yl_pieces.proofs.KeyFindings.{all_found, all_moved, both, same_found}

-- ---- the greatest key

or_false : (b : Bool) → (b || false) ≡ b
or_false true = refl
or_false false = refl

two_tell : (key other name : List ℕ) (b : Bool) → is_greater other key ≡ b
    → is_greater_among (key ∷ other ∷ []) name ≡ is_greater_among ((if b then other else key) ∷ []) name
two_tell key other name true is = sym (greatest_stays (other ∷ []) key (or_false (is_greater other key) ∙ is) name)
two_tell key other name false is = sym (greatest_changes (other ∷ []) key (or_false (is_greater other key) ∙ is) name)

one_tells : (key : List ℕ) (others : Option (List ℕ)) (name : List ℕ) → is_greater_among (key ∷ option_to_list others) name ≡ is_greater_among (greater_of key others ∷ []) name
one_tells key None name = refl
one_tells key (Some other) name = two_tell key other name (is_greater other key) refl

tells : (keys : List (List ℕ)) (name : List ℕ) → is_greater_among keys name ≡ is_greater_among (option_to_list (greatest keys)) name
tells [] name = refl
tells (key ∷ keys) name = ap (λ b. is_greater key name || b) (tells keys name) ∙ one_tells key (greatest keys) name

of_one : (key : Option (List ℕ)) → greatest (option_to_list key) ≡ key
of_one None = refl
of_one (Some key) = refl

again : (keys : List (List ℕ)) → option_to_list (greatest keys) ≡ option_to_list (greatest (option_to_list (greatest keys)))
again keys = ap option_to_list (sym (of_one (greatest keys)))

key_more : (name : Option (List ℕ)) (keys : List (List ℕ)) → option_to_list (greatest (option_to_list name ++ keys)) ≡ option_to_list (greatest (option_to_list name ++ option_to_list (greatest keys)))
key_more None keys = again keys
key_more (Some name) keys = ap (λ g. greater_of name g ∷ []) (sym (of_one (greatest keys)))

key_if : (name : Option (List ℕ)) (keys : List (List ℕ)) (b : Bool)
    → option_to_list (greatest (if b then option_to_list name ++ keys else keys))
    ≡ option_to_list (greatest (if b then option_to_list name ++ option_to_list (greatest keys) else option_to_list (greatest keys)))
key_if name keys true = key_more name keys
key_if name keys false = again keys

-- ---- one event more

same_one : (o : OpenCollection) → with_greatest_key o ≡ with_greatest_key (with_greatest_key o)
same_one o = ap (λ ks. record { is_mapping = o.is_mapping; is_key_next = o.is_key_next; keys = ks }) (again o.keys)

same_all : (os : List OpenCollection) → map with_greatest_key os ≡ map with_greatest_key (map with_greatest_key os)
same_all [] = refl
same_all (o ∷ os) = λ i. same_one o i ∷ same_all os i

node_more : (name : Option (List ℕ)) (o : OpenCollection) → with_greatest_key (with_node name o) ≡ with_greatest_key (with_node name (with_greatest_key o))
node_more name o = λ i. record { is_mapping = o.is_mapping; is_key_next = (with_node name o).is_key_next; keys = key_if name o.keys (o.is_mapping && o.is_key_next) i }

closed_one : (s : OpenNodes) (os : List OpenCollection)
    → with_greatest_keys (closed (record { innermost = s.innermost; outer = os }))
    ≡ with_greatest_keys (closed (record { innermost = s.innermost; outer = map with_greatest_key os }))
closed_one s [] = refl
closed_one s (o ∷ os) = λ i. record { innermost = same_one o i; outer = same_all os i }

by_kind : (e : EventValue) (s : OpenNodes) (b c : Bool) → is_collection_end e.kind ≡ b → is_collection_start e.kind ≡ c
    → with_greatest_keys (with_event e s) ≡ with_greatest_keys (with_event e (with_greatest_keys s))
by_kind e s true c on _ = rw on (closed_one s s.outer)
by_kind e s false true off on =
    let here : with_greatest_keys (record { innermost = record { is_mapping = is_mapping_start e.kind; is_key_next = true; keys = [] }; outer = with_node (name_of e) s.innermost ∷ s.outer })
    ≡ with_greatest_keys (record { innermost = record { is_mapping = is_mapping_start e.kind; is_key_next = true; keys = [] }; outer = with_node (name_of e) (with_greatest_key s.innermost) ∷ map with_greatest_key s.outer }) =
    λ i. record { innermost = record { is_mapping = is_mapping_start e.kind; is_key_next = true; keys = [] }; outer = node_more (name_of e) s.innermost i ∷ same_all s.outer i } in
    rw (off, on) here
by_kind e s false false off none =
    let here : with_greatest_keys (record { innermost = with_node (name_of e) s.innermost; outer = s.outer })
    ≡ with_greatest_keys (record { innermost = with_node (name_of e) (with_greatest_key s.innermost); outer = map with_greatest_key s.outer }) =
    λ i. record { innermost = node_more (name_of e) s.innermost i; outer = same_all s.outer i } in
    rw (off, none) here

event_more : (e : EventValue) (s : OpenNodes) → with_greatest_keys (with_event e s) ≡ with_greatest_keys (with_event e (with_greatest_keys s))
event_more e s = by_kind e s (is_collection_end e.kind) (is_collection_start e.kind) refl refl

module _ (s t : OpenNodes) (same : with_greatest_keys s ≡ with_greatest_keys t) (e : EventValue) where
  same_event : with_greatest_keys (with_event e s) ≡ with_greatest_keys (with_event e t)
  same_event = event_more e s ∙ ap (λ u. with_greatest_keys (with_event e u)) same ∙ sym (event_more e t)

-- ---- a run

same_state : (s t : OpenNodes) (es : List EventValue) → with_greatest_keys s ≡ with_greatest_keys t → with_greatest_keys (after_events s es) ≡ with_greatest_keys (after_events t es)
same_state s t [] same = same
same_state s t (e ∷ es) same = same_state (with_event e s) (with_event e t) es (same_event s t same e)

next_tells : (o : OpenCollection) (name : List ℕ) (b : Bool) → is_greater_among (if b then o.keys else []) name ≡ is_greater_among (if b then option_to_list (greatest o.keys) else []) name
next_tells o name true = tells o.keys name
next_tells o name false = refl

abbrev at : OpenNodes → EventValue → Option (List ℕ) → List FindingValue
at s e name = finding_among is_greater_among KeyOrdering (codes "wrong ordering of key \"") (keys_if_next s.innermost) e name

by_greatest : (s : OpenNodes) (e : EventValue) (name : Option (List ℕ)) → at s e name ≡ at (with_greatest_keys s) e name
by_greatest s e None = refl
by_greatest s e (Some name) =
    ap (λ (b : Bool). if b then name_finding KeyOrdering e.place (codes "wrong ordering of key \"") name (codes "\" in mapping") else [])
    (next_tells s.innermost name (s.innermost.is_mapping && s.innermost.is_key_next))

same_at : (s t : OpenNodes) (e : EventValue) → with_greatest_keys s ≡ with_greatest_keys t → at s e (name_of e) ≡ at t e (name_of e)
same_at s t e same = by_greatest s e (name_of e) ∙ ap (λ u. at u e (name_of e)) same ∙ sym (by_greatest t e (name_of e))

same_order : (s t : OpenNodes) (es : List EventValue) → with_greatest_keys s ≡ with_greatest_keys t → ordering_after s es ≡ ordering_after t es
same_order s t [] same = refl
same_order s t (e ∷ es) same =
    ap (λ fs. fs ++ ordering_after (with_event e s) es) (same_at s t e same)
    ∙ ap (λ gs. at t e (name_of e) ++ gs) (same_order (with_event e s) (with_event e t) es (same_event s t same e))

-- ---- the law

pub ordering_of_runs : OrderingOfRuns
ordering_of_runs = record {
  whole = λ es. all_found is_greater_among KeyOrdering (codes "wrong ordering of key \"") [] es;
  runs = λ s es fs. both is_greater_among KeyOrdering (codes "wrong ordering of key \"") s es fs;
  lasting = λ s t es same agree. same_found s t same (λ name. true) is_greater KeyOrdering (codes "wrong ordering of key \"") es agree;
  below = λ n s es. all_moved is_greater_among KeyOrdering (codes "wrong ordering of key \"") n s es;
  found = same_order;
  state = same_state;
  greatest_tells = tells;
}
