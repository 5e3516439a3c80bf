-- The keys that one finds by looking back are those of the innermost open collection.
use Rattle.std.proofs.Common.{◌≡◌, ℕ, zero, suc, ◌-◌, ◌==◌, arith, List, [], ◌∷◌, ◌++◌, Bool, true, false, not, ◌&&◌, cond, refl, ◌∙◌, ap, Option, Some, None}
use Rattle.std.specs.Prelude.{if◌then◌else◌}
use Rattle.std.specs.Option.{option_to_list}
use Rattle.std.specs.List.{filter_map, cons_option}
use Rattle.std.proofs.lemmas.Bool.{ne_eqb}
use Rattle.yl_events.specs.Event.{EventValue, EventKindValue, SequenceEnd, MappingEnd}
use Rattle.yl_tree.specs.Keys.{is_collection_start, is_collection_end, is_mapping_start, nodes_so_far, is_mapping_open, is_key_next, keys_among, name_of, earlier_keys}
use Rattle.yl_tree.specs.OpenNodes.{OpenCollection, new_collection, with_node, first_or_new, without_first, with_event, collections_behind, keys_if_next, nth_or_new, open_at}

-- an open collection by its nodes
abbrev pub keys_in : Bool → List EventValue → List (List ℕ)
keys_in true nodes = filter_map name_of (keys_among nodes)
keys_in false nodes = []

abbrev pub open_of : Bool → List EventValue → OpenCollection
open_of mapping nodes = record { is_mapping = mapping; is_key_next = is_key_next nodes; keys = keys_in mapping nodes }

abbrev pub looked_at : ℕ → List EventValue → OpenCollection
looked_at skip es = open_of (is_mapping_open skip es) (nodes_so_far skip es)

names : (o : Option (List ℕ)) (xs : List (List ℕ)) → cons_option o xs ≡ option_to_list o ++ xs
names None xs = refl
names (Some t) xs = refl

key_more : (e : EventValue) (m d : Bool) (nodes : List EventValue) → is_key_next nodes ≡ d
    → keys_in m (e ∷ nodes) ≡ cond (m && d) (option_to_list (name_of e) ++ keys_in m nodes) (keys_in m nodes)
key_more e false d nodes is = refl
key_more e true true nodes is = rw is (names (name_of e) _)
key_more e true false nodes is = rw is refl

node_more : (e : EventValue) (m : Bool) (nodes : List EventValue) → open_of m (e ∷ nodes) ≡ with_node (name_of e) (open_of m nodes)
node_more e m nodes = ap (λ (ks : List (List ℕ)). record { is_mapping = m; is_key_next = not (is_key_next nodes); keys = ks }) (key_more e m (is_key_next nodes) nodes refl)

popped : (skip : ℕ) (os : List OpenCollection) → nth_or_new skip os ≡ open_at skip (record { innermost = first_or_new os; outer = without_first os })
popped zero [] = refl
popped zero (o ∷ os) = refl
popped (suc skip) [] = refl
popped (suc skip) (o ∷ os) = refl

opened : (m : Bool) → open_of m [] ≡ new_collection m
opened true = refl
opened false = refl

-- a number that counts something, and what it counts but for one
counts : (n : ℕ) → (suc n == 0) ≡ false
counts n = ne_eqb (suc n) 0 (λ e. omega (arith, e))

one_fewer : (n : ℕ) → suc n - 1 ≡ n
one_fewer n = omega arith

-- an event that ends a collection starts none
ends_alone : (k : EventKindValue) → is_collection_end k ≡ true → is_collection_start k ≡ false
ends_alone SequenceEnd h = refl
ends_alone MappingEnd h = refl
ends_alone k h = absurd cc

-- an event that starts a collection
started : (skip : ℕ) (e : EventValue) (es : List EventValue) → ((k : ℕ) → looked_at k es ≡ open_at k (collections_behind es)) → is_collection_end e.kind ≡ false → is_collection_start e.kind ≡ true
    → looked_at skip (e ∷ es) ≡ open_at skip (with_event e (collections_behind es))
started zero e es ih off on = rw (off, on) (opened (is_mapping_start e.kind))
started (suc zero) e es ih off on = rw (off, on) (node_more e (is_mapping_open zero es) (nodes_so_far zero es) ∙ ap (with_node (name_of e)) (ih zero))
started (suc (suc skip)) e es ih off on = rw (off, on, counts (suc skip), one_fewer (suc skip), counts skip) (ih (suc skip))

-- one that is a node by itself
stood : (skip : ℕ) (e : EventValue) (es : List EventValue) → ((k : ℕ) → looked_at k es ≡ open_at k (collections_behind es)) → is_collection_end e.kind ≡ false → is_collection_start e.kind ≡ false
    → looked_at skip (e ∷ es) ≡ open_at skip (with_event e (collections_behind es))
stood zero e es ih off none = rw (off, none) (node_more e (is_mapping_open zero es) (nodes_so_far zero es) ∙ ap (with_node (name_of e)) (ih zero))
stood (suc skip) e es ih off none = rw (off, none, counts skip) (ih (suc skip))

by_kind : (skip : ℕ) (e : EventValue) (es : List EventValue) → ((k : ℕ) → looked_at k es ≡ open_at k (collections_behind es)) → (b c : Bool) → is_collection_end e.kind ≡ b → is_collection_start e.kind ≡ c
    → looked_at skip (e ∷ es) ≡ open_at skip (with_event e (collections_behind es))
by_kind skip e es ih true c on _ = rw (on, ends_alone e.kind on, counts skip) (ih (suc skip) ∙ popped skip (collections_behind es).outer)
by_kind skip e es ih false true off on = started skip e es ih off on
by_kind skip e es ih false false off none = stood skip e es ih off none

none_open : (skip : ℕ) → new_collection false ≡ open_at skip (collections_behind [])
none_open zero = refl
none_open (suc skip) = refl

looked_back : (skip : ℕ) (es : List EventValue) → looked_at skip es ≡ open_at skip (collections_behind es)
looked_back skip [] = none_open skip
looked_back skip (e ∷ es) = by_kind skip e es (λ k. looked_back k es) (is_collection_end e.kind) (is_collection_start e.kind) refl refl

keys_next : (m d : Bool) (nodes : List EventValue) → (if m && d then filter_map name_of (keys_among nodes) else []) ≡ (if m && d then keys_in m nodes else [])
keys_next true d nodes = refl
keys_next false d nodes = refl

pub earlier : (es : List EventValue) → earlier_keys es ≡ keys_if_next (collections_behind es).innermost
earlier es = keys_next (is_mapping_open zero es) (is_key_next (nodes_so_far zero es)) (nodes_so_far zero es) ∙ ap keys_if_next (looked_back zero es)
