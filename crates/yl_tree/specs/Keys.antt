-- Meaning: the keys of mappings (YAML 1.2.2, 3.2.1.1), by the events that come before an event, the
-- latest first.
use Rattle.std.specs.Prelude.{ℕ, suc, Bool, true, false, not, ◌&&◌, ◌==◌, ◌-◌, if◌then◌else◌, List, [], ◌∷◌, Option, Some, None}
use Rattle.std.specs.List.{filter_map}
use Rattle.yl_lexeme.specs.declared.lexeme.Style.TheVariants.{Plain, Single, Double}
use Rattle.yl_events.specs.Event.{EventValue, EventKindValue, SequenceStart, SequenceEnd, MappingStart, MappingEnd, ScalarOf}

abbrev pub is_collection_start : EventKindValue → Bool
is_collection_start SequenceStart = true
is_collection_start MappingStart = true
is_collection_start _ = false

abbrev pub is_collection_end : EventKindValue → Bool
is_collection_end SequenceEnd = true
is_collection_end MappingEnd = true
is_collection_end _ = false

abbrev pub is_mapping_start : EventKindValue → Bool
is_mapping_start MappingStart = true
is_mapping_start _ = false

-- the value of a plain or quoted scalar: block scalars are not compared
abbrev pub compared_value : EventKindValue → Option (List ℕ)
compared_value (ScalarOf Plain value) = Some value
compared_value (ScalarOf Single value) = Some value
compared_value (ScalarOf Double value) = Some value
compared_value _ = None

abbrev pub name_of : EventValue → Option (List ℕ)
name_of e = compared_value e.kind

-- ---- looking back: `skip` counts the collections that ended and whose starts are still to come

-- the count before an event, by the count after it
abbrev pub skipped : EventValue → ℕ → ℕ
skipped e skip =
    if is_collection_end e.kind then suc skip else if is_collection_start e.kind then skip - 1 else skip

-- the nodes of the innermost open collection, each by its first event, the latest first
abbrev pub nodes_so_far : ℕ → List EventValue → List EventValue
nodes_so_far skip [] = []
nodes_so_far skip (e ∷ es) =
    if is_collection_start e.kind && skip == 0 then []
    else if skipped e skip == 0 then e ∷ nodes_so_far 0 es else nodes_so_far (skipped e skip) es

-- the innermost open collection is a mapping
abbrev pub is_mapping_open : ℕ → List EventValue → Bool
is_mapping_open skip [] = false
is_mapping_open skip (e ∷ es) =
    if is_collection_start e.kind && skip == 0 then is_mapping_start e.kind else is_mapping_open (skipped e skip) es

-- ---- the nodes of a mapping are a key, its value, a key, its value ..

-- after these nodes a key comes next
abbrev pub is_key_next : List EventValue → Bool
is_key_next [] = true
is_key_next (n ∷ nodes) = not (is_key_next nodes)

abbrev pub keys_among : List EventValue → List EventValue
keys_among [] = []
keys_among (n ∷ nodes) = if is_key_next nodes then n ∷ keys_among nodes else keys_among nodes

-- the names of the earlier keys of the mapping in which the event after these is a key; none if it
-- is no key
abbrev pub earlier_keys : List EventValue → List (List ℕ)
earlier_keys before =
    if is_mapping_open 0 before && is_key_next (nodes_so_far 0 before)
    then filter_map name_of (keys_among (nodes_so_far 0 before)) else []
