-- Bridge: the open collections after the first events of a document, with their keys so far.
use Rattle.std.specs.Prelude.{ℕ, zero, suc, Bool, true, false, not, ◌&&◌, if◌then◌else◌, List, [], ◌∷◌, ◌++◌, Option}
use Rattle.std.specs.Option.{option_to_list}
use Rattle.yl_events.specs.Event.{EventValue}
use Rattle.yl_tree.specs.Keys.{is_collection_start, is_collection_end, is_mapping_start, name_of}

pub record OpenCollection : Type 0 where
  pub is_mapping : Bool
  pub is_key_next : Bool
  -- the latest first
  pub keys : List (List ℕ)

pub record OpenNodes : Type 0 where
  pub innermost : OpenCollection
  pub outer : List OpenCollection

abbrev pub new_collection : Bool → OpenCollection
new_collection is_mapping = record { is_mapping = is_mapping; is_key_next = true; keys = [] }

-- one node more in a collection
abbrev pub with_node : Option (List ℕ) → OpenCollection → OpenCollection
with_node name o = record {
  is_mapping = o.is_mapping;
  is_key_next = not o.is_key_next;
  keys = if o.is_mapping && o.is_key_next then option_to_list name ++ o.keys else o.keys;
}

abbrev pub first_or_new : List OpenCollection → OpenCollection
first_or_new [] = new_collection false
first_or_new (o ∷ os) = o

abbrev pub without_first : List OpenCollection → List OpenCollection
without_first [] = []
without_first (o ∷ os) = os

-- one node more in the innermost collection
abbrev pub with_node_in : Option (List ℕ) → OpenNodes → OpenNodes
with_node_in name s = record { innermost = with_node name s.innermost; outer = s.outer }

-- the innermost collection is closed
abbrev pub closed : OpenNodes → OpenNodes
closed s = record { innermost = first_or_new s.outer; outer = without_first s.outer }

-- a collection is opened in the innermost one
abbrev pub opened : Bool → OpenNodes → OpenNodes
opened is_mapping s = record { innermost = new_collection is_mapping; outer = s.innermost ∷ s.outer }

-- the collection with this index, the innermost first
abbrev pub nth_or_new : ℕ → List OpenCollection → OpenCollection
nth_or_new n [] = new_collection false
nth_or_new zero (o ∷ os) = o
nth_or_new (suc n) (o ∷ os) = nth_or_new n os

abbrev pub open_at : ℕ → OpenNodes → OpenCollection
open_at zero s = s.innermost
open_at (suc n) s = nth_or_new n s.outer

-- one event more
abbrev pub with_event : EventValue → OpenNodes → OpenNodes
with_event e s =
    if is_collection_end e.kind then record { innermost = first_or_new s.outer; outer = without_first s.outer }
    else if is_collection_start e.kind then record {
      innermost = new_collection (is_mapping_start e.kind);
      outer = with_node (name_of e) s.innermost ∷ s.outer;
    }
    else record { innermost = with_node (name_of e) s.innermost; outer = s.outer }

-- the open collections after these events, the latest first
abbrev pub collections_behind : List EventValue → OpenNodes
collections_behind [] = record { innermost = new_collection false; outer = [] }
collections_behind (e ∷ es) = with_event e (collections_behind es)

-- the earlier keys if a key comes next, else none
abbrev pub keys_if_next : OpenCollection → List (List ℕ)
keys_if_next o = if o.is_mapping && o.is_key_next then o.keys else []
