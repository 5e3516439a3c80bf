-- Bridge: the names that a run of events asks for among keys from before it, as a list, and a law: where
-- such keys have no part in what is found at a run, they have none at another that asks for the same.
use Rattle.std.specs.Prelude.{ℕ, Bool, true, false, ◌&&◌, ◌≡◌, ◌↔◌, nat_le, if◌then◌else◌, is_some, List, [], ◌∷◌, ◌++◌, map, reverse, Option, Some, None, Contains}
use Rattle.std.specs.List.{AllByRecursion, filter, list_any}
use Rattle.yl_text.specs.Finding.{at_each}
use Rattle.yl_events.specs.Event.{EventValue}
use Rattle.yl_tree.specs.declared.options.KeyDuplicatesOptions.{KeyDuplicatesOptions}
use Rattle.yl_tree.specs.Greatest.{is_greater_among}
use Rattle.yl_tree.specs.Keys.{name_of}
use Rattle.yl_tree.specs.OpenNodes.{OpenNodes}
use Rattle.yl_open_collections.specs.Counted.{after_events, what_counts}
use Rattle.yl_open_collections.specs.OpenBy.{without_keys}
use Rattle.yl_pieces.specs.KeysOfRuns.{all_open, height, is_before_key, keys_at, lowest, run_alone}
use Rattle.yl_pieces.specs.DuplicatesOfRuns.{AsksFor, duplicates_after, event_below, has_name}
use Rattle.yl_pieces.specs.OrderingOfRuns.{ordering_after}
use Rattle.yl_piece_names.specs.Moved.{IfNamed}

-- ---- the names

-- the name of a key, and the height of its mapping
pub record AskedName : Type 0 where
  pub height : ℕ
  pub name : List ℕ

-- after these events of the run a key comes next, in a mapping that was open before the run and was
-- not closed in it so far
abbrev pub is_asking : OpenNodes → List EventValue → Bool
is_asking s front = is_before_key (run_alone s front) && nat_le (height (run_alone s front)) (lowest s front)

-- what the event after these events of the run asks for, if it has a name
abbrev pub asked_by : OpenNodes → List EventValue → Option (List ℕ) → List AskedName
asked_by s front None = []
asked_by s front (Some name) = if is_asking s front then record { height = height (run_alone s front); name = name } ∷ [] else []

-- what the keys of the run ask for, in the order of the events
abbrev pub asked_names : OpenNodes → List EventValue → List AskedName
asked_names s es = at_each (λ before e after. asked_by s (reverse before) (name_of e)) [] es

-- ---- keys from before the run that have no part in what is found

-- what a rule on keys finds at the run is what it finds at the run alone
abbrev pub DuplicatesAlone : KeyDuplicatesOptions → OpenNodes → List EventValue → Type 0
DuplicatesAlone o s es = duplicates_after o s es ≡ duplicates_after o (without_keys s) es

abbrev pub OrderingAlone : OpenNodes → List EventValue → Type 0
OrderingAlone s es = ordering_after s es ≡ ordering_after (without_keys s) es

-- an event that has a name has a place, where something can be found
abbrev pub HasPlace : EventValue → Type 0
HasPlace e = IfNamed (λ place. is_some place ≡ true) e

-- ---- the law

pub record AskedNames : Type 0 where
  -- the list has what the run asks for, and nothing else
  pub told : (s : OpenNodes) (es : List EventValue) (h : ℕ) (name : List ℕ) → AsksFor s es h name ↔ Contains (asked_names s es) (record { height = h; name = name })
  -- one run after another: what the latter asks for, as far as the former did not close its mapping
  pub runs : (s : OpenNodes) (es fs : List EventValue)
      → asked_names s (es ++ fs) ≡ asked_names s es ++ filter (λ a. nat_le a.height (lowest s es)) (asked_names (after_events s es) fs)
  -- keys from before the run that have none of the names have no part in what is found
  pub duplicates : (o : KeyDuplicatesOptions) (s : OpenNodes) (es : List EventValue)
      → list_any (λ a. has_name a.name (keys_at a.height (all_open s))) (asked_names s es) ≡ false → DuplicatesAlone o s es
  pub ordering : (s : OpenNodes) (es : List EventValue)
      → list_any (λ a. is_greater_among (keys_at a.height (all_open s)) a.name) (asked_names s es) ≡ false → OrderingAlone s es
  -- without keys the open collections after a run are those of the run alone
  pub keyless : (s : OpenNodes) (es : List EventValue) → without_keys (after_events s es) ≡ without_keys (run_alone s es)
  -- other keys from before the run make no difference where each of the names finds the same among them
  pub alike_duplicates : (o : KeyDuplicatesOptions) (s t : OpenNodes) (es : List EventValue) → what_counts (without_keys s) ≡ what_counts (without_keys t)
      → AllByRecursion (λ a. has_name a.name (keys_at a.height (all_open s)) ≡ has_name a.name (keys_at a.height (all_open t))) (asked_names s es)
      → duplicates_after o s es ≡ duplicates_after o t es
  pub alike_ordering : (s t : OpenNodes) (es : List EventValue) → what_counts (without_keys s) ≡ what_counts (without_keys t)
      → AllByRecursion (λ a. is_greater_among (keys_at a.height (all_open s)) a.name ≡ is_greater_among (keys_at a.height (all_open t)) a.name) (asked_names s es)
      → ordering_after s es ≡ ordering_after t es
  -- where they had no part in what was found at the old run, and the new run asks for the same
  -- names, they have none now
  pub same_duplicates : (o : KeyDuplicatesOptions) (s : OpenNodes) (old new : List EventValue) → AllByRecursion HasPlace old
      → asked_names s old ≡ asked_names s new → DuplicatesAlone o s old → DuplicatesAlone o s new
  pub same_ordering : (s : OpenNodes) (old new : List EventValue) → AllByRecursion HasPlace old
      → asked_names s old ≡ asked_names s new → OrderingAlone s old → OrderingAlone s new
  -- of the rule key-duplicates it is enough that the new run asks for no other names
  pub fewer_duplicates : (o : KeyDuplicatesOptions) (s : OpenNodes) (old new : List EventValue) → AllByRecursion HasPlace old
      → ((a : AskedName) → Contains (asked_names s new) a → Contains (asked_names s old) a) → DuplicatesAlone o s old → DuplicatesAlone o s new
  -- lines have no part in what a run asks for, nor in whether keys from before have one
  pub below : (n : ℕ) (s : OpenNodes) (es : List EventValue) → asked_names s (map (event_below n) es) ≡ asked_names s es
  pub duplicates_below : (o : KeyDuplicatesOptions) (n : ℕ) (s : OpenNodes) (es : List EventValue) → DuplicatesAlone o s es → DuplicatesAlone o s (map (event_below n) es)
  pub ordering_below : (n : ℕ) (s : OpenNodes) (es : List EventValue) → OrderingAlone s es → OrderingAlone s (map (event_below n) es)
