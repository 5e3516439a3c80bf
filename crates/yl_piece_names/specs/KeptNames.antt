-- Bridge: what is kept of a run of events to compare it with another one, and a law: where the same is
-- kept of two runs, they leave the same keys and ask for the same names.
use Rattle.std.specs.Prelude.{ℕ, ◌≡◌, Bool, false, ◌&&◌, nat_le, if◌then◌else◌, List, [], ◌∷◌, Option, Some, None}
use Rattle.std.specs.List.{AllByRecursion, flat_map, list_any}
use Rattle.yl_events.specs.Event.{EventValue}
use Rattle.yl_tree.specs.declared.options.TreeOptions.{TreeOptions}
use Rattle.yl_tree.specs.OpenNodes.{OpenCollection, OpenNodes, with_node}
use Rattle.yl_tree.specs.References.{is_reference}
use Rattle.yl_open_collections.specs.Counted.{what_counts}
use Rattle.yl_open_collections.specs.OpenBy.{kinds_and_turns}
use Rattle.yl_pieces.specs.KeysOfRuns.{height, is_before_key, lowest, run_alone}
use Rattle.yl_pieces.specs.References.{references_of_event}
use Rattle.yl_piece_names.specs.SameNames.{LeaveSameKeys}
use Rattle.yl_piece_names.specs.Asked.{AskedName, HasPlace, asked_names}
use Rattle.yl_piece_names.specs.TreePatched.{AreFoundAlone, NamesStay}

-- ---- what is kept

pub record RunNamesValue : Type 0 where
  -- what counts of the collections that are open after the run alone
  pub collections : OpenNodes
  -- how low the run goes
  pub low : ℕ
  -- what the run asks for
  pub asked : List AskedName
  -- an event of the run has an anchor or is an alias
  pub has_references : Bool

-- where these collections are open before the run
abbrev pub names_of_run : OpenNodes → List EventValue → RunNamesValue
names_of_run s es = record {
  collections = what_counts (run_alone s es);
  low = lowest s es;
  asked = asked_names s es;
  has_references = list_any is_reference es;
}

-- ---- one event more

-- one node more in a collection, of which no more is kept than what counts
abbrev pub with_counted_node : Option (List ℕ) → OpenCollection → OpenCollection
with_counted_node name o = if o.is_mapping then with_node name o else o

-- what an event with this name asks for after a run that goes so low, where these collections are open
abbrev pub asked_next : OpenNodes → (low : ℕ) → Option (List ℕ) → List AskedName
asked_next s low None = []
asked_next s low (Some name) = if is_before_key s && nat_le (height s) low then record { height = height s; name = name } ∷ [] else []

-- ---- the law

pub record NamesOfRuns : Type 0 where
  -- kinds and turns of the collections before the run are enough
  pub by_kinds : (s t : OpenNodes) (es : List EventValue) → kinds_and_turns s ≡ kinds_and_turns t → names_of_run s es ≡ names_of_run t es
  -- where the same is kept of two runs, they leave the same keys and ask for the same names
  pub keys : (s : OpenNodes) (old new : List EventValue) → names_of_run s old ≡ names_of_run s new → LeaveSameKeys s old new
  pub asked : (s : OpenNodes) (old new : List EventValue) → names_of_run s old ≡ names_of_run s new → asked_names s old ≡ asked_names s new
  -- so the names stay, if keys from before had no part in what was found at the old run
  pub stay : (o : TreeOptions) (s : OpenNodes) (old new : List EventValue) → names_of_run s old ≡ names_of_run s new → AllByRecursion HasPlace old → AreFoundAlone o s old
      → NamesStay o s old new
  -- a run that has no references has no anchors and aliases
  pub none : (s : OpenNodes) (es : List EventValue) → (names_of_run s es).has_references ≡ false → flat_map references_of_event es ≡ []
