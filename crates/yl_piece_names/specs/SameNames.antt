-- Bridge: a law of two runs of events that leave the same keys: behind either of them the rules on keys
-- find the same.
use Rattle.std.specs.Prelude.{ℕ, ◌≡◌, ◌++◌, List, map}
use Rattle.std.specs.List.{AllByRecursion}
use Rattle.yl_events.specs.Event.{EventValue}
use Rattle.yl_tree.specs.declared.options.KeyDuplicatesOptions.{KeyDuplicatesOptions}
use Rattle.yl_tree.specs.OpenNodes.{OpenNodes}
use Rattle.yl_open_collections.specs.Counted.{after_events, what_counts}
use Rattle.yl_pieces.specs.KeysOfRuns.{lowest, run_alone}
use Rattle.yl_pieces.specs.DuplicatesOfRuns.{duplicates_after, event_below}
use Rattle.yl_pieces.specs.OrderingOfRuns.{ordering_after}
use Rattle.yl_pieces.specs.Patched.{finding_moved}
use Rattle.yl_piece_names.specs.Moved.{IfNamed, IsFrom, event_moved}

-- where these collections are open, the same counts of the open collections that either run alone
-- gives, and both close as many of those from before them
pub record LeaveSameKeys (s : OpenNodes) (old new : List EventValue) : Type 0 where
  pub alone : what_counts (run_alone s old) ≡ what_counts (run_alone s new)
  pub low : lowest s old ≡ lowest s new

-- ---- the law

-- `rest` stands behind the rows that went
pub record SameNames : Type 0 where
  -- the same counts of all open collections, with their keys from before the runs too
  pub state : (s : OpenNodes) (old new : List EventValue) → LeaveSameKeys s old new → what_counts (after_events s old) ≡ what_counts (after_events s new)
  -- and no more matters
  pub same_duplicates : (o : KeyDuplicatesOptions) (s t : OpenNodes) (es : List EventValue) → what_counts s ≡ what_counts t → duplicates_after o s es ≡ duplicates_after o t es
  pub same_ordering : (s t : OpenNodes) (es : List EventValue) → what_counts s ≡ what_counts t → ordering_after s es ≡ ordering_after t es
  -- what is found behind the new run is what was found behind the old one, moved
  pub duplicates : (o : KeyDuplicatesOptions) (s : OpenNodes) (old new rest : List EventValue) (gone come : ℕ)
      → LeaveSameKeys s old new → AllByRecursion (IfNamed (IsFrom gone)) rest
      → duplicates_after o s (new ++ map (event_moved gone come) rest)
      ≡ duplicates_after o s new ++ map (finding_moved gone come) (duplicates_after o (after_events s old) rest)
  pub ordering : (s : OpenNodes) (old new rest : List EventValue) (gone come : ℕ)
      → LeaveSameKeys s old new → AllByRecursion (IfNamed (IsFrom gone)) rest
      → ordering_after s (new ++ map (event_moved gone come) rest)
      ≡ ordering_after s new ++ map (finding_moved gone come) (ordering_after (after_events s old) rest)
  -- lines have no part in the keys that are left
  pub below : (n : ℕ) (s : OpenNodes) (old new : List EventValue) → LeaveSameKeys s old new → LeaveSameKeys s (map (event_below n) old) (map (event_below n) new)
