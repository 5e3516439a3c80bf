-- Bridge: a law of runs: of the collections that are open before a run no more matters than what counts
-- of them. For the run alone, and for the names that it asks for, their kinds and turns are enough.
use Rattle.std.specs.Prelude.{ℕ, ◌≡◌, List}
use Rattle.yl_text.specs.Finding.{FindingValue}
use Rattle.yl_events.specs.Event.{EventValue}
use Rattle.yl_tree.specs.declared.options.KeyDuplicatesOptions.{KeyDuplicatesOptions}
use Rattle.yl_tree.specs.declared.options.TreeOptions.{TreeOptions}
use Rattle.yl_tree.specs.OpenNodes.{OpenNodes}
use Rattle.yl_open_collections.specs.Counted.{after_events, what_counts}
use Rattle.yl_open_collections.specs.OpenBy.{kinds_and_turns, without_keys}
use Rattle.yl_pieces.specs.KeysOfRuns.{lowest, run_alone}
use Rattle.yl_pieces.specs.References.{NamedReference}
use Rattle.yl_piece_names.specs.SameNames.{LeaveSameKeys}
use Rattle.yl_piece_names.specs.Asked.{DuplicatesAlone, OrderingAlone, asked_names}
use Rattle.yl_piece_names.specs.TreePatched.{AreFoundAlone, NamesStay, tree_findings_after}

pub record KindsAndTurns : Type 0 where
  -- kinds and turns before a run say what counts after the run alone, how low the run goes, and what
  -- it asks for
  pub alone : (s t : OpenNodes) (es : List EventValue) → kinds_and_turns s ≡ kinds_and_turns t → what_counts (run_alone s es) ≡ what_counts (run_alone t es)
  pub low : (s t : OpenNodes) (es : List EventValue) → kinds_and_turns s ≡ kinds_and_turns t → lowest s es ≡ lowest t es
  pub asked : (s t : OpenNodes) (es : List EventValue) → kinds_and_turns s ≡ kinds_and_turns t → asked_names s es ≡ asked_names t es
  -- so they say whether two runs leave the same keys
  pub leave : (s t : OpenNodes) (old new : List EventValue) → kinds_and_turns s ≡ kinds_and_turns t → LeaveSameKeys s old new → LeaveSameKeys t old new
  -- and what is found at the run alone
  pub found : (o : TreeOptions) (s : OpenNodes) (es : List EventValue) (above here below : List NamedReference)
      → tree_findings_after o (without_keys s) es above here below ≡ tree_findings_after o (kinds_and_turns s) es above here below
  -- what counts before a run says whether keys from before it have a part in what is found at it
  pub duplicates : (o : KeyDuplicatesOptions) (s t : OpenNodes) (es : List EventValue) → what_counts s ≡ what_counts t → DuplicatesAlone o s es → DuplicatesAlone o t es
  pub ordering : (s t : OpenNodes) (es : List EventValue) → what_counts s ≡ what_counts t → OrderingAlone s es → OrderingAlone t es
  pub found_alone : (o : TreeOptions) (s t : OpenNodes) (es : List EventValue) → what_counts s ≡ what_counts t → AreFoundAlone o s es → AreFoundAlone o t es
  -- and so whether the names stay
  pub stay : (o : TreeOptions) (s t : OpenNodes) (old new : List EventValue) → what_counts s ≡ what_counts t → NamesStay o s old new → NamesStay o t old new
