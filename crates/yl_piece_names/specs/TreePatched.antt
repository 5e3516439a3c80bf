-- Bridge: a law of all rules on keys and anchors: rows of a document in place of others, and when nothing
-- else changes.
use Rattle.std.specs.Prelude.{ℕ, true, ◌≡◌, ◌+◌, if◌then◌else◌, List, [], ◌++◌, map, IfSome, IsPermutation}
use Rattle.std.specs.List.{AllByRecursion}
use Rattle.std.specs.Option.{option_map_or}
use Rattle.yl_text.specs.Finding.{FindingValue}
use Rattle.yl_events.specs.Event.{EventValue}
use Rattle.yl_lexeme_rules.specs.LexemesAlike.{finding_below}
use Rattle.yl_tree.specs.declared.options.KeyDuplicatesOptions.{KeyDuplicatesOptions}
use Rattle.yl_tree.specs.declared.options.TreeOptions.{TreeOptions}
use Rattle.yl_tree.specs.KeyRules.{key_duplicates, key_ordering}
use Rattle.yl_tree.specs.OpenNodes.{OpenNodes, collections_behind}
use Rattle.yl_tree.specs.Tree.{tree_findings}
use Rattle.yl_open_collections.specs.Counted.{after_events}
use Rattle.yl_open_collections.specs.OpenBy.{without_keys}
use Rattle.yl_pieces.specs.DuplicatesOfRuns.{duplicates_after, event_below}
use Rattle.yl_pieces.specs.OrderingOfRuns.{ordering_after}
use Rattle.yl_pieces.specs.References.{NamedReference}
use Rattle.yl_pieces.specs.Events.{without_anchor}
use Rattle.yl_pieces.specs.Patched.{finding_moved, list_patched, row_of}
use Rattle.yl_piece_names.specs.Moved.{IfNamed, IsAbove, IsFrom, IsIn, event_moved, reference_below}
use Rattle.yl_piece_names.specs.SameNames.{LeaveSameKeys}
use Rattle.yl_piece_names.specs.Asked.{HasPlace, asked_names}
use Rattle.yl_piece_names.specs.AnchorsPatched.{ReferenceParts, ReferencesEdit, anchors_between}

-- ---- what is found at a run

-- rule by rule, where these collections are open before the run; the rule anchors, at references that
-- have others above and below them
abbrev pub tree_findings_after : TreeOptions → OpenNodes → List EventValue → (above here below : List NamedReference) → List FindingValue
tree_findings_after o s es above here below =
    option_map_or (λ d. duplicates_after d s es) o.key_duplicates []
    ++ ((if o.key_ordering then ordering_after s es else []) ++ option_map_or (λ a. anchors_between a above here below) o.anchors [])

-- ---- an edit

-- the events of a document before and after an edit: those of the rows above those that it changes,
-- those of the rows that went, those of the rows that came, those of the rows below
pub record EventParts : Type 0 where
  pub above : List EventValue
  pub went : List EventValue
  pub came : List EventValue
  pub below : List EventValue

-- a document had the events `was`, and has the events `now`, which are these without their anchors:
-- after the first `rows` rows so many new ones came in place of so many old ones
pub record EventsEdit (rows old new : ℕ) (p : EventParts) (was now : List EventValue) : Type 0 where
  pub was_is : map without_anchor was ≡ p.above ++ (p.went ++ p.below)
  pub now_is : map without_anchor now ≡ p.above ++ (p.came ++ map (event_moved old new) p.below)
  pub stand_above : AllByRecursion (IfNamed (IsAbove rows)) p.above
  pub stand_in : AllByRecursion (IfNamed (IsIn rows old)) p.went
  pub stand_below : AllByRecursion (IfNamed (IsFrom (rows + old))) p.below

-- the open collections after the first events of a document
abbrev pub open_after : List EventValue → OpenNodes
open_after es = after_events (collections_behind []) es

-- the rules on keys, as far as they are on, find the same at the run, where these collections are open
-- before it or those
pub record AreFoundAlike (o : TreeOptions) (s t : OpenNodes) (es : List EventValue) : Type 0 where
  pub duplicates : IfSome o.key_duplicates (λ d. duplicates_after d s es ≡ duplicates_after d t es)
  pub ordering : o.key_ordering ≡ true → ordering_after s es ≡ ordering_after t es

-- keys from before the run have no part in it
abbrev pub AreFoundAlone : TreeOptions → OpenNodes → List EventValue → Type 0
AreFoundAlone o s es = AreFoundAlike o s (without_keys s) es

-- the rules find the same below the rows, by the keys behind the old ones or behind the new
abbrev pub IsFoundBelow : TreeOptions → EventParts → Type 0
IsFoundBelow o p = AreFoundAlike o (after_events (open_after p.above) p.went) (after_events (open_after p.above) p.came) p.below

-- both runs leave the same keys and ask for the same names, of which none was found at the old run
pub record NamesStay (o : TreeOptions) (s : OpenNodes) (old new : List EventValue) : Type 0 where
  pub keys : LeaveSameKeys s old new
  pub asked : asked_names s old ≡ asked_names s new
  pub placed : AllByRecursion HasPlace old
  pub alone : AreFoundAlone o s old

-- ---- the law

pub record TreeIsPatched : Type 0 where
  -- each of the rules on keys finds what it found above and below the rows, the latter moved, with what
  -- it finds at the new run, if it finds the same below them
  pub duplicates : (d : KeyDuplicatesOptions) (rows old new : ℕ) (p : EventParts) (was now : List EventValue) → EventsEdit rows old new p was now
      → duplicates_after d (after_events (open_after p.above) p.went) p.below ≡ duplicates_after d (after_events (open_after p.above) p.came) p.below
      → key_duplicates d now ≡ list_patched row_of (finding_moved old new) rows old (key_duplicates d was) (duplicates_after d (open_after p.above) p.came)
  pub ordering : (rows old new : ℕ) (p : EventParts) (was now : List EventValue) → EventsEdit rows old new p was now
      → ordering_after (after_events (open_after p.above) p.went) p.below ≡ ordering_after (after_events (open_after p.above) p.came) p.below
      → key_ordering now ≡ list_patched row_of (finding_moved old new) rows old (key_ordering was) (ordering_after (open_after p.above) p.came)
  -- so do all rules together, in another order
  pub all : (o : TreeOptions) (rows old new : ℕ) (p : EventParts) (r : ReferenceParts) (was now : List EventValue)
      → EventsEdit rows old new p was now → ReferencesEdit rows old new r was now → IsFoundBelow o p
      → IsPermutation (tree_findings o now)
      (list_patched row_of (finding_moved old new) rows old (tree_findings o was) (tree_findings_after o (open_after p.above) p.came r.above r.came r.below))
  -- they find the same below where the same keys are left
  pub same : (o : TreeOptions) (s : OpenNodes) (old new rest : List EventValue) → LeaveSameKeys s old new → AreFoundAlike o (after_events s old) (after_events s new) rest
  -- where the names stay, keys from before have no part at the new run
  pub stay : (o : TreeOptions) (s : OpenNodes) (old new : List EventValue) → NamesStay o s old new → AreFoundAlone o s new
  -- so the new run is judged alone
  pub alone : (o : TreeOptions) (rows old new : ℕ) (p : EventParts) (r : ReferenceParts) (was now : List EventValue)
      → EventsEdit rows old new p was now → ReferencesEdit rows old new r was now → NamesStay o (open_after p.above) p.went p.came
      → IsPermutation (tree_findings o now)
      (list_patched row_of (finding_moved old new) rows old (tree_findings o was) (tree_findings_after o (without_keys (open_after p.above)) p.came r.above r.came r.below))
  -- a run that stands further down is found alone too, and what is found at it is so many lines below
  pub below : (o : TreeOptions) (n : ℕ) (s : OpenNodes) (es : List EventValue) (above here rest : List NamedReference)
      → tree_findings_after o s (map (event_below n) es) above (map (reference_below n) here) rest ≡ map (finding_below n) (tree_findings_after o s es above here rest)
  pub alone_below : (o : TreeOptions) (n : ℕ) (s : OpenNodes) (es : List EventValue) → AreFoundAlone o s es → AreFoundAlone o s (map (event_below n) es)
