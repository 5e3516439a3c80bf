-- Bridge: a law of an edit of rows: what the rules on keys and anchors find in a section now, by what they
-- found before and what they find at the new rows alone.
use Rattle.std.specs.Prelude.{ℕ, ◌≡◌, ◌+◌, ◌-◌, List, ◌∷◌, ◌++◌, map, length, None, IsPermutation}
use Rattle.std.specs.List.{AllByRecursion, flat_map}
use Rattle.yl_text.specs.Finding.{FindingValue}
use Rattle.yl_events.specs.Event.{EventValue}
use Rattle.yl_lexeme_rules.specs.LexemesAlike.{finding_below}
use Rattle.yl_tree.specs.declared.options.TreeOptions.{TreeOptions}
use Rattle.yl_tree.specs.OpenNodes.{OpenNodes}
use Rattle.yl_config.specs.declared.config.Config.{Config}
use Rattle.yl_record.specs.Records.{RecordValue}
use Rattle.yl_sections.specs.Judge.{document_of}
use Rattle.yl_sections.specs.Kept.{event_findings, tree_options_of}
use Rattle.yl_sections.specs.Sections.{lexemes_from, lexemes_of}
use Rattle.yl_pieces.specs.State.{start_state}
use Rattle.yl_pieces.specs.Told.{state_after}
use Rattle.yl_pieces.specs.References.{NamedReference, reference_of_lexeme}
use Rattle.yl_open_collections.specs.OpenBy.{without_keys}
use Rattle.yl_pieces.specs.Edit.{IsPieceEdit, after_front, after_next}
use Rattle.yl_pieces.specs.Events.{end_events, events_in, start_event}
use Rattle.yl_pieces.specs.Patched.{finding_moved, list_patched, row_of}
use Rattle.yl_piece_names.specs.SameNames.{LeaveSameKeys}
use Rattle.yl_piece_names.specs.Asked.{HasPlace, asked_names}
use Rattle.yl_piece_names.specs.AnchorsPatched.{ReferenceParts, ReferencesEdit, placeless}
use Rattle.yl_piece_names.specs.TreePatched.{AreFoundAlone, EventParts, EventsEdit, IsFoundBelow, open_after, tree_findings_after}

-- ---- rows

-- the anchors and aliases of rows, the first of which is at this line
abbrev pub references_in : ℕ → List RecordValue → List NamedReference
references_in line rs = flat_map reference_of_lexeme (lexemes_from line rs)

-- the events of the document of these rows
abbrev pub events_of_rows : List RecordValue → List EventValue
events_of_rows rs = (document_of (lexemes_of rs)).events

-- the open collections behind the first rows of a section
abbrev pub open_behind : List RecordValue → OpenNodes
open_behind front = open_after (start_event ∷ events_in start_state 0 front)

-- the events of the rows that come next
abbrev pub events_behind : (front rows : List RecordValue) → List EventValue
events_behind front rows = events_in (after_front front) (length front) rows

-- the same, told from line 1 on
abbrev pub events_alone : (front rows : List RecordValue) → List EventValue
events_alone front rows = events_in (after_front front) 1 rows

-- ---- an edit: after the rows `front` of a section the rows `new` come in place of `old`

abbrev pub event_parts : (front old new rest : List RecordValue) → EventParts
event_parts front old new rest = record {
  above = start_event ∷ events_in start_state 0 front;
  went = events_behind front old;
  came = events_behind front new;
  below = events_in (after_next front old) (length front + length old) rest ++ end_events (state_after start_state 0 (front ++ (old ++ rest)));
}

abbrev pub reference_parts : (front old new rest : List RecordValue) → ReferenceParts
reference_parts front old new rest = record {
  above = references_in 0 front;
  went = references_in (length front) old;
  came = references_in (length front) new;
  below = references_in (length front + length old) rest;
}

-- the anchors and aliases of the new rows have the names of those of the old
abbrev pub HaveSameReferences : (old new : List RecordValue) → Type 0
HaveSameReferences old new = map placeless (references_in 1 old) ≡ map placeless (references_in 1 new)

-- so do their keys, as far as they concern others: both leave the same keys and ask for the same
-- names, of which none was found at the old rows. Lines have no part in it
pub record RowNamesStay (o : TreeOptions) (front old new : List RecordValue) : Type 0 where
  pub references : HaveSameReferences old new
  pub keys : LeaveSameKeys (open_behind front) (events_alone front old) (events_alone front new)
  pub asked : asked_names (open_behind front) (events_alone front old) ≡ asked_names (open_behind front) (events_alone front new)
  pub alone : AreFoundAlone o (open_behind front) (events_alone front old)

-- what is found at the new rows, told from line 1 on: of keys without those from before them
abbrev pub row_findings : Config → (front old new rest : List RecordValue) → List FindingValue
row_findings config front old new rest =
    tree_findings_after (tree_options_of config) (without_keys (open_behind front)) (events_alone front new)
    (references_in 0 front) (references_in 1 new) (references_in (length front + length old) rest)

-- what was found in the section, cut by rows, with what is found at the new rows, is found now
abbrev pub IsFoundNow : Config → (front old new rest : List RecordValue) → Type 0
IsFoundNow config front old new rest =
    IsPermutation (event_findings config (events_of_rows (front ++ (new ++ rest))))
    (list_patched row_of (finding_moved (length old) (length new)) (length front) (length old) (event_findings config (events_of_rows (front ++ (old ++ rest))))
    (map (finding_below (length front - 1)) (row_findings config front old new rest)))

-- ---- the law

pub record AreRowsPatched (config : Config) (front old new rest : List RecordValue) : Type 0 where
  -- the events and the references of the section are those of its rows, cut by the edit
  pub events : EventsEdit (length front) (length old) (length new) (event_parts front old new rest) (events_of_rows (front ++ (old ++ rest))) (events_of_rows (front ++ (new ++ rest)))
  pub references : HaveSameReferences old new
      → ReferencesEdit (length front) (length old) (length new) (reference_parts front old new rest) (events_of_rows (front ++ (old ++ rest))) (events_of_rows (front ++ (new ++ rest)))
  -- the events of rows that have a name have a place
  pub placed : AllByRecursion HasPlace (events_alone front old)
  -- the document has no fault now
  pub sound : (document_of (lexemes_of (front ++ (new ++ rest)))).fault ≡ None
  -- what was found is found, that below the rows moved, with what is found at the new rows alone: if
  -- the rules find the same below, and keys from before have no part at the new rows
  pub found : HaveSameReferences old new → IsFoundBelow (tree_options_of config) (event_parts front old new rest)
      → AreFoundAlone (tree_options_of config) (open_behind front) (events_alone front new) → IsFoundNow config front old new rest
  -- so it is where the names stay
  pub names : RowNamesStay (tree_options_of config) front old new → IsFoundNow config front old new rest

-- the document had no fault
abbrev pub RowsArePatched : Type 0
RowsArePatched = (config : Config) (front old new rest : List RecordValue)
    → IsPieceEdit front old new → (document_of (lexemes_of (front ++ (old ++ rest)))).fault ≡ None → AreRowsPatched config front old new rest
