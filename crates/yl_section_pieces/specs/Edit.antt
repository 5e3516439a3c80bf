-- Bridge: a law of an edit within one piece of a section: where the state after its rows stays, and the names that other pieces ask for, the
-- other pieces stay, and what is kept of the new rows is told of them alone.
use Rattle.std.specs.Prelude.{◌≡◌, ◌++◌, ◌∷◌, Bool, true, false, [], List, length, map, Some, None}
use Rattle.std.specs.List.{AllByRecursion}
use Rattle.yl_text.specs.declared.finding.RuleId.{RuleId}
use Rattle.yl_text.specs.declared.finding.RuleId.TheVariants.{Anchors, KeyDuplicates, KeyOrdering}
use Rattle.yl_text.specs.Finding.{FindingValue}
use Rattle.yl_config.specs.declared.config.Config.{Config}
use Rattle.yl_record.specs.Records.{RecordValue}
use Rattle.yl_open_collections.specs.OpenBy.{kinds_and_turns}
use Rattle.yl_sections.specs.Kept.{KeptValue, rows_kept, tree_options_of}
use Rattle.yl_pieces.specs.State.{DocumentState}
use Rattle.yl_pieces.specs.Edit.{IsPieceEdit}
use Rattle.yl_piece_names.specs.KeptNames.{names_of_run}
use Rattle.yl_piece_names.specs.RowsPatched.{events_alone, open_behind, references_in}
use Rattle.yl_piece_names.specs.TreePatched.{tree_findings_after}
use Rattle.yl_piece_reports.specs.Told.{finding_above, kept_of_piece}
use Rattle.yl_section_pieces.specs.Pieces.{BeginsWithLexeme, IsKeptInPieces, PieceValue, summaries}

-- ---- where the edit is

-- of the section of the rows front ++ (old ++ rest), p is the piece of the rows `old`, after the pieces `above` and before the pieces `below`
pub record IsPieceAt (config : Config) (front old rest : List RecordValue) (above : List PieceValue) (p : PieceValue) (below : List PieceValue) : Type 0 where
  pub kept : IsKeptInPieces config (front ++ (old ++ rest)) (above ++ (p ∷ below))
  pub rows_above : rows_kept (summaries above) ≡ length front
  pub rows : p.kept.rows ≡ length old

-- ---- what the new rows are

-- no scan fault begins in the rows
abbrev pub AreSound : List RecordValue → Type 0
AreSound rs = AllByRecursion (λ r. r.entry.fault ≡ None) rs

-- a rule on keys and anchors
abbrev pub is_on_events : RuleId → Bool
is_on_events KeyDuplicates = true
is_on_events KeyOrdering = true
is_on_events Anchors = true
is_on_events _ = false

-- nothing was found by the rules on keys and anchors
abbrev pub HasNoneOnEvents : KeptValue → Type 0
HasNoneOnEvents k = AllByRecursion (λ f. is_on_events f.rule ≡ false) k.found

-- what the rules on keys find at the new rows by themselves, whose lines count from 1
abbrev pub found_alone : Config → (front new : List RecordValue) → List FindingValue
found_alone config front new =
    map (finding_above 1) (tree_findings_after (tree_options_of config) (kinds_and_turns (open_behind front)) (events_alone front new) [] [] [])

-- what is kept of the new rows, told from the state s before them
abbrev pub kept_alone : Config → DocumentState → (front new : List RecordValue) → KeptValue
kept_alone config s front new = kept_of_piece config (record { first = 0; line = 1; state = s }) new (found_alone config front new)

-- after the rows `front` the rows `new` come in place of `old`, of which k is kept, and nothing changes but the piece of these rows
pub record IsEditAlone (config : Config) (front old new : List RecordValue) (k : KeptValue) : Type 0 where
  pub edit : IsPieceEdit front old new
  pub begins : BeginsWithLexeme new
  pub sound : AreSound new
  pub none : HasNoneOnEvents k
  pub old_references : references_in 1 old ≡ []
  pub new_references : references_in 1 new ≡ []
  pub names : names_of_run (open_behind front) (events_alone front old) ≡ names_of_run (open_behind front) (events_alone front new)

-- ---- the law

abbrev pub PieceIsEdited : Type 0
PieceIsEdited = (config : Config) (front old new rest : List RecordValue) (above below : List PieceValue) (k : KeptValue) (s : DocumentState)
    → IsPieceAt config front old rest above (record { kept = k; before = Some s }) below → IsEditAlone config front old new k
    → IsKeptInPieces config (front ++ (new ++ rest)) (above ++ (record { kept = kept_alone config s front new; before = Some s } ∷ below))
