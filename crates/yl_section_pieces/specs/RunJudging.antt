-- Bridge: a run of rows that is judged by itself, from the state before it and from what goals say there of the open collections.
use Rattle.std.specs.Prelude.{◌≡◌, ◌++◌, true, false, List, [], map, None}
use Rattle.std.specs.List.{list_any}
use Rattle.yl_text.specs.Finding.{FindingValue}
use Rattle.yl_events.specs.Event.{EventValue}
use Rattle.yl_tree.specs.declared.options.TreeOptions.{TreeOptions}
use Rattle.yl_tree.specs.OpenNodes.{OpenNodes}
use Rattle.yl_tree.specs.References.{is_reference}
use Rattle.yl_tree.specs.TreeRules.{Finds}
use Rattle.yl_open_collections.specs.OpenBy.{kinds_and_turns}
use Rattle.yl_config.specs.declared.config.Config.{Config}
use Rattle.yl_record.specs.Records.{RecordValue}
use Rattle.yl_sections.specs.Kept.{KeptValue, tree_options_of}
use Rattle.yl_pieces.specs.State.{DocumentState}
use Rattle.yl_pieces.specs.Told.{fault_in, is_border, state_after}
use Rattle.yl_pieces.specs.Events.{events_in}
use Rattle.yl_pieces.specs.Piece.{JudgesRows}
use Rattle.yl_piece_names.specs.declared.opening.Opening.{Opening}
use Rattle.yl_piece_names.specs.KeptNames.{names_of_run}
use Rattle.yl_piece_names.specs.OpeningEvents.{opened_by}
use Rattle.yl_piece_names.specs.TreePatched.{tree_findings_after}
use Rattle.yl_piece_reports.specs.Told.{finding_above, kept_of_piece}
use Rattle.yl_section_pieces.specs.declared.run_judge.RunJudge.{RunJudge}

-- what the rules on keys find at a run of events by itself, which has no anchors and aliases
abbrev pub found_by : TreeOptions → List Opening → List EventValue → List FindingValue
found_by o openings es = tree_findings_after o (opened_by openings) es [] [] []

-- these rows were judged, and have no fault
pub record JudgesRun {A : Type 0} (config : Config) (o : TreeOptions) (s : DocumentState) (openings : List Opening) (rs : List RecordValue) (j : RunJudge A) : Type 0 where
  pub rows : JudgesRows config s rs j.rows
  pub sound : fault_in s 1 rs ≡ None
  pub names : (t : OpenNodes) → kinds_and_turns t ≡ opened_by openings → j.names ≡ names_of_run t (events_in s 1 rs)
  pub found : (es : List EventValue) → list_any is_reference (events_in s 1 rs ++ es) ≡ false → Finds j.rules es (found_by o openings (events_in s 1 rs ++ es))

-- after two runs of rows from the same state the state is the same, and a piece may begin; of both the same names are kept, and no event
-- of the latter is an alias
pub record EndAlike {A : Type 0} (s : DocumentState) (old new : List RecordValue) (one other : RunJudge A) : Type 0 where
  pub state : state_after s 1 old ≡ state_after s 1 new
  pub border : is_border (state_after s 1 old) ≡ true
  pub names : one.names ≡ other.names
  pub none : other.names.has_references ≡ false

-- what is kept of the rows
abbrev pub kept_of_run : Config → DocumentState → List Opening → List RecordValue → KeptValue
kept_of_run config s openings rs =
    kept_of_piece config (record { first = 0; line = 1; state = s }) rs (map (finding_above 1) (found_by (tree_options_of config) openings (events_in s 1 rs)))
