-- What the rules on keys find at new rows by themselves.
use Rattle.std.proofs.Common.{◌≡◌, ◌≤◌, ◌<◌, ◌+◌, ℕ, List, [], length, ◌∙◌, ap, arith}
use Rattle.std.specs.List.{AllByRecursion}
use Rattle.yl_text.specs.Finding.{FindingValue}
use Rattle.yl_text.proofs.Every.{all_map}
use Rattle.yl_tree.specs.declared.options.TreeOptions.{TreeOptions}
use Rattle.yl_tree.specs.OpenNodes.{OpenNodes}
use Rattle.yl_open_collections.specs.OpenBy.{kinds_and_turns, without_keys}
use Rattle.yl_config.specs.declared.config.Config.{Config}
use Rattle.yl_record.specs.Records.{RecordValue}
use Rattle.yl_sections.specs.Kept.{tree_options_of}
use Rattle.yl_pieces.specs.State.{DocumentState}
use Rattle.yl_pieces.specs.Edit.{after_front}
use Rattle.yl_pieces.specs.References.{NamedReference}
use Rattle.yl_piece_names.specs.Moved.{IsIn}
use Rattle.yl_piece_names.specs.RowsPatched.{events_alone, open_behind, references_in, row_findings}
use Rattle.yl_piece_names.specs.TreePatched.{tree_findings_after}
use Rattle.yl_piece_names.proofs.KindsAndTurns.{kinds_and_turns_suffice}
use Rattle.yl_piece_names.proofs.RowsEvents.{events_stand, named_in}
use Rattle.yl_piece_reports.specs.Plain.{IsWithin, StandsWithin}
use Rattle.yl_piece_reports.specs.Told.{finding_above}
use Rattle.yl_piece_reports.proofs.PiecesWithin.{pieces_stand_within}
use Rattle.yl_section_pieces.specs.Edit.{found_alone, kept_alone}
use Rattle.yl_section_pieces.proofs.KeysStand.{none_between, tree_holds}

module _ (config : Config) (front new : List RecordValue) where
  abbrev o : TreeOptions
  o = tree_options_of config

  abbrev s : OpenNodes
  s = open_behind front

  -- told from line 1 on
  abbrev pub run_found : List FindingValue
  run_found = tree_findings_after o (kinds_and_turns s) (events_alone front new) [] [] []

  abbrev pub IsNext : FindingValue → Type 0
  IsNext f = (1 < f.line) × (f.line ≤ 1 + length new)

  pub run_stands : AllByRecursion IsNext run_found
  run_stands =
      tree_holds IsNext (λ (line : ℕ). (1 ≤ line) × (line < 1 + length new))
      (λ line column message h. (omega (arith, h.0), omega (arith, h.1)))
      (λ line column message h. (omega (arith, h.0), omega (arith, h.1)))
      (kinds_and_turns s) (events_alone front new)
      (named_in (IsIn 1 (length new)) (IsIn 1 (length new)) (events_alone front new) (λ place h. h) (events_stand (after_front front) 1 new))
      o

  alone_within : AllByRecursion (IsWithin (length new)) (found_alone config front new)
  alone_within = all_map (IsWithin (length new)) IsNext (finding_above 1) run_found (λ f h. up f h) run_stands
    where
      up : (f : FindingValue) → IsNext f → IsWithin (length new) (finding_above 1 f)
      up f h = (omega (arith, h.0), omega (arith, h.1))

  pub new_within : (t : DocumentState) → StandsWithin (kept_alone config t front new)
  new_within t = pieces_stand_within.piece config (record { first = 0; line = 1; state = t }) new (found_alone config front new) alone_within

  -- it is what the rules on keys and anchors find at the new rows
  pub row_findings_are : (old rest : List RecordValue) → references_in 1 new ≡ [] → row_findings config front old new rest ≡ run_found
  row_findings_are old rest none =
      ap (λ (rs : List NamedReference). tree_findings_after o (without_keys s) (events_alone front new) (references_in 0 front) rs
      (references_in (length front + length old) rest)) none
      ∙ (none_between o (without_keys s) (events_alone front new) (references_in 0 front) (references_in (length front + length old) rest)
      ∙ kinds_and_turns_suffice.found o s (events_alone front new) [] [] [])
