-- An edit within one piece of a section: the other pieces stay, and what is kept of the new rows is told of them alone.
use Rattle.std.proofs.Common.{◌≡◌, List, [], ◌∷◌, ◌++◌, Some, refl, sym, subst}
use Rattle.std.specs.List.{AllByRecursion}
use Rattle.std.proofs.lemmas.List.{map-append}
use Rattle.yl_config.specs.declared.config.Config.{Config}
use Rattle.yl_record.specs.Records.{RecordValue}
use Rattle.yl_sections.specs.Judge.{kept_of_section}
use Rattle.yl_sections.specs.Kept.{KeptValue}
use Rattle.yl_pieces.specs.State.{DocumentState}
use Rattle.yl_pieces.specs.Edit.{after_front}
use Rattle.yl_piece_reports.specs.Cuts.{IsInPieces}
use Rattle.yl_piece_reports.specs.Plain.{StandsWithin}
use Rattle.yl_section_pieces.specs.Pieces.{ArePiecesOf, IsKeptInPieces, IsStateAfter, PieceValue, summaries}
use Rattle.yl_section_pieces.specs.Edit.{IsEditAlone, IsPieceAt, PieceIsEdited, kept_alone}
use Rattle.yl_section_pieces.proofs.PieceRuns.{ArePiecesAbove, first_piece, pieces_above, pieces_below, pieces_within, with_first}
use Rattle.yl_section_pieces.proofs.CutNow.{cut_now}
use Rattle.yl_section_pieces.proofs.RunFound.{new_within}

summaries_both : (above : List PieceValue) (p : PieceValue) (below : List PieceValue)
    → summaries (above ++ (p ∷ below)) ≡ summaries above ++ (p.kept ∷ summaries below)
summaries_both above p below = map-append (λ (q : PieceValue). q.kept) above (p ∷ below)

module _ (config : Config) (front old new rest : List RecordValue) (above below : List PieceValue) (k : KeptValue) (s : DocumentState)
    (at : IsPieceAt config front old rest above (record { kept = k; before = Some s }) below) (e : IsEditAlone config front old new k) where
  abbrev was_piece : PieceValue
  was_piece = record { kept = k; before = Some s }

  abbrev now_kept : KeptValue
  now_kept = kept_alone config (after_front front) front new

  abbrev now_piece : PieceValue
  now_piece = record { kept = now_kept; before = Some s }

  runs : ArePiecesAbove [] front (old ++ rest) above (was_piece ∷ below)
  runs = pieces_above [] front (old ++ rest) above (was_piece ∷ below) at.rows_above at.kept.pieces

  state_before : IsStateAfter front s
  state_before = runs.others.0.before.0

  cut_was : IsInPieces (kept_of_section config (front ++ (old ++ rest))) (summaries above ++ (k ∷ summaries below))
  cut_was =
      subst (λ (ps : List KeptValue). IsInPieces (kept_of_section config (front ++ (old ++ rest))) ps)
      (summaries_both above was_piece below) at.kept.cut

  all_within : AllByRecursion StandsWithin (summaries above ++ (k ∷ summaries below))
  all_within =
      subst (λ (ps : List KeptValue). AllByRecursion StandsWithin ps) (summaries_both above was_piece below)
      (pieces_within [] (front ++ (old ++ rest)) (above ++ (was_piece ∷ below)) at.kept.pieces)

  cut_then : IsInPieces (kept_of_section config (front ++ (new ++ rest))) (summaries (above ++ (now_piece ∷ below)))
  cut_then =
      subst (λ (ps : List KeptValue). IsInPieces (kept_of_section config (front ++ (new ++ rest))) ps) (sym (summaries_both above now_piece below))
      (cut_now config front old new rest k e (summaries above) (summaries below) cut_was all_within at.rows_above at.rows)

  pieces_then : ArePiecesOf [] (front ++ (new ++ rest)) (above ++ (now_piece ∷ below))
  pieces_then =
      runs.replaced (new ++ rest) (now_piece ∷ below)
      (with_first front new rest now_kept s below refl (new_within config front new (after_front front)) state_before e.begins refl
      (pieces_below config front old new e.edit rest below (first_piece front old rest was_piece below at.rows runs.others)))

  edited : IsKeptInPieces config (front ++ (new ++ rest)) (above ++ (record { kept = kept_alone config s front new; before = Some s } ∷ below))
  edited =
      subst (λ (t : DocumentState). IsKeptInPieces config (front ++ (new ++ rest))
      (above ++ (record { kept = kept_alone config t front new; before = Some s } ∷ below)))
      (sym state_before.state) (record { cut = cut_then; pieces = pieces_then })

pub piece_is_edited : PieceIsEdited
piece_is_edited config front old new rest above below k s at e = edited config front old new rest above below k s at e
