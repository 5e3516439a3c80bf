use Rattle.std.proofs.Common.{◌≡◌, List, take, drop, sym, subst, arith}
use Rattle.std.specs.Prelude.{IfOk}
use Rattle.yl_record.specs.Records.{RecordValue}
use Rattle.yl_sections.specs.Sections.{sections}
use Rattle.yl_rejudge.specs.Places.{changed_sections}
use Rattle.yl_rejudge.proofs.SectionsEdited.{changed_none}
use Rattle.yl_section_pieces.specs.Sections.{AreKeptSections}
use Rattle.yl_piece_list.proofs.NextPiece.{apart_changed, first_changed}
use Rattle.yl_piece_list.proofs.cutting.judge_changed.Goals as goal
use Rattle.yl_piece_list.proofs.cutting.judge_changed.Goals.{else-first-gt0-via-then-first-gt0+else-first-z, else-first-gt0-via-else-first-gt0}

pub returns-then-first-z-clause-documents : goal.returns-then-first-z-clause-documents
returns-then-first-z-clause-documents g c = omega (arith, changed_none c.args.first.section c.args.first.row c.args.z c.args.records.now c.if-first-z.true)

pub returns-else-first-gt0-clause-kept : goal.returns-else-first-gt0-clause-kept
returns-else-first-gt0-clause-kept g c =
    let same : changed_sections c.args.first.section c.args.first.row c.args.z c.args.records.now ≡ sections (drop c.args.first.row (take c.args.z c.args.records.now)) = elim c.else-first-gt0.branch [
      | else-first-gt0-via-then-first-gt0+else-first-z w ↦ apart_changed c.args.first.section c.args.first.row c.args.z c.args.records.now w.if-first-z.false
      | else-first-gt0-via-else-first-gt0 w ↦ first_changed c.args.first.section c.args.first.row c.args.z c.args.records.now (omega (arith, w.if-first-gt0.false))
    ] in
    subst (λ (ss : List (List RecordValue)). IfOk c.judge_between.result (λ ps. AreKeptSections c.args.config.now ss ps.items)) (sym same) c.judge_between.ensures.kept
