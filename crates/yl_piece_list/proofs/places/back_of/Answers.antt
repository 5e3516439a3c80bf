use Rattle.std.proofs.Common.{◌≡◌, ◌+◌, ◌-◌, ◌≤◌, ◌↔◌, ℕ, Bool, true, false, IsTrue, List, take, arith, ap, ◌∙◌}
use Rattle.yl_record.specs.Records.{RecordValue}
use Rattle.yl_sections.specs.Local.{is_start_at}
use Rattle.yl_sections.specs.Kept.{rows_kept}
use Rattle.yl_sections.proofs.KeptRows.{not_back, rows_front, passed_on}
use Rattle.yl_section_pieces.specs.Pieces.{PieceValue, summaries}
use Rattle.yl_section_pieces.specs.Sections.{IsSectionBorder}
use Rattle.yl_piece_list.proofs.places.back_of.Goals as goal

here : (ps : List PieceValue) (new : List RecordValue) (s row old_end end : ℕ) (b : Bool) → row ≡ rows_kept (take s (summaries ps)) → b ≡ false
    → IsTrue b ↔ IsSectionBorder ps s × ((old_end ≤ row) × (is_start_at new (row - old_end + end) ≡ true))
    → IsSectionBorder ps s × (old_end ≤ rows_kept (take s (summaries ps))) → is_start_at new (rows_kept (take s (summaries ps)) - old_end + end) ≡ false
here ps new s row old_end end b at is_not test h =
    let same : rows_kept (take s (summaries ps)) - old_end + end ≡ row - old_end + end = omega (arith, at) in
    ap (λ n. is_start_at new n) same
    ∙ not_back (IsSectionBorder ps s × (old_end ≤ row)) b (is_start_at new (row - old_end + end)) ((λ t. let r = test.0 t in ((r.0, r.1.0), r.1.1)), (λ w. test.1 (w.0.0, (w.0.1, w.1)))) is_not (h.0, omega (arith, at, h.1))

pub is_back-requires-clause-few : goal.is_back-requires-clause-few
is_back-requires-clause-few g c = omega (arith, c.requires.few, c.loop-section.invariant.at, rows_front (summaries c.args.pieces.now) c.loop-section.section)

pub overflow_add-row : goal.overflow_add-row
overflow_add-row g c =
    record { fits = omega (arith, c.requires.few, c.rows-row.ensures, c.loop-section.invariant.at, rows_front (summaries c.args.pieces.now) (c.loop-section.section + 1)) }

pub loop-section-preserved : goal.loop-section-preserved
loop-section-preserved g c =
    let ps = c.args.pieces.now in
    record {
      from = omega (arith, c.loop-section.invariant.from);
      within = omega (arith, c.loop-section-test.true, c.len-count.ensures);
      at = omega (arith, c.rows-row.ensures, c.loop-section.invariant.at);
      passed = passed_on (λ j. IsSectionBorder ps j × (c.args.old_end ≤ rows_kept (take j (summaries ps)))) (λ j. is_start_at c.args.records.now (rows_kept (take j (summaries ps)) - c.args.old_end + c.args.end))
          c.loop-section.section c.args.from.section
          (here ps c.args.records.now c.loop-section.section c.loop-section.row c.args.old_end c.args.end c.is_back.result c.loop-section.invariant.at c.if-not-is_back.true c.is_back.ensures)
          c.loop-section.invariant.passed;
    }
