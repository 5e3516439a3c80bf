use Rattle.std.proofs.Common.{◌≡◌, ◌+◌, ◌-◌, ◌<◌, ◌≤◌, ◌↔◌, ℕ, Bool, true, false, IsTrue, List, take, arith, ap, ◌∙◌, sym, subst, inl, inr}
use Rattle.std.proofs.lemmas.Bool.{cases_lt}
use Rattle.yl_record.specs.Records.{RecordValue}
use Rattle.yl_sections.specs.Local.{is_start_at}
use Rattle.yl_sections.specs.Kept.{rows_kept}
use Rattle.yl_sections.proofs.KeptRows.{not_back}
use Rattle.yl_section_pieces.specs.Pieces.{PieceValue, summaries}
use Rattle.yl_section_pieces.specs.Sections.{IsSectionBorder}
use Rattle.yl_piece_list.proofs.places.front_of.Goals as goal

one_back : (ps : List PieceValue) (s row n : ℕ) → 0 < s → row ≡ rows_kept (take s (summaries ps))
    → rows_kept (take (s - 1 + 1) (summaries ps)) ≡ rows_kept (take (s - 1) (summaries ps)) + n → (n ≤ row) × (row - n ≡ rows_kept (take (s - 1) (summaries ps)))
one_back ps s row n l at more =
    let k : s - 1 + 1 ≡ s = omega (arith, l) in
    let e = ap (λ i. rows_kept (take i (summaries ps))) k in
    (omega (arith, e, more, at), omega (arith, e, more, at))

passed_more : (ps : List PieceValue) (new : List RecordValue) (s top row : ℕ) (b : Bool) → 0 < s → row ≡ rows_kept (take s (summaries ps)) → b ≡ false
    → IsTrue b ↔ IsSectionBorder ps s × (is_start_at new row ≡ true)
    → ((j : ℕ) → s < j → j ≤ top → IsSectionBorder ps j → is_start_at new (rows_kept (take j (summaries ps))) ≡ false)
    → (j : ℕ) → s - 1 < j → j ≤ top → IsSectionBorder ps j → is_start_at new (rows_kept (take j (summaries ps))) ≡ false
passed_more ps new s top row b some at is_not test passed j l o h = elim (cases_lt s j) [
  | inl m ↦ passed j m o h
  | inr m ↦
      let e : s ≡ j = omega (arith, m, l, some) in
      let here : is_start_at new row ≡ false = not_back (IsSectionBorder ps s) b (is_start_at new row) test is_not (subst (λ i. IsSectionBorder ps i) (sym e) h) in
      ap (λ i. is_start_at new (rows_kept (take i (summaries ps)))) (sym e) ∙ (ap (λ n. is_start_at new n) (sym at) ∙ here)
]

pub overflow_sub-row : goal.overflow_sub-row
overflow_sub-row g c = (one_back c.args.pieces.now c.loop-section.section c.loop-section.row c.rows-row.result c.loop-section-test.true c.loop-section.invariant.at c.rows-row.ensures).0

pub loop-section-preserved : goal.loop-section-preserved
loop-section-preserved g c =
    let b = one_back c.args.pieces.now c.loop-section.section c.loop-section.row c.rows-row.result c.loop-section-test.true c.loop-section.invariant.at c.rows-row.ensures in
    record {
      section = omega (arith, c.loop-section.invariant.section);
      at = b.1;
      row = omega (arith, c.loop-section.invariant.row);
      passed = passed_more c.args.pieces.now c.args.records.now c.loop-section.section c.args.from.section c.loop-section.row c.is_front.result c.loop-section-test.true c.loop-section.invariant.at
          c.if-not-is_front.true c.is_front.ensures c.loop-section.invariant.passed;
    }
