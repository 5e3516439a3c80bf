use Rattle.std.proofs.Common.{◌≡◌, ◌+◌, ◌-◌, ◌<◌, ◌≤◌, ℕ, false, List, length, take, get_or, arith, ap, ◌∙◌, sym}
use Rattle.yl_sections.specs.Local.{is_start_at}
use Rattle.yl_sections.specs.Kept.{KeptValue, rows_kept}
use Rattle.yl_sections.proofs.KeptRows.{got, rows_more, passed_back}
use Rattle.yl_rejudge.proofs.places.front_of.Goals as goal

-- one section back
back : (js : List KeptValue) (s row n : ℕ) (j : KeptValue) → 0 < s → s ≤ length js → j ≡ get_or js (s - 1) j → n ≡ j.rows → row ≡ rows_kept (take s js) → (n ≤ row) × (row - n ≡ rows_kept (take (s - 1) js))
back js s row n j l m at is whole =
    let k : s - 1 + 1 ≡ s = omega (arith, l) in
    let sum : rows_kept (take s js) ≡ rows_kept (take (s - 1) js) + j.rows = ap (λ i. rows_kept (take i js)) (sym k) ∙ rows_more js (s - 1) j (omega (arith, l, m)) at in
    (omega (arith, sum, is, whole), omega (arith, sum, is, whole))

pub overflow_sub-row : goal.overflow_sub-row
overflow_sub-row g c =
    (back c.args.kept.now.items c.loop-section.section c.loop-section.row c.rows.result c.get.result.now c.loop-section-test.true (omega (arith, c.loop-section.invariant.section, c.requires.section)) (got c.args.kept.now.items (c.loop-section.section - 1) c.get.result.now c.get.ensures) c.rows.ensures c.loop-section.invariant.at).0

pub loop-section-preserved : goal.loop-section-preserved
loop-section-preserved g c =
    let js = c.args.kept.now.items in
    let b = back js c.loop-section.section c.loop-section.row c.rows.result c.get.result.now c.loop-section-test.true (omega (arith, c.loop-section.invariant.section, c.requires.section)) (got c.args.kept.now.items (c.loop-section.section - 1) c.get.result.now c.get.ensures) c.rows.ensures c.loop-section.invariant.at in
    let here : is_start_at c.args.records.now (rows_kept (take c.loop-section.section js)) ≡ false =
    ap (λ n. is_start_at c.args.records.now n) (sym c.loop-section.invariant.at) ∙ (sym c.is_start_at.ensures ∙ c.if-not-is_start_at.true) in
    record {
      section = omega (arith, c.loop-section.invariant.section);
      at = b.1;
      row = omega (arith, c.loop-section.invariant.row);
      passed = passed_back (λ j. is_start_at c.args.records.now (rows_kept (take j js))) c.loop-section.section c.args.from.section c.loop-section-test.true here c.loop-section.invariant.passed;
    }
