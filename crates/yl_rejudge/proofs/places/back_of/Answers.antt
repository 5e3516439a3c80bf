use Rattle.std.proofs.Common.{◌≡◌, ◌+◌, ◌-◌, ◌≤◌, take, arith, ap, sym, ◌∙◌}
use Rattle.yl_sections.specs.Local.{is_start_at}
use Rattle.yl_sections.specs.Kept.{rows_kept}
use Rattle.yl_sections.proofs.KeptRows.{got, rows_more, rows_front, passed_on, not_back}
use Rattle.yl_rejudge.proofs.places.back_of.Goals as goal

pub is_back-requires : goal.is_back-requires
is_back-requires g c = omega (arith, c.requires.few, c.loop-section.invariant.at, rows_front c.args.kept.now.items c.loop-section.section)

pub overflow_add-row : goal.overflow_add-row
overflow_add-row g c =
    let m = rows_more c.args.kept.now.items c.loop-section.section c.get.result.now (omega (arith, c.loop-section-test.true, c.len-count.ensures)) (got c.args.kept.now.items c.loop-section.section c.get.result.now c.get.ensures) in
    record { fits = omega (arith, c.requires.few, m, c.rows.ensures, c.loop-section.invariant.at, rows_front c.args.kept.now.items (c.loop-section.section + 1)) }

pub loop-section-preserved : goal.loop-section-preserved
loop-section-preserved g c =
    let js = c.args.kept.now.items in
    let rows = c.loop-section.row in
    let m = rows_more js c.loop-section.section c.get.result.now (omega (arith, c.loop-section-test.true, c.len-count.ensures)) (got c.args.kept.now.items c.loop-section.section c.get.result.now c.get.ensures) in
    let at : rows_kept (take c.loop-section.section js) ≡ rows = sym c.loop-section.invariant.at in
    let passed = not_back (c.args.old_end ≤ rows) c.is_back.result (is_start_at c.args.records.now (rows - c.args.old_end + c.args.end)) c.is_back.ensures c.if-not-is_back.true in
    record {
      from = omega (arith, c.loop-section.invariant.from);
      within = omega (arith, c.loop-section-test.true, c.len-count.ensures);
      at = omega (arith, m, c.rows.ensures, c.loop-section.invariant.at);
      passed = passed_on (λ j. c.args.old_end ≤ rows_kept (take j js)) (λ j. is_start_at c.args.records.now (rows_kept (take j js) - c.args.old_end + c.args.end)) c.loop-section.section c.args.from.section
          (λ o. ap (λ n. is_start_at c.args.records.now (n - c.args.old_end + c.args.end)) at ∙ passed (omega (arith, o, at))) c.loop-section.invariant.passed;
    }
