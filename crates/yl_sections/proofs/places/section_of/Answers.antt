use Rattle.std.proofs.Common.{◌≡◌, ◌+◌, arith, refl, take, ap, inl, inr}
use Rattle.yl_sections.specs.Kept.{rows_kept}
use Rattle.yl_sections.proofs.KeptRows.{got, rows_more}
use Rattle.yl_sections.proofs.places.section_of.Goals as goal

pub loop-i-preserved : goal.loop-i-preserved
loop-i-preserved g c =
    let m = rows_more c.args.kept.now.items c.loop-i.i c.get.result.now (omega (arith, c.loop-i-test.true, c.len-i-end.ensures)) (got c.args.kept.now.items c.loop-i.i c.get.result.now c.get.ensures) in
    record {
      section = refl;
      at = omega (arith, m, c.rows.ensures, c.loop-i.invariant.at);
      row = omega arith;
    }

pub returns-then-next-row-clause-last : goal.returns-then-next-row-clause-last
returns-then-next-row-clause-last g c =
    let m = rows_more c.args.kept.now.items c.loop-i.i c.get.result.now (omega (arith, c.loop-i-test.true, c.len-i-end.ensures)) (got c.args.kept.now.items c.loop-i.i c.get.result.now c.get.ensures) in
    let at : rows_kept (take (c.loop-i.place.section + 1) c.args.kept.now.items) ≡ rows_kept (take (c.loop-i.i + 1) c.args.kept.now.items) =
    ap (λ n. rows_kept (take (n + 1) c.args.kept.now.items)) c.loop-i.invariant.section in
    inr (omega (arith, at, m, c.rows.ensures, c.loop-i.invariant.at, c.loop-i.invariant.section))

pub returns-clause-last : goal.returns-clause-last
returns-clause-last g c = inl (omega (arith, c.loop-i.invariant.section, c.loop-i-test.false, c.len-i-end.ensures, c.loop-i.auto.i-end, c.requires.near.section))
