use Rattle.std.proofs.Common.{◌&&◌, Bool, ap, ◌∙◌, arith, ◌-◌}
use Rattle.std.proofs.lemmas.List.{length-set}
use Rattle.yl_patterns.specs.Fits.{one_fits, stands_for}
use Rattle.yl_patterns.proofs.Filled.{IsAt, before_less, from_more, table_from}
use Rattle.yl_patterns.proofs.fitting.put_one.Goals as goal

pub loop-k-preserved : goal.loop-k-preserved
loop-k-preserved c = λ next t.
    let cs = c.args.path.now in
    let row = c.loop-k.row in
    let k = c.loop-k.k in
    let x = c.index-path-k.result in
    let passes = stands_for c.args.item c.args.after.now in
    let at : IsAt cs row k x = record { some = omega arith; within = omega arith; len = omega (arith, length-set c.args.row.now); read = c.index-path-k.is } in
    let h = c.loop-k.invariant next t in
    let here = h.0.at (k - 1) (omega arith) in
    let both = c.one_fits.ensures ∙ ap (λ (b : Bool). passes x && b) h.1 in
    (before_less next cs row k _ h.0, here, from_more (one_fits passes next) cs row k x _ at both h.2)

pub returns : goal.returns
returns c = λ next t.
    table_from (one_fits (stands_for c.args.item c.args.after.now) next) c.args.path.now c.loop-k.row c.loop-k.k (omega arith)
    (omega (arith, length-set c.args.row.now)) (c.loop-k.invariant next t).2
