use Rattle.std.proofs.Common.{◌||◌, ◌&&◌, Bool, not, eqb, ap, arith}
use Rattle.std.proofs.lemmas.List.{length-set}
use Rattle.yl_patterns.specs.Reading.{has_close}
use Rattle.yl_patterns.proofs.Filled.{IsAt, from_more, read_from}
use Rattle.yl_patterns.proofs.tables.put_closes.Goals as goal

pub loop-k-preserved : goal.loop-k-preserved
loop-k-preserved c =
    let cs = c.args.text.now in
    let table = c.loop-k.table in
    let k = c.loop-k.k in
    let x = c.index-text-k.result in
    let at : IsAt cs table k x = record { some = omega arith; within = omega arith; len = omega (arith, length-set c.args.table.now); read = c.index-text-k.is } in
    from_more has_close cs table k x _ at
    (ap (λ (b : Bool). not (eqb x 47) && (eqb x 93 || b)) (read_from has_close cs table k x at c.loop-k.invariant)) c.loop-k.invariant
