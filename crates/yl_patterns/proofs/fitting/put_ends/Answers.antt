use Rattle.std.proofs.Common.{refl, arith}
use Rattle.std.proofs.lemmas.List.{length-set}
use Rattle.yl_patterns.specs.Fits.{is_name_end}
use Rattle.yl_patterns.proofs.Filled.{from_more}
use Rattle.yl_patterns.proofs.fitting.put_ends.Goals as goal

pub loop-k-preserved : goal.loop-k-preserved
loop-k-preserved c =
    from_more is_name_end c.args.path.now c.loop-k.row c.loop-k.k c.index-path-k.result _
    (record { some = omega arith; within = omega arith; len = omega (arith, length-set c.args.row.now); read = c.index-path-k.is }) refl c.loop-k.invariant
