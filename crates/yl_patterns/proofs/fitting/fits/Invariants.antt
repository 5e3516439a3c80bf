use Rattle.std.proofs.Common.{drop}
use Rattle.yl_patterns.specs.Fits.{items_fit}
use Rattle.yl_patterns.specs.Tables.{IsTable}
use Rattle.yl_patterns.proofs.fitting.fits.Given as goal

abbrev pub invariant-loop-i : goal.invariant-loop-i
invariant-loop-i l = IsTable (λ cs. items_fit (drop l.i l.items) cs) l.path l.row
