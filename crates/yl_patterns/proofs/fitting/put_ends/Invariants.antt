use Rattle.yl_patterns.specs.Fits.{is_name_end}
use Rattle.yl_patterns.proofs.Filled.{IsFrom}
use Rattle.yl_patterns.proofs.fitting.put_ends.Given as goal

abbrev pub invariant-loop-k : goal.invariant-loop-k
invariant-loop-k l = IsFrom is_name_end l.path l.row l.k
