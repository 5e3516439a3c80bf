use Rattle.std.proofs.Common.{List, Bool, ℕ}
use Rattle.yl_patterns.specs.Fits.{run_fits}
use Rattle.yl_patterns.specs.Tables.{IsTable}
use Rattle.yl_patterns.proofs.Filled.{IsFrom, IsBefore}
use Rattle.yl_patterns.proofs.fitting.put_run.Given as goal

abbrev pub invariant-loop-k : goal.invariant-loop-k
invariant-loop-k l = (next : List ℕ → Bool) → IsTable next l.path l.initial.row → IsBefore next l.path l.row l.k × IsFrom (run_fits next) l.path l.row l.k
