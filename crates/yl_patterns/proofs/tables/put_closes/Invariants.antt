use Rattle.yl_patterns.specs.Reading.{has_close}
use Rattle.yl_patterns.proofs.Filled.{IsFrom}
use Rattle.yl_patterns.proofs.tables.put_closes.Given as goal

abbrev pub invariant-loop-k : goal.invariant-loop-k
invariant-loop-k l = IsFrom has_close l.text l.table l.k
