use Rattle.std.proofs.Common.{◌≡◌, List, Bool, ℕ, drop}
use Rattle.yl_patterns.specs.Fits.{one_fits, stands_for}
use Rattle.yl_patterns.specs.Tables.{IsTable}
use Rattle.yl_patterns.proofs.Filled.{IsFrom, IsBefore}
use Rattle.yl_patterns.proofs.fitting.put_one.Given as goal

abbrev pub invariant-loop-k : goal.invariant-loop-k
invariant-loop-k l = (next : List ℕ → Bool) → IsTable next l.path l.fn.row
    → IsBefore next l.path l.row l.k × (l.next ≡ next (drop l.k l.path)) × IsFrom (one_fits (stands_for l.item l.after) next) l.path l.row l.k
