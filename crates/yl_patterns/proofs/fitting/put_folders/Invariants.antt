use Rattle.std.proofs.Common.{◌≡◌, List, Bool, ℕ, drop, ◌||◌}
use Rattle.yl_patterns.specs.Fits.{some_folder_fits}
use Rattle.yl_patterns.specs.Tables.{IsTable}
use Rattle.yl_patterns.proofs.Filled.{IsFrom, IsBefore}
use Rattle.yl_patterns.proofs.fitting.put_folders.Given as goal

abbrev pub invariant-loop-k : goal.invariant-loop-k
invariant-loop-k l = (next : List ℕ → Bool) → IsTable next l.path l.initial.row
    → IsBefore next l.path l.row l.k × (l.next ≡ next (drop l.k l.path)) × (l.some_folder ≡ some_folder_fits next (drop l.k l.path))
    × IsFrom (λ cs. next cs || some_folder_fits next cs) l.path l.row l.k
