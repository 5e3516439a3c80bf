-- Bridge: what adds patterns, as definitions have it.
use Rattle.std.specs.Prelude.{◌≡◌, List, Option, Some, None, Result, MatchResult}
use Rattle.yl_patterns.specs.declared.fault.PatternFault.{PatternFault}
use Rattle.yl_patterns.specs.declared.fault.PatternFault.TheVariants.{BadPattern}
use Rattle.yl_patterns.specs.Patterns.{PatternValue}

-- these patterns are what there is to be, and a fault is told only where there are none to be
abbrev pub Gives : {T : Type 0} → Result T PatternFault → List PatternValue → Option (List PatternValue) → Type 0
Gives r patterns said = MatchResult r (λ _. said ≡ Some patterns) (λ e. e ≡ BadPattern → said ≡ None)
