-- Bridge: what reading a line answers.
use Rattle.std.specs.Prelude.{◌≡◌, ◌++◌, List, Option, Some, None, Result, MatchResult}
use Rattle.std.specs.Option.{option_map}
use Rattle.yl_patterns.specs.declared.item.Item.{Item}
use Rattle.yl_patterns.specs.declared.fault.PatternFault.{PatternFault}
use Rattle.yl_patterns.specs.declared.fault.PatternFault.TheVariants.{BadPattern}
use Rattle.yl_patterns.specs.declared.reading.Pattern.{Pattern}
use Rattle.yl_patterns.specs.Patterns.{PatternValue, Line, Nothing, Bad, Says}

abbrev pub pattern_value : {A : Type 0} → Pattern A → PatternValue
pattern_value p = record { takes_back = p.takes_back; items = p.items.items }

-- items were put after others, and a fault was told only where there are none
abbrev pub Gives : {T : Type 0} → Result T PatternFault → List Item → List Item → Option (List Item) → Type 0
Gives r before after items = MatchResult r (λ _. option_map (λ is. before ++ is) items ≡ Some after) (λ e. e ≡ BadPattern → items ≡ None)

-- what a line says
abbrev pub said_by : {A : Type 0} → Option (Pattern A) → Line
said_by None = Nothing
said_by (Some p) = Says (pattern_value p)

abbrev pub GivesLine : {A : Type 0} → Result (Option (Pattern A)) PatternFault → Line → Type 0
GivesLine r line = MatchResult r (λ p. line ≡ said_by p) (λ e. e ≡ BadPattern → line ≡ Bad)
