use Rattle.std.proofs.Common.{◌≡◌, [], map, take}
use Rattle.yl_project.proofs.project.ignored_nowhere.Given as goal

abbrev pub invariant-loop-rule : goal.invariant-loop-rule
invariant-loop-rule g l = l.all.items ≡ map (λ rule. record { rule = rule; patterns = [] }) (take l.rule-index l.rules)
