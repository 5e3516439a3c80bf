use Rattle.std.proofs.Common.{◌≡◌, drop}
use Rattle.yl_rules.specs.LevelOf.{level_of}
use Rattle.yl_project.specs.Said.{switched_off}
use Rattle.yl_project.proofs.project.switched_off.Given as goal

abbrev pub invariant-loop-rule : goal.invariant-loop-rule
invariant-loop-rule l = switched_off (level_of l.levels) (drop l.rule-index l.rules) ≡ switched_off (level_of l.fn.from) l.rules
