use Rattle.std.proofs.Common.{◌≡◌, drop}
use Rattle.yl_rules.specs.LevelOf.{level_of}
use Rattle.yl_project.specs.Said.{as_warnings}
use Rattle.yl_project.proofs.project.as_warnings.Given as goal

abbrev pub invariant-loop-rule : goal.invariant-loop-rule
invariant-loop-rule l = as_warnings (level_of l.levels) (drop l.rule-index l.rules) ≡ as_warnings (level_of l.fn.from) l.rules
