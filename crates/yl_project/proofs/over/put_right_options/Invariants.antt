use Rattle.std.proofs.Common.{◌≡◌, drop}
use Rattle.yl_rules.specs.LevelOf.{level_of}
use Rattle.yl_project.specs.Said.{put_right_options}
use Rattle.yl_project.proofs.over.put_right_options.Given as goal

abbrev pub invariant-loop-rule : goal.invariant-loop-rule
invariant-loop-rule l = put_right_options (level_of l.levels) (drop l.rule-index l.rules) l.options ≡ put_right_options (level_of l.levels) l.rules l.fn.from
