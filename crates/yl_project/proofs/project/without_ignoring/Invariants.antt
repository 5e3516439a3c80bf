use Rattle.std.proofs.Common.{◌≡◌, drop}
use Rattle.yl_config.specs.Config.{config_settings}
use Rattle.yl_project.specs.Paths.{without_ignoring}
use Rattle.yl_project.proofs.project.without_ignoring.Given as goal

abbrev pub invariant-loop-rule : goal.invariant-loop-rule
invariant-loop-rule g l = without_ignoring (drop l.rule-index l.rules) l.path (config_settings l.config) ≡ without_ignoring l.rules l.path (config_settings l.fn.from)
