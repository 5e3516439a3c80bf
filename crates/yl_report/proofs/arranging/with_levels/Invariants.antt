use Rattle.std.proofs.Common.{◌≡◌}
use Rattle.std.specs.List.{filter_map}
use Rattle.yl_rules.specs.LevelOf.{level_of}
use Rattle.yl_report.specs.Report.{with_level}
use Rattle.yl_report.proofs.arranging.with_levels.Given as goal

abbrev pub invariant-loop-one : goal.invariant-loop-one
invariant-loop-one g l = l.problems.items ≡ filter_map (with_level (level_of l.levels)) l.yielded
