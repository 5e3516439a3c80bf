use Rattle.std.proofs.Common.{◌+◌, drop}
use Rattle.yl_config.specs.Config.{options_of}
use Rattle.yl_edited_lines.specs.Alike.{AreAlike}
use Rattle.yl_edited_lines.proofs.unchanged.are_alike.Given as goal

abbrev pub invariant-loop-i : goal.invariant-loop-i
invariant-loop-i g l =
    AreAlike (options_of l.config).row (l.a + l.i + 1) (drop (l.a + l.i) (g.L.Lines.rows l.lines)) (drop l.i l.rows)
    → AreAlike (options_of l.config).row (l.a + 1) (drop l.a (g.L.Lines.rows l.lines)) l.rows
