use Rattle.std.proofs.Common.{◌≡◌, ◌+◌, drop}
use Rattle.yl_project.specs.Texts.{indentation}
use Rattle.yl_project.proofs.texts.indentation.Given as goal

abbrev pub invariant-loop-i : goal.invariant-loop-i
invariant-loop-i l = indentation l.line ≡ l.i + indentation (drop l.i l.line)
