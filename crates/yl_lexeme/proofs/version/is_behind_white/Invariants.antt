use Rattle.std.proofs.Common.{◌≡◌, drop}
use Rattle.std.specs.Prelude.{codes}
use Rattle.yl_lexeme.specs.Version.{is_behind_white}
use Rattle.yl_lexeme.proofs.version.is_behind_white.Given as goal

abbrev pub invariant-loop-i : goal.invariant-loop-i
invariant-loop-i l = is_behind_white (codes "1.2") (drop l.i l.text) ≡ is_behind_white (codes "1.2") l.text
