use Rattle.std.proofs.Common.{◌≡◌, ◌+◌, drop}
use Rattle.yl_text.specs.Character.{is_white}
use Rattle.yl_scalar.specs.Plain.{stop}
use Rattle.yl_scalar.proofs.plain.stop.Given as goal

-- what is passed and what is still to come make the whole
abbrev pub invariant-loop-i : goal.invariant-loop-i
invariant-loop-i l = l.i + stop l.flow (is_white l.previous) (drop l.i l.text) ≡ stop l.flow l.behind_space l.text
