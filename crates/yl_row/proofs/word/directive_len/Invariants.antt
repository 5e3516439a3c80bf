use Rattle.std.proofs.Common.{◌≡◌, ◌+◌, drop, false}
use Rattle.yl_row.specs.Step.{directive_len}
use Rattle.yl_row.proofs.word.directive_len.Given as goal

abbrev pub invariant-loop-i : goal.invariant-loop-i
invariant-loop-i l = directive_len false l.text ≡ l.i + directive_len l.behind_space (drop l.i l.text)
