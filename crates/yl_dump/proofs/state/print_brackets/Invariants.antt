use Rattle.std.proofs.Common.{◌≡◌, ◌++◌, drop}
use Rattle.std.specs.List.{flat_map}
use Rattle.yl_dump.specs.StateLine.{bracket_sign}
use Rattle.yl_dump.proofs.state.print_brackets.Given as goal

abbrev pub invariant-loop-bracket : goal.invariant-loop-bracket
invariant-loop-bracket g l = l.page ++ flat_map bracket_sign (drop l.bracket-index l.brackets) ≡ l.fn.page ++ flat_map bracket_sign l.brackets
