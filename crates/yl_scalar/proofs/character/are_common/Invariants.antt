use Rattle.std.proofs.Common.{◌≡◌, take}
use Rattle.std.specs.Prelude.{not}
use Rattle.std.specs.List.{list_all}
use Rattle.yl_scalar.specs.Allowed.{is_common}
use Rattle.yl_scalar.proofs.character.are_common.Given as goal

abbrev pub invariant-loop-c : goal.invariant-loop-c
invariant-loop-c l = l.special ≡ not (list_all is_common (take l.c-index l.text))
