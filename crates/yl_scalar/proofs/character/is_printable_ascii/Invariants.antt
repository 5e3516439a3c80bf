use Rattle.std.proofs.Common.{◌≡◌, take}
use Rattle.std.specs.Prelude.{not}
use Rattle.std.specs.List.{list_all}
use Rattle.yl_text.specs.Special.{is_printable_ascii}
use Rattle.yl_scalar.proofs.character.is_printable_ascii.Given as goal

abbrev pub invariant-loop-c : goal.invariant-loop-c
invariant-loop-c l = l.special ≡ not (list_all is_printable_ascii (take l.c-index l.text))
