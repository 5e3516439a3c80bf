use Rattle.std.proofs.Common.{◌≡◌, ◌++◌}
use Rattle.std.specs.List.{flat_map}
use Rattle.yl_dump.specs.Quoting.{escaped_character}
use Rattle.yl_dump.proofs.quoting.print_escaped.Given as goal

abbrev pub invariant-loop-c : goal.invariant-loop-c
invariant-loop-c g l = l.page ≡ l.fn.page ++ flat_map escaped_character l.yielded
