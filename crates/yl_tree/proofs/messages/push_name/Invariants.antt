use Rattle.std.proofs.Common.{◌≡◌, ◌++◌}
use Rattle.std.specs.Prelude.{string_bytes}
use Rattle.std.specs.List.{flat_map}
use Rattle.yl_tree.specs.Messages.{printed_character}
use Rattle.yl_tree.proofs.messages.push_name.Given as goal

abbrev pub invariant-loop-c : goal.invariant-loop-c
invariant-loop-c g l = string_bytes l.text ≡ string_bytes l.fn.text ++ flat_map printed_character l.yielded
