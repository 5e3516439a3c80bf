use Rattle.std.proofs.Common.{◌≡◌, ◌+◌, drop}
use Rattle.std.specs.List.{prefix_len}
use Rattle.yl_text.specs.Character.{is_white, without_front}
use Rattle.yl_scalar.proofs.character.leading_white.Given as goal

-- what is passed and what is still to come make the whole
abbrev pub invariant-loop-i : goal.invariant-loop-i
invariant-loop-i l = record {
  count : l.i + prefix_len is_white (drop l.i l.row) ≡ prefix_len is_white l.row;
  rest : without_front (drop l.i l.row) ≡ without_front l.row;
}
