use Rattle.std.proofs.Common.{◌≡◌, ◌≤◌, ◌+◌, length, take}
use Rattle.std.specs.List.{suffix_len}
use Rattle.yl_text.specs.Character.{is_white}
use Rattle.yl_rules.proofs.trailing_spaces.end_white.Given as goal

abbrev pub invariant-loop-kept : goal.invariant-loop-kept
invariant-loop-kept l = record {
  within : l.kept ≤ length l.bytes;
  rest : l.kept + suffix_len is_white l.bytes ≡ length l.bytes + suffix_len is_white (take l.kept l.bytes);
}

abbrev pub decreases-loop-kept : goal.decreases-loop-kept
decreases-loop-kept l = l.kept
