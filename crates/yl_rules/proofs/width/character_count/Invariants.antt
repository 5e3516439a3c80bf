use Rattle.std.proofs.Common.{◌≡◌, ◌≤◌, take}
use Rattle.std.specs.List.{count_by}
use Rattle.yl_rules.proofs.Encoded.{begins}
use Rattle.yl_rules.proofs.width.character_count.Given as goal

abbrev pub invariant-loop-byte : goal.invariant-loop-byte
invariant-loop-byte l = record {
  within : l.count ≤ l.byte-index;
  count : l.count ≡ count_by begins (take l.byte-index l.byte-items);
}
