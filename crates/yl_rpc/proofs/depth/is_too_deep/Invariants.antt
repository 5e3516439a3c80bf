use Rattle.std.proofs.Common.{◌≡◌, ◌≤◌, drop}
use Rattle.yl_rpc.specs.Depth.{goes_deep, is_too_deep}
use Rattle.yl_rpc.proofs.depth.is_too_deep.Given as goal

abbrev pub invariant-loop-byte : goal.invariant-loop-byte
invariant-loop-byte l = record {
  most : l.levels ≤ 128;
  so_far : goes_deep l.stand l.levels (drop l.byte-index l.body) ≡ is_too_deep l.body;
}
