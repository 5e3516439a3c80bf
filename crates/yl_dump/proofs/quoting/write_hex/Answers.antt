use Rattle.std.proofs.Common.{arith}
use Rattle.yl_dump.proofs.Numbers.{hex_start}
use Rattle.yl_dump.proofs.quoting.write_hex.Goals as goal

pub loop-at-init : goal.loop-at-init
loop-at-init c = record {
  within = omega arith;
  room = omega arith;
  same = hex_start c.args.n c.args.room.now (omega arith);
}
