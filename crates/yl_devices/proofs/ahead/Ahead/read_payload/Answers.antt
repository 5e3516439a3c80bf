use Rattle.std.proofs.Common.{rules, arith}
use Rattle.std.proofs.lemmas.Grind.{common_steps}
use Rattle.yl_devices.proofs.Taken.{payload_goes_on}
use Rattle.yl_devices.proofs.ahead.Ahead.read_payload.Goals as goal

pub loop-self-preserved : goal.loop-self-preserved
loop-self-preserved g c = record {
  quiet = search rules;
  most = grind (arith, common_steps);
  taken = payload_goes_on _ _ _ c.loop-self.bytes.items c.extend_from_slice.new.self.items c.more.new.self c.skip.new.self c.min-count.result c.loop-self.invariant.taken c.in_ok-more.ensures.kept c.skip.ensures (grind (arith, common_steps));
}
