use Rattle.std.proofs.Common.{arith, rules}
use Rattle.std.proofs.lemmas.Grind.{common_steps}
use Rattle.yl_frames.proofs.Bodies.{more_taken}
use Rattle.yl_frames.proofs.reading.read_body.Goals as goal

pub loop-taken-preserved : goal.loop-taken-preserved
loop-taken-preserved g c = record {
  quiet = search rules;
  most = grind (arith, common_steps);
  so_far = more_taken _ _ _ _ c.loop-taken.taken _ c.min-count.result c.loop-taken.kept _ c.more.new.self c.skip.new.self _ c.loop-taken.invariant.so_far c.in_ok-more.ensures.kept c.skip.ensures
      c.extended-kept.ensures (grind (arith, common_steps)) (grind (arith, common_steps)) (search rules);
}
