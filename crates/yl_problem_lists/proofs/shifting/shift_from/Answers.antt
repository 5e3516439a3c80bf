use Rattle.std.proofs.Common.{arith}
use Rattle.yl_problem_lists.specs.Parts.{IsLow, shifted}
use Rattle.yl_problem_lists.proofs.Shifted.{item_all, set_more}
use Rattle.yl_problem_lists.proofs.shifting.shift_from.Goals as goal

pub shift-requires : goal.shift-requires
shift-requires g c =
    item_all (shifted c.args.up c.args.down) c.args.problems.now.items c.loop-i.problems.items c.args.from c.loop-i.i c.index_mut.result.now c.loop-i.auto.i (omega (arith, c.loop-i-test.true, c.len-i-end.ensures)) c.loop-i.invariant.passed c.index_mut.ensures.value IsLow
    c.requires.low

pub loop-i-preserved : goal.loop-i-preserved
loop-i-preserved g c = record {
  passed =
      set_more (shifted c.args.up c.args.down) c.args.problems.now.items c.loop-i.problems.items c.args.from c.loop-i.i c.index_mut.result.now c.loop-i.auto.i (omega (arith, c.loop-i-test.true, c.len-i-end.ensures)) c.loop-i.invariant.passed c.index_mut.ensures.value
      c.shift.new.problem c.shift.ensures;
  room = c.loop-i.invariant.room;
}
