use Rattle.std.proofs.Common.{arith}
use Rattle.yl_edited_lines.proofs.Spoken.{texts_more}
use Rattle.yl_edited_lines.proofs.switches.have_same_texts.Goals as goal

pub loop-i-preserved : goal.loop-i-preserved
loop-i-preserved c =
    texts_more c.args.one.now c.args.other.now c.loop-i.i _ (omega arith) (omega arith) c.loop-i.invariant (c.is_same_text.ensures c.if-not-is_same_text.false)
