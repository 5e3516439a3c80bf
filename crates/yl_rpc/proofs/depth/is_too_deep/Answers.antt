use Rattle.std.proofs.Common.{◌∙◌, arith, sym}
use Rattle.yl_rpc.proofs.Deep.{byte_passed, found_deep, none_deep}
use Rattle.yl_rpc.proofs.depth.is_too_deep.Goals as goal

pub returns-then-levels-gt128 : goal.returns-then-levels-gt128
returns-then-levels-gt128 c =
    let l = c.loop-byte in
    sym (found_deep l.stand l.levels c.args.body.now l.byte-index 0 c.open_after-levels.result (omega arith) c.open_after-levels.ensures (omega arith)) ∙ l.invariant.so_far

pub loop-byte-preserved : goal.loop-byte-preserved
loop-byte-preserved c =
    let l = c.loop-byte in
    record {
      most = omega arith;
      so_far = byte_passed l.stand c.next_stand-stand.result l.levels c.args.body.now l.byte-index 0 c.open_after-levels.result (omega arith) c.next_stand-stand.ensures c.open_after-levels.ensures (omega arith) ∙ l.invariant.so_far;
    }

pub returns : goal.returns
returns c = let l = c.loop-byte in sym (none_deep l.stand l.levels c.args.body.now l.byte-index (omega arith)) ∙ l.invariant.so_far
