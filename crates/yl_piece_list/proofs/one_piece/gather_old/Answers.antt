use Rattle.std.proofs.Common.{◌≤◌, arith}
use Rattle.yl_rejudge.proofs.SectionsEdited.{between_more}
use Rattle.yl_piece_list.proofs.one_piece.gather_old.Goals as goal

pub loop-i-preserved : goal.loop-i-preserved
loop-i-preserved g c =
    let from : c.args.x ≤ c.loop-i.i = omega arith in
    between_more c.loop-i.all.items c.push.new.self.items c.args.old.now.items c.args.x c.loop-i.i c.get.result from c.in_ok-push.ensures.items c.loop-i.invariant c.get.ensures
