use Rattle.std.proofs.Common.{arith}
use Rattle.yl_summary.proofs.Joined.{upto_next}
use Rattle.yl_summary.specs.Edit.{sections_after, sections_upto}
use Rattle.yl_summary.proofs.edit.SectionEdit.push_near.Goals as goal

pub returns-then-here : goal.returns-then-here
returns-then-here g c =
    let e = c.args.self.now in
    let near = c.requires.edit.near in
    upto_next (sections_after e) e.near.start.sections (sections_upto e) c.args.after.now.items c.push.new.self.items c.between-here.result (omega (arith, near.upto, near.behind, c.requires.edit.range.ordered)) c.requires.above c.between-here.ensures c.in_ok-push.ensures.items
