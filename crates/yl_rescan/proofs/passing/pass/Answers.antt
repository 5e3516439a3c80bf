use Rattle.std.proofs.Common.{◌≡◌, [], arith}
use Rattle.yl_record.specs.Records.{characters_in}
use Rattle.yl_rescan.proofs.Passed.{all_passed, nothing_passed, one_passed}
use Rattle.yl_rescan.proofs.passing.pass.Goals as goal

pub loop-i-init : goal.loop-i-init
loop-i-init g c = nothing_passed _ (characters_in (g.L.Lines.rows c.args.lines.now)) c.args.from

pub loop-i-preserved : goal.loop-i-preserved
loop-i-preserved g c =
    one_passed _ c.loop-i.records.items c.push.new.self.items (g.L.Lines.rows c.args.lines.now) c.args.from c.loop-i.i c.row.result.now c.as_str.result.now c.unread.result c.in_ok-push.ensures.items c.loop-i.invariant
    (omega arith) c.row.ensures c.as_str.ensures (c.unread.ensures [])

pub returns : goal.returns
returns g c =
    let ended : c.loop-i.i ≡ c.args.end = omega (arith, c.loop-i.auto.i-end c.requires.ordered, c.loop-i-test.false) in
    all_passed _ _ c.loop-i.records.items (characters_in (g.L.Lines.rows c.args.lines.now)) c.args.from c.loop-i.i c.args.end c.in_ok-reserve.ensures.items ended c.loop-i.invariant
