use Rattle.std.proofs.Common.{rules}
use Rattle.yl_events.specs.Seen.{event_seen}
use Rattle.yl_sections.proofs.LineByLine.{events_done, events_on}
use Rattle.yl_sections.proofs.document_judge.push_events.Goals as goal

pub loop-outline-preserved : goal.loop-outline-preserved
loop-outline-preserved g c = λ es all finds.
    events_on (event_seen c.args.lexemes.now) c.args.outlines.now c.loop-outline.outline-index c.loop-outline.tree c.push.new.self _ _ es all c.loop-outline-test.true
    (search rules) c.event_of.ensures c.in_ok-push.ensures (c.loop-outline.invariant es all finds)

pub returns : goal.returns
returns g c = λ es all finds.
    events_done (event_seen c.args.lexemes.now) c.args.outlines.now c.loop-outline.outline-index c.loop-outline.tree es all c.loop-outline-test.false (c.loop-outline.invariant es all finds)
