use Rattle.yl_events.specs.Event.{event_value}
use Rattle.yl_tree.specs.References.{reference_value}
use Rattle.yl_tree.proofs.Kept.{events_more}
use Rattle.yl_tree.proofs.anchor_finder.events_of.Goals as goal

pub loop-reference-preserved : goal.loop-reference-preserved
loop-reference-preserved g c =
    events_more event_value reference_value c.loop-reference.events.items c.push.new.self.items c.args.references.now c.loop-reference.reference-index c.event.result c.reference-item.result
    c.loop-reference-test.true c.reference-item.is c.loop-reference.invariant c.in_ok-push.ensures.items c.event.ensures
