use Rattle.std.proofs.Common.{ap, map, refl}
use Rattle.yl_events.specs.Event.{event_value}
use Rattle.yl_events.proofs.Giving.{fault_built}
use Rattle.yl_events.proofs.document.build.Goals as goal

pub returns-in-Some : goal.returns-in-Some
returns-in-Some g c =
    fault_built _ _ c.args.fault c.in-Some.fault c.args.outlines.now _
    refl c.requires c.in-Some.is (ap (map event_value) c.new.ensures.items)
