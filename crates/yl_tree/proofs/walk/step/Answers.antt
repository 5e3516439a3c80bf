use Rattle.std.proofs.Common.{sym, subst}
use Rattle.yl_events.specs.Event.{event_value}
use Rattle.yl_tree.specs.OpenNodes.{OpenNodes, collections_behind}
use Rattle.yl_tree.specs.Frames.{StandsAt}
use Rattle.yl_tree.proofs.Frames.{with_start}
use Rattle.yl_tree.proofs.walk.step.Goals as goal

pub returns-in_ok-open : goal.returns-in_ok-open
returns-in_ok-open g c = λ before h.
    subst (λ (s : OpenNodes). StandsAt g.M.KeyMemory.speaks_against g.M.KeyMemory.is_against c.open.new.walk s)
    (with_start (event_value c.args.event.now) (collections_behind before) _ _ (sym c.if-is_end.ensures) (sym c.if-is_start.ensures) c.is_mapping_start.ensures c.name_of.ensures)
    (c.in_ok-open.ensures _ (c.in_ok-add_node.ensures _ h))
