use Rattle.std.proofs.Common.{◌≡◌, List, subst}
use Rattle.std.specs.Prelude.{IfOk}
use Rattle.yl_text.specs.Finding.{FindingValue}
use Rattle.yl_events.specs.Event.{event_value}
use Rattle.yl_tree.specs.References.{reference_value}
use Rattle.yl_tree.proofs.Kept.{all_found}
use Rattle.yl_tree.proofs.anchor_finder.AnchorFinder.finish.Goals as goal

pub returns : goal.returns
returns g c = λ all h.
    subst (λ (fs : List FindingValue). IfOk c.anchors.result (λ v. v.items ≡ fs))
    (all_found c.args.self.options event_value reference_value c.deref-2.result.now c.in_ok-events.events.items c.deref.result.now c.args.self.references.items all
    c.deref-2.ensures.value c.in_ok-events.ensures c.deref.ensures.value h)
    c.anchors.ensures
