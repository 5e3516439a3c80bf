use Rattle.std.proofs.Common.{sym, ◌∙◌, map}
use Rattle.yl_events.specs.Event.{event_value}
use Rattle.yl_tree.specs.References.{reference_value}
use Rattle.yl_tree.proofs.Kept.{kept_more}
use Rattle.yl_tree.proofs.Skipped.{skipped}
use Rattle.yl_tree.proofs.anchor_finder.AnchorFinder.push.Goals as goal

pub returns-in_ok-push : goal.returns-in_ok-push
returns-in_ok-push g c = λ es all h.
    let s = c.args.self.now in
    kept_more s.options (event_value c.args.event.now) reference_value s.references.items _ c.in_ok-of.field-0 es all c.in_ok-of.ensures c.in_ok-push.ensures.items h

pub returns-else-is_reference : goal.returns-else-is_reference
returns-else-is_reference g c = λ es all h.
    let s = c.args.self.now in
    sym (skipped s.options (event_value c.args.event.now) (sym c.is_reference.ensures ∙ c.if-is_reference.false) (map reference_value s.references.items) es) ∙ h
