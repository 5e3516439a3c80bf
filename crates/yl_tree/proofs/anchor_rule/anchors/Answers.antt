use Rattle.std.proofs.Common.{◌+◌, ◌<◌, length, take, drop, reverse, map, get_or, arith, [], sym, ◌∙◌}
use Rattle.yl_events.specs.Event.{event_value}
use Rattle.yl_tree.specs.Anchors.{anchors_at}
use Rattle.yl_tree.specs.NameSets.{has_name}
use Rattle.yl_tree.specs.Unused.{is_unused, unused_flags}
use Rattle.yl_tree.proofs.AtEach.{no_event, before_more, drop_here, found_more}
use Rattle.yl_tree.proofs.References.{nothing_found}
use Rattle.yl_tree.proofs.Unused.{flags_here, declared_more}
use Rattle.yl_tree.proofs.anchor_rule.anchors.Goals as goal

pub loop-event-preserved : goal.loop-event-preserved
loop-event-preserved g c =
    let es = c.args.events.now in
    let i = c.loop-event.event-index in
    let x = get_or es i no_event in
    let inside : i < length es = omega arith in
    let later = drop (i + 1) (map event_value es) in
    let flag = c.next_flag-is_unused.ensures (is_unused (event_value x).anchor later) (unused_flags later) (flags_here (event_value x) _ later _ (drop_here event_value es i no_event inside) c.loop-event.invariant.flags) in
    record {
      flags = flag.1;
      declared =
          declared_more (event_value x) _ _ (has_name c.loop-event.declared) (has_name c.declare.new.declared) (before_more event_value es i no_event inside)
          c.loop-event.invariant.declared c.in_ok-declare.ensures;
      found =
          found_more event_value es i no_event inside (anchors_at c.args.options.now) _ _ _
          (c.in_ok-push_problems.ensures (reverse (take i (map event_value es))) later c.loop-event.invariant.declared flag.0) c.loop-event.invariant.found;
    }

pub returns-then-not-has_references : goal.returns-then-not-has_references
returns-then-not-has_references g c =
    c.new-found.ensures.items
    ∙ sym (nothing_found c.args.options.now [] c.args.events.now
    (sym c.has_references.ensures ∙ c.if-not-has_references.true))
