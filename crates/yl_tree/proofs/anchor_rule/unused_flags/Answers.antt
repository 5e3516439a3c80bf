use Rattle.std.proofs.Common.{◌-◌, drop, map, get_or, arith}
use Rattle.yl_events.specs.Event.{event_value}
use Rattle.yl_tree.specs.NameSets.{has_name}
use Rattle.yl_tree.proofs.AtEach.{no_event, drop_before}
use Rattle.yl_tree.proofs.Unused.{flag_more, used_more}
use Rattle.yl_tree.proofs.anchor_rule.unused_flags.Goals as goal

pub loop-i-preserved : goal.loop-i-preserved
loop-i-preserved g c =
    let es = c.args.events.now in
    let x = get_or es (c.loop-i.i - 1) no_event in
    let here = drop_before event_value es (c.loop-i.i - 1) no_event (omega arith) c.loop-i.i (omega arith) in
    record {
      flags =
          flag_more (event_value x) _ _ c.is_unused.result _ _ here (c.is_unused.ensures (drop c.loop-i.i (map event_value es)) c.loop-i.invariant.used)
          c.loop-i.invariant.flags c.in_ok-push.ensures.items;
      used = used_more (event_value x) _ _ (has_name c.loop-i.used) (has_name c.use_event.new.used) here c.loop-i.invariant.used c.in_ok-use_event.ensures;
    }
