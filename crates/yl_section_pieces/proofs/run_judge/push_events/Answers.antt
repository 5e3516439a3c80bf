use Rattle.std.proofs.Common.{◌≤◌, ◌+◌, ◌++◌, length, map, take, drop, ap, sym, ◌∙◌, append-nil, arith}
use Rattle.yl_events.specs.Event.{event_value}
use Rattle.yl_pieces.specs.Events.{without_anchor}
use Rattle.yl_piece_names.specs.KeptNames.{names_of_run}
use Rattle.yl_section_pieces.proofs.EventsPushed.{names_done, names_on, rules_done, rules_on}
use Rattle.yl_section_pieces.proofs.run_judge.push_events.Goals as goal

pub loop-i-init : goal.loop-i-init
loop-i-init g c = record { names = λ t es was. was ∙ ap (names_of_run t) (sym (append-nil es)); rules = λ es all finds. finds }

pub loop-i-preserved : goal.loop-i-preserved
loop-i-preserved g c =
    let events = c.args.events.now in
    let i = c.loop-i.i in
    record {
      names = λ t es was.
          names_on events i (event_value c.get.result) c.get.ensures t es c.push_event.new.names
          (c.in_ok-push_event.ensures.names t (es ++ map without_anchor (take i events)) (c.loop-i.invariant.names t es was));
      rules = λ es all finds.
          c.in_ok-push_event.ensures.rules (map without_anchor (drop (i + 1) events) ++ es) all
          (rules_on events i (event_value c.get.result) c.get.ensures c.loop-i.rules es all (c.loop-i.invariant.rules es all finds));
    }

pub returns-clause-names : goal.returns-clause-names
returns-clause-names g c = λ t es was.
    let past : length c.args.events.now ≤ c.loop-i.i = omega (arith, c.len-i-end.ensures) in
    names_done c.args.events.now c.loop-i.i past t es c.loop-i.names (c.loop-i.invariant.names t es was)

pub returns-clause-rules : goal.returns-clause-rules
returns-clause-rules g c = λ es all finds.
    let past : length c.args.events.now ≤ c.loop-i.i = omega (arith, c.len-i-end.ensures) in
    rules_done c.args.events.now c.loop-i.i past c.loop-i.rules es all (c.loop-i.invariant.rules es all finds)
