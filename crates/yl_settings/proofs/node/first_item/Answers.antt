use Rattle.std.proofs.Common.{◌<◌, length, sym, ◌∙◌, arith}
use Rattle.yl_settings.proofs.Walk.{node_at_leaf, node_at_start, none_at_close, none_at_end}
use Rattle.yl_settings.proofs.node.first_item.Goals as goal
use Rattle.yl_settings.proofs.node.first_item.Goals.{then-starts, else-starts+else-ends}

pub returns-then-at-events-clause-item : goal.returns-then-at-events-clause-item
returns-then-at-events-clause-item c = none_at_end c.args.events.now c.args.at (omega arith)

pub returns-then-ends-clause-item : goal.returns-then-ends-clause-item
returns-then-ends-clause-item c =
    let within : c.args.at < length c.args.events.now = omega arith in
    none_at_close c.args.events.now c.args.at within (sym c.starts.ensures ∙ c.if-starts.false) (sym c.ends.ensures ∙ c.if-ends.true)

pub returns-clause-item : goal.returns-clause-item
returns-clause-item c =
    let within : c.args.at < length c.args.events.now = omega arith in
    elim c.if-starts.branch [
      | then-starts w ↦ rw w.inside-is (node_at_start c.args.events.now c.args.at w.behind_collection.result within (sym c.starts.ensures ∙ w.if-starts.true) w.behind_collection.ensures.outer)
      | else-starts+else-ends w ↦ rw w.inside-is (node_at_leaf c.args.events.now c.args.at within (sym c.starts.ensures ∙ w.if-starts.false) (sym w.ends.ensures ∙ w.if-ends.false))
    ]
