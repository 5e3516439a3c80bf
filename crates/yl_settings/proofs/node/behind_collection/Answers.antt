use Rattle.std.proofs.Common.{◌≡◌, ◌+◌, ◌<◌, ℕ, drop, length, subst, sym, ◌∙◌, arith}
use Rattle.yl_settings.specs.Nodes.{outer}
use Rattle.yl_settings.proofs.Walk.{levels_at, past_all, past_end, past_leaf, past_start}
use Rattle.yl_settings.proofs.node.behind_collection.Goals as goal
use Rattle.yl_settings.proofs.node.behind_collection.Goals.{then-starts, else-starts+then-ends+else-depth-eq0, else-starts+else-ends}

pub returns-then-depth-eq0-clause-outer : goal.returns-then-depth-eq0-clause-outer
returns-then-depth-eq0-clause-outer c =
    let es = c.args.events.now in
    let all = outer (levels_at es c.args.at) in
    let within : c.loop-i.i < length es = omega arith in
    let left = past_end es c.loop-i.i c.loop-i.depth all within c.loop-i.invariant.some c.loop-i.invariant.levels
    (sym c.starts.ensures ∙ c.if-starts.false) (sym c.ends.ensures ∙ c.if-ends.true) in
    let P : ℕ → Type 0 = λ n. drop n (levels_at es (c.loop-i.i + 1)) ≡ all in
    subst P c.if-depth-eq0.true left

pub loop-i-preserved : goal.loop-i-preserved
loop-i-preserved c =
    let es = c.args.events.now in
    let all = outer (levels_at es c.args.at) in
    let i = c.loop-i.i in
    let n = c.loop-i.depth in
    let within : c.loop-i.i < length es = omega arith in
    elim c.if-starts.branch [
      | then-starts w ↦ record {
        some = omega arith;
        few = omega arith;
        levels = rw w.depth-is (past_start es i n all within c.loop-i.invariant.some c.loop-i.invariant.levels (sym c.starts.ensures ∙ w.if-starts.true));
      }
      | else-starts+then-ends+else-depth-eq0 w ↦ record {
        some = omega arith;
        few = omega arith;
        levels = rw w.depth-is (past_end es i n all within c.loop-i.invariant.some c.loop-i.invariant.levels
            (sym c.starts.ensures ∙ w.if-starts.false) (sym w.ends.ensures ∙ w.if-ends.true));
      }
      | else-starts+else-ends w ↦ record {
        some = omega arith;
        few = omega arith;
        levels = rw w.depth-is (past_leaf es i n all within c.loop-i.invariant.some c.loop-i.invariant.levels
            (sym c.starts.ensures ∙ w.if-starts.false) (sym w.ends.ensures ∙ w.if-ends.false));
      }
    ]

pub returns-clause-outer : goal.returns-clause-outer
returns-clause-outer c =
    let es = c.args.events.now in
    let at_end : c.loop-i.i ≡ length es = omega arith in
    past_all es c.loop-i.i c.loop-i.depth (outer (levels_at es c.args.at)) at_end c.loop-i.invariant.levels
