use Rattle.std.proofs.Common.{arith, ◌-◌, sym, ◌∙◌}
use Rattle.yl_report.proofs.Ends.{white_goes, other_stays, none_stays}
use Rattle.yl_report.proofs.directive.without_end.Goals as goal
use Rattle.yl_report.proofs.directive.without_end.Goals.{then-loop-end-test+else-is_white, else-loop-end-test}

pub loop-end-preserved : goal.loop-end-preserved
loop-end-preserved c = record {
  within = omega arith;
  same = white_goes c.args.text.now (c.loop-end.end - 1) c.loop-end.end (omega arith) (omega arith) (sym c.is_white.ensures ∙ c.if-is_white.true) ∙ c.loop-end.invariant.same;
}

pub returns : goal.returns
returns c =
    elim c.loop-end-test.branch [
      | then-loop-end-test+else-is_white w ↦
          sym (other_stays c.args.text.now (c.loop-end.end - 1) c.loop-end.end (omega arith) (omega arith) (sym w.is_white.ensures ∙ w.if-is_white.false)) ∙ c.loop-end.invariant.same
      | else-loop-end-test w ↦ sym (none_stays c.args.text.now c.loop-end.end (omega arith)) ∙ c.loop-end.invariant.same
    ]
