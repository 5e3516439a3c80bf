use Rattle.std.proofs.Common.{arith, ◌∙◌, ap, slice_get}
use Rattle.yl_marks.proofs.KeptFacts.{all_told, all_passed, facts_more, ahead_more}
use Rattle.yl_marks.proofs.facts.push_facts.Goals as goal

pub loop-i-preserved : goal.loop-i-preserved
loop-i-preserved g c =
    let all = c.args.pieces.now in
    record {
      facts = facts_more all c.loop-i.ahead _ c.args.first c.loop-i.i _ _ c.loop-i-test.true (c.requires.each c.loop-i.i c.loop-i-test.true) c.next_ahead-ahead.ensures
          _ _ c.loop-i.facts.items _ _ (c.first_of.ensures ∙ ap (λ xs. slice_get xs 0) c.split_at.ensures.back) c.fact_by.ensures c.in_ok-push.ensures.items c.loop-i.invariant.facts;
      ahead = ahead_more all c.loop-i.ahead _ c.args.first c.loop-i.i _ _ c.loop-i-test.true (c.requires.each c.loop-i.i c.loop-i-test.true) c.next_ahead-ahead.ensures _ c.loop-i.invariant.ahead;
    }

pub returns-clause-facts : goal.returns-clause-facts
returns-clause-facts g c = all_told c.loop-i.ahead c.args.pieces.now c.loop-i.i _ _ _ (omega arith) c.loop-i.invariant.facts

pub returns-clause-ahead : goal.returns-clause-ahead
returns-clause-ahead g c = all_passed c.loop-i.ahead _ c.args.pieces.now c.loop-i.i _ (omega arith) c.loop-i.invariant.ahead
