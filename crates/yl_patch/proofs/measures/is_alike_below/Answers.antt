use Rattle.std.proofs.Common.{◌<◌, List, length, drop, ap, arith, subst, ◌∙◌}
use Rattle.yl_indentation.specs.declared.fact.Fact.{Fact}
use Rattle.yl_indentation.specs.Measures.{and_later}
use Rattle.yl_indentation.specs.Onward.{AreJudgedAlike}
use Rattle.yl_sections.proofs.KeptRows.{got}
use Rattle.yl_patch.proofs.Later.{alike_none, found_next, same_alike}
use Rattle.yl_patch.proofs.measures.is_alike_below.Goals as goal

pub returns-then-is_same : goal.returns-then-is_same
returns-then-is_same g c = λ _. c.loop-i.invariant (same_alike c.loop-i.first c.loop-i.second (drop c.loop-i.i c.args.kept.now.items) (c.is_same.ensures c.if-is_same.true))

pub loop-i-preserved : goal.loop-i-preserved
loop-i-preserved g c = λ later.
    let ks = c.args.kept.now.items in
    let i = c.loop-i.i in
    let k = c.get-next.result.now in
    let within : i < length ks = omega (arith, c.loop-i-test.true, c.len-i-end.ensures) in
    let is = got ks i k c.get-next.ensures in
    let first = c.and_later-first.ensures ∙ ap (and_later c.loop-i.first) c.measure-more.ensures in
    let second = c.and_later-second.ensures ∙ ap (and_later c.loop-i.second) c.measure-more.ensures in
    let judged = subst (λ (fs : List Fact). AreJudgedAlike c.loop-i.first c.loop-i.second fs) c.facts.ensures (c.are_judged_alike.ensures c.if-not-are_judged_alike.false) in
    c.loop-i.invariant (found_next ks i k within is c.loop-i.first c.loop-i.second c.and_later-first.result c.and_later-second.result first second judged later)

pub returns : goal.returns
returns g c = λ _. c.loop-i.invariant (alike_none c.loop-i.first c.loop-i.second c.args.kept.now.items c.loop-i.i (omega (arith, c.loop-i-test.false, c.len-i-end.ensures)))
