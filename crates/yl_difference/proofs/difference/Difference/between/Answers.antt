use Rattle.std.proofs.Common.{rules, ◌≡◌, ◌-◌, ◌+◌, List, ℕ, length, take, subst, sym, arith, ap}
use Rattle.yl_difference.specs.Difference.{IsDifference}
use Rattle.yl_difference.specs.Rest.{AreAlike}
use Rattle.yl_difference.proofs.Rests.{rest_short, few, from_moved, kept_boundary, is_difference, both_alike}
use Rattle.yl_difference.proofs.difference.Difference.between.Goals as goal

pub tail_of-tail-requires : goal.tail_of-tail-requires
tail_of-tail-requires c =
    let rests = c.without_front-rests.result in
    let text = c.in-Ok.text.now in
    omega (arith, rest_short text rests.lines rests.old.now c.without_front-rests.ensures.old, ap length c.in-Ok.ensures.cases.0)

pub overflow_add-result : goal.overflow_add-result
overflow_add-result c =
    let rests = c.without_front-rests.result in
    let tail = c.tail_of-tail.result in
    let text = c.in-Ok.text.now in
    let to = from_moved text rests.lines rests.old.now tail.place tail.rest.now c.without_front-rests.ensures.old c.tail_of-tail.ensures.from in
    let line = to.inside.line in
    record { fits = omega (arith, line, few text, ap length c.in-Ok.ensures.cases.0) }

pub range-requires-clause-end_boundary : goal.range-requires-clause-end_boundary
range-requires-clause-end_boundary c =
    let rests = c.without_front-rests.result in
    let tail = c.tail_of-tail.result in
    let n = c.equal_at_end-same.result in
    let alike : AreAlike rests.old.now rests.new.now n = both_alike c.as_bytes.result.now c.as_bytes-2.result.now rests.old.now rests.new.now n c.as_bytes.ensures.value c.as_bytes-2.ensures.value c.equal_at_end-same.ensures in
    kept_boundary rests.old.now rests.new.now tail.place tail.rest.now n c.tail_of-tail.ensures.from alike c.tail_of-tail.ensures.few c.tail_of-tail.ensures.utf8

pub returns : goal.returns
returns c =
    let rests = c.without_front-rests.result in
    let tail = c.tail_of-tail.result in
    let n = c.equal_at_end-same.result in
    let alike : AreAlike rests.old.now rests.new.now n = both_alike c.as_bytes.result.now c.as_bytes-2.result.now rests.old.now rests.new.now n c.as_bytes.ensures.value c.as_bytes-2.ensures.value c.equal_at_end-same.ensures in
    let kept = length rests.new.now - length tail.rest.now in
    let is : c.range.result.now ≡ take kept rests.new.now = search rules in
    let whole = is_difference c.in-Ok.text.now c.args.new.now rests.lines rests.old.now rests.new.now tail.place tail.rest.now n c.without_front-rests.ensures.old c.without_front-rests.ensures.new c.tail_of-tail.ensures.from alike c.tail_of-tail.ensures.few in
    subst (λ (t : List ℕ). IsDifference t c.args.new.now (record { line = rests.lines; col = 0 }) (record { line = rests.lines + tail.place.line; col = tail.place.col }) c.range.result.now) c.in-Ok.ensures.cases.0
    (subst (λ (t : List ℕ). IsDifference c.in-Ok.text.now c.args.new.now (record { line = rests.lines; col = 0 }) (record { line = rests.lines + tail.place.line; col = tail.place.col }) t) (sym is) whole)
