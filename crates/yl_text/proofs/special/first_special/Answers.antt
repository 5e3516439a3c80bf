use Rattle.std.proofs.Common.{◌≡◌, ℕ, ◌+◌, ◌-◌, take, drop, ap, sym, ◌∙◌, arith}
use Rattle.yl_text.specs.Special.{special_place}
use Rattle.yl_text.proofs.Printable.{place_more, place_within}
use Rattle.yl_text.proofs.special.first_special.Goals as goal

pub returns-then-place-lt32-clause-place : goal.returns-then-place-lt32-clause-place
returns-then-place-lt32-clause-place c =
    let at = c.loop-at.at in
    let width : (at + 32) - at ≡ 32 = omega arith in
    let is = c.special_lane-place.ensures ∙ ap (λ (n : ℕ). special_place (take n (drop at c.args.bytes.now))) width in
    (place_more c.args.bytes.now at 32 _ (omega arith) is c.loop-at.invariant.1).0 c.if-place-lt32.true

pub returns-then-place-lt32-clause-within : goal.returns-then-place-lt32-clause-within
returns-then-place-lt32-clause-within c = omega arith

pub loop-at-preserved : goal.loop-at-preserved
loop-at-preserved c =
    let at = c.loop-at.at in
    let width : (at + 32) - at ≡ 32 = omega arith in
    let is = c.special_lane-place.ensures ∙ ap (λ (n : ℕ). special_place (take n (drop at c.args.bytes.now))) width in
    (omega arith, (place_more c.args.bytes.now at 32 _ (omega arith) is c.loop-at.invariant.1).1 c.if-place-lt32.false)

pub returns-clause-within : goal.returns-clause-within
returns-clause-within c = place_within _ _ (c.special_from.ensures ∙ sym c.loop-at.invariant.1)
