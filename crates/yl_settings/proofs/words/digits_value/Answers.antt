use Rattle.std.proofs.Common.{◌≡◌, ◌+◌, ◌-◌, ◌*◌, ◌<◌, drop, get_or, length, arith}
use Rattle.yl_settings.specs.Words.{digits_behind}
use Rattle.yl_settings.proofs.Digits.{digits_behind-end, digits_behind-least, digits_behind-next, small_enough, too_large}
use Rattle.yl_settings.proofs.words.digits_value.Goals as goal

pub returns-then-value-gt-LARGEST : goal.returns-then-value-gt-LARGEST
returns-then-value-gt-LARGEST c =
    let ds = c.args.digits.now in
    let i = c.loop-digit.digit-index in
    let v = 10 * c.loop-digit.value + (get_or ds i 0 - 48) in
    let all = digits_behind v (drop (i + 1) ds) in
    let within : i < length ds = omega arith in
    let same : all ≡ digits_behind 0 ds = digits_behind-next c.loop-digit.value i (digits_behind 0 ds) ds within c.loop-digit.invariant.number in
    too_large (digits_behind 0 ds) v (omega arith) (omega (arith, digits_behind-least v (drop (i + 1) ds), same))

pub loop-digit-preserved : goal.loop-digit-preserved
loop-digit-preserved c =
    let ds = c.args.digits.now in
    let i = c.loop-digit.digit-index in
    let within : i < length ds = omega arith in
    let same : c.saturating_sub.result ≡ get_or ds i 0 - 48 = omega arith in
    record {
      small = omega arith;
      number = rw same (digits_behind-next c.loop-digit.value i (digits_behind 0 ds) ds within c.loop-digit.invariant.number);
    }

pub returns : goal.returns
returns c =
    let ds = c.args.digits.now in
    let at_end : c.loop-digit.digit-index ≡ length ds = omega arith in
    small_enough (digits_behind 0 ds) c.loop-digit.value c.loop-digit.invariant.small
    (digits_behind-end c.loop-digit.value c.loop-digit.digit-index (digits_behind 0 ds) ds at_end c.loop-digit.invariant.number)
