use Rattle.std.proofs.Common.{◌≡◌, ◌≤◌, ◌+◌, ◌∙◌, ◌++◌, length, take, drop, ap, sym, arith, length-drop}
use Rattle.std.specs.Prelude.{◌&&◌}
use Rattle.yl_rpc.specs.Surrogates.{begins_high, has_partner, mended_from}
use Rattle.yl_rpc.proofs.Mended.{all_from, all_mended, byte_mended, digits_mended, end_mended, single_of}
use Rattle.yl_rpc.proofs.surrogates.mend.Goals as goal

pub loop-i-preserved-in_default : goal.loop-i-preserved-in_default
loop-i-preserved-in_default c =
    let l = c.loop-i in
    record {
      within = omega arith;
      size = l.invariant.size;
      so_far = ap (λ w. take (l.i + 1) l.body ++ mended_from w (drop (l.i + 1) l.body)) c.next_within-within.ensures
          ∙ byte_mended l.body l.i 0 l.within c.loop-i-test.true (single_of l.within c.in_default.not-AfterU) ∙ l.invariant.so_far;
    }

pub returns-then-body-i-lt4 : goal.returns-then-body-i-lt4
returns-then-body-i-lt4 c =
    let l = c.loop-i in
    sym (end_mended l.body l.i c.in-AfterU.is_partner (omega (arith, length-drop l.i l.body))) ∙ ap (λ w. take l.i l.body ++ mended_from w (drop l.i l.body)) (sym c.in-AfterU.is) ∙ l.invariant.so_far

pub loop-i-preserved : goal.loop-i-preserved
loop-i-preserved c =
    let l = c.loop-i in
    let p = c.in-AfterU.is_partner in
    let q = c.begins_pair-is_pair.result in
    let pair : q ≡ (begins_high (drop l.i l.body) && has_partner (drop l.i l.body)) = c.begins_pair-is_pair.ensures ∙ ap (λ bytes. begins_high bytes && has_partner bytes) (all_from l.body l.i) in
    let inside : l.i + 4 ≤ length l.body = omega arith in
    let size : length c.mend_digits.new.body ≡ length l.body = omega (arith, c.mend_digits.auto.body) in
    record {
      within = omega arith;
      size = size ∙ l.invariant.size;
      so_far = digits_mended l.body c.mend_digits.new.body l.i p q inside c.mend_digits.ensures pair ∙ ap (λ w. take l.i l.body ++ mended_from w (drop l.i l.body)) (sym c.in-AfterU.is) ∙ l.invariant.so_far;
    }

pub returns : goal.returns
returns c = let l = c.loop-i in sym (all_mended l.body l.i l.within (omega arith)) ∙ l.invariant.so_far
