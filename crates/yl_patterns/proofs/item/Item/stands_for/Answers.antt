use Rattle.std.proofs.Common.{◌≡◌, Bool, true, false, not, cond, refl, sym, ap, ◌∙◌, ◌&&◌, subst}
use Rattle.std.proofs.lemmas.Bool.{ne_eqb}
use Rattle.std.specs.Bool.{beq}
use Rattle.yl_patterns.specs.Fits.{is_in_ranges, stands_for}
use Rattle.yl_patterns.proofs.item.Item.stands_for.Goals as goal

differ : (a b : Bool) → not (beq a b) ≡ cond b (not a) a
differ true true = refl
differ true false = refl
differ false true = refl
differ false false = refl

pub returns-then-c-ne47 : goal.returns-then-c-ne47
returns-then-c-ne47 c =
    let n = c.in-Class.is_negated in
    let r = c.is_in_ranges.result in
    let x = c.args.c in
    let is = c.args.after.now in
    subst (λ i. not (beq r n) ≡ stands_for i is x) (sym c.in-Class.is)
    (differ r n ∙ ap (λ (b : Bool). cond n (not b) b) c.is_in_ranges.ensures
    ∙ ap (λ (b : Bool). not b && cond n (not (is_in_ranges is x)) (is_in_ranges is x)) (sym (ne_eqb x 47 c.if-c-ne47.true)))
