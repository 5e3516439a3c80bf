use Rattle.std.proofs.Common.{◌≡◌, ◌-◌, List, ℕ, true, take, drop, length, length-drop, subst, arith}
use Rattle.std.proofs.lemmas.List.{take_all}
use Rattle.yl_text.specs.Character.{starts_by}
use Rattle.yl_text.specs.Special.{special_place}
use Rattle.yl_scan.specs.Alone.{is_sign}
use Rattle.yl_scan.proofs.Alone.{plain_comment}
use Rattle.yl_scan.proofs.comment.comment_place.Goals as goal

pub returns-then-is_plain_comment : goal.returns-then-is_plain_comment
returns-then-is_plain_comment c =
    let bs = c.args.bytes.now in
    let at = c.white_len-at.result in
    let is : take (length bs - at) (drop at bs) ≡ drop at bs = take_all (length bs - at) (drop at bs) (omega (arith, length-drop at bs)) in
    let test = c.if-is_plain_comment.true in
    plain_comment bs at c.white_len-at.ensures.count
    (subst (λ (xs : List ℕ). starts_by is_sign xs ≡ true) is (c.is_plain_comment.ensures.sign test))
    (subst (λ (xs : List ℕ). special_place xs ≡ length xs) is (c.is_plain_comment.ensures.printable test))
