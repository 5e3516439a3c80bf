use Rattle.std.proofs.Common.{◌≡◌, ℕ, List, drop, length, ap, subst, ◌∙◌, arith}
use Rattle.std.specs.Prelude.{string_bytes}
use Rattle.yl_lexeme.specs.Lexeme.{CommentValue}
use Rattle.yl_scan.specs.Alone.{PlainCommentAt}
use Rattle.yl_scan.proofs.Alone.{holds_alone, same_characters, sign_within}
use Rattle.yl_scan.proofs.comment.lone_comment.Goals as goal

pub overflow_cast-at : goal.overflow_cast-at
overflow_cast-at g c =
    let bs = c.args.text.now in
    let at = c.in-Some.at in
    let h : PlainCommentAt bs at = subst (λ bs. PlainCommentAt bs at) c.as_bytes.ensures.value c.in-Some.ensures in
    let within = (sign_within at bs h.sign).0 in
    let same = ap length (same_characters bs at h) in
    record { fits = omega (arith, c.requires) }

pub returns-in_ok-comment-in-Some : goal.returns-in_ok-comment-in-Some
returns-in_ok-comment-in-Some g c =
    let bs = c.args.text.now in
    let at = c.in-Some.at in
    let h : PlainCommentAt bs at = subst (λ bs. PlainCommentAt bs at) c.as_bytes.ensures.value c.in-Some.ensures in
    let text : string_bytes c.in_ok-comment-in-Some.comment ≡ drop at bs = c.in_ok-comment-in-Some.ensures.ok ∙ c.range_from.ensures.value in
    holds_alone bs at h c.new.result (c.new.ensures ∙ ap (λ (text : List ℕ). let x : CommentValue = record { column = at; text = text } in x) text)
