use Rattle.std.proofs.Common.{◌≡◌, ◌<◌, ◌||◌, ◌∙◌, arith, ap, sym, take, map, length}
use Rattle.std.specs.Prelude.{◌==◌}
use Rattle.std.specs.List.{list_any}
use Rattle.std.proofs.lemmas.List.{take_all}
use Rattle.std.proofs.lemmas.List.Sorted.{IsNonDecreasingBy-from_sort, list_any-IsPermutation}
use Rattle.yl_lexeme.specs.PlacedComments.{placed_comment_value}
use Rattle.yl_report.specs.Directive.{is_switched_off, disables_line}
use Rattle.yl_report.proofs.Noted.{switched_more, own_more}
use Rattle.yl_report.proofs.noting.marks_of.Goals as goal

pub loop-comment-preserved : goal.loop-comment-preserved
loop-comment-preserved g c =
    let inside : c.loop-comment.comment-index < length c.args.comments.now = omega arith in
    record {
      rising = c.in_ok-note_switch.ensures.rising;
      switched = λ at. switched_more c.args.rule at c.args.comments.now c.loop-comment.comment-index _ inside _ _ (c.loop-comment.invariant.switched at) (c.in_ok-note_switch.ensures.switched at);
      owned = λ at. own_more c.args.rule at c.args.comments.now c.loop-comment.comment-index _ inside _ _ (c.loop-comment.invariant.owned at) c.in_ok-note_line.ensures;
    }

pub invariant_of-result : goal.invariant_of-result
invariant_of-result g c = record {
  rising = c.loop-comment.invariant.rising;
  ordered = IsNonDecreasingBy-from_sort (λ x. x) c.sort_unstable.new.self.items c.sort_unstable.ensures.sorted;
}

pub returns : goal.returns
returns g c = λ line.
    let all : take c.loop-comment.comment-index c.args.comments.now ≡ c.args.comments.now = take_all c.loop-comment.comment-index c.args.comments.now (omega arith) in
    let switched = c.loop-comment.invariant.switched line ∙ ap (λ l. is_switched_off (map placed_comment_value l) c.args.rule line) all in
    let owned = sym (list_any-IsPermutation (λ own. own == line) c.loop-comment.lines.items c.sort_unstable.new.self.items c.sort_unstable.ensures.permutation)
    ∙ c.loop-comment.invariant.owned line ∙ ap (λ l. list_any (disables_line c.args.rule line) (map placed_comment_value l)) all in
    λ i. switched i || owned i
