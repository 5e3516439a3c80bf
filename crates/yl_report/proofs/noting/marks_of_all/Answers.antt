use Rattle.std.proofs.Common.{◌<◌, ◌+◌, ◌∙◌, ap, arith, length, map}
use Rattle.std.specs.Prelude.{slice_get}
use Rattle.std.proofs.lemmas.List.{length_push}
use Rattle.yl_rules.specs.LevelOf.{rule_number}
use Rattle.yl_lexeme.specs.PlacedComments.{placed_comment_value}
use Rattle.yl_report.specs.Silence.{is_silenced_in}
use Rattle.yl_report.proofs.Places.{marked_more, slot_below}
use Rattle.yl_report.proofs.noting.marks_of_all.Goals as goal

pub loop-rule-preserved : goal.loop-rule-preserved
loop-rule-preserved g c = record {
  long = ap length c.in_ok-push.ensures.items ∙ length_push c.loop-rule.all.items c.in_ok-marks.marks ∙ ap (λ k. k + 1) c.loop-rule.invariant.long;
  done = λ rule line h.
      ap (λ l. is_silenced_in (slice_get l (rule_number rule)) line) c.in_ok-push.ensures.items
      ∙ marked_more (map placed_comment_value c.args.comments.now) c.loop-rule.all.items c.in_ok-marks.marks c.loop-rule.rule-index _ c.loop-rule.invariant.long c.loop-rule.invariant.done c.in_ok-marks.ensures rule line h;
}

pub returns : goal.returns
returns g c = λ rule line.
    let below = slot_below rule in
    let inside : rule_number rule < c.loop-rule.rule-index = omega arith in
    c.loop-rule.invariant.done rule line inside
