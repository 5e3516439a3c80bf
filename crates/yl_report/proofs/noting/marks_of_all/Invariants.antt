use Rattle.std.proofs.Common.{◌≡◌, ◌<◌, ℕ, length, map}
use Rattle.std.specs.Prelude.{slice_get}
use Rattle.yl_rules.specs.LevelOf.{rule_number}
use Rattle.yl_text.specs.declared.finding.RuleId.{RuleId}
use Rattle.yl_lexeme.specs.PlacedComments.{placed_comment_value}
use Rattle.yl_report.specs.Directive.{is_silenced}
use Rattle.yl_report.specs.Silence.{is_silenced_in}
use Rattle.yl_report.proofs.noting.marks_of_all.Given as goal

abbrev pub invariant-loop-rule : goal.invariant-loop-rule
invariant-loop-rule g l = record {
  long : length l.all.items ≡ l.rule-index;
  done : (rule : RuleId) (line : ℕ) → rule_number rule < l.rule-index → is_silenced_in (slice_get l.all.items (rule_number rule)) line ≡ is_silenced (map placed_comment_value l.comments) rule line;
}
