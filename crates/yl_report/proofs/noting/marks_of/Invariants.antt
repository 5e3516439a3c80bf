use Rattle.std.proofs.Common.{◌≡◌, ℕ, take, map}
use Rattle.std.specs.Prelude.{◌==◌}
use Rattle.std.specs.List.{list_any}
use Rattle.std.specs.List.Sorted.{IsNonDecreasingBy}
use Rattle.yl_report.specs.Switched.{is_off_at}
use Rattle.yl_lexeme.specs.PlacedComments.{placed_comment_value}
use Rattle.yl_report.specs.Directive.{is_switched_off, disables_line}
use Rattle.yl_report.proofs.noting.marks_of.Given as goal

abbrev pub invariant-loop-comment : goal.invariant-loop-comment
invariant-loop-comment g l = record {
  rising : IsNonDecreasingBy (λ w. w.line) l.switches.items;
  switched : (at : ℕ) → is_off_at l.switches.items at ≡ is_switched_off (map placed_comment_value (take l.comment-index l.comments)) l.rule at;
  owned : (at : ℕ) → list_any (λ own. own == at) l.lines.items ≡ list_any (disables_line l.rule at) (map placed_comment_value (take l.comment-index l.comments));
}
