use Rattle.std.proofs.Common.{◌≡◌, ◌∙◌, ap, sym, [], map}
use Rattle.std.specs.Prelude.{slice_get, vec_len}
use Rattle.std.proofs.lemmas.Bool.{eqb-true}
use Rattle.std.proofs.lemmas.List.{nil_from_length}
use Rattle.yl_rules.specs.LevelOf.{rule_number}
use Rattle.yl_lexeme.specs.PlacedComments.{placed_comment_value}
use Rattle.yl_report.specs.Directive.{is_silenced}
use Rattle.yl_report.specs.Silence.{is_silenced_in}
use Rattle.yl_report.proofs.Addressed.{is_silenced-addressed}
use Rattle.yl_report.proofs.With.{ok_then}
use Rattle.yl_report.proofs.noting.marks_in.Goals as goal

pub returns-then-is_empty : goal.returns-then-is_empty
returns-then-is_empty g c = λ rule line.
    let kept = c.in_ok-addressed.addressed in
    let none : kept.items ≡ [] = nil_from_length kept.items (sym kept.ok.0 ∙ eqb-true (vec_len kept) 0 (sym c.is_empty.ensures ∙ c.if-is_empty.true)) in
    ap (λ l. is_silenced_in (slice_get l (rule_number rule)) line) c.new.ensures.items
    ∙ ap (λ l. is_silenced (map placed_comment_value l) rule line) (sym none ∙ c.in_ok-addressed.ensures) ∙ is_silenced-addressed c.args.comments.now rule line

pub returns : goal.returns
returns g c =
    ok_then c.marks_of_all.result
    (λ v h rule line.
    h rule line ∙ ap (λ l. is_silenced (map placed_comment_value l) rule line) (c.deref.ensures.value ∙ c.in_ok-addressed.ensures) ∙ is_silenced-addressed c.args.comments.now rule line)
    c.marks_of_all.ensures
