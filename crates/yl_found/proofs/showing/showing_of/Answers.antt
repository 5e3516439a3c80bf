use Rattle.std.proofs.Common.{map, arith, ap, ◌∙◌}
use Rattle.yl_lexeme.specs.PlacedComments.{placed_comment_value}
use Rattle.yl_report.specs.Directive.{disables_file, is_silenced}
use Rattle.yl_found.proofs.Said.{said_upto}
use Rattle.yl_found.proofs.Shows.{shown_by}
use Rattle.yl_found.proofs.showing.showing_of.Goals as goal

pub returns : goal.returns
returns g c =
    let ks = c.args.survey.now.sections in
    let said =
    c.in_ok-silences.ensures.lines
    ∙ ap is_silenced (ap (map placed_comment_value) c.deref.ensures.value
    ∙ (c.in_ok-comments.ensures
    ∙ said_upto ks c.count_shown.result c.min-count.result c.args.upto c.count_shown.ensures.shown (omega (arith, c.min-count.ensures)) (omega (arith, c.min-count.ensures)) (λ l. omega (arith, l, c.min-count.ensures)))) in
    shown_by c.in_ok-silences.silences c.rows_shown-last.result c.args.upto (g.L.Lines.rows c.args.lines.now) ks (c.in_ok-silences.ensures.file ∙ ap disables_file c.first_text.ensures) said c.rows_shown-last.ensures
