use Rattle.std.proofs.Common.{◌≡◌, ◌==◌, ◌∙◌, if◌then◌else◌, List, [], None, ap, drop, map}
use Rattle.yl_lexeme.specs.Lexeme.{PlacedCommentValue}
use Rattle.yl_indentation.specs.declared.fact.Fact.{Fact}
use Rattle.yl_piece_reports.specs.Told.{comment_above, fact_above}
use Rattle.yl_section_pieces.specs.Cut.{above_row}
use Rattle.yl_section_pieces.proofs.CutSummary.{first_below, first_here}
use Rattle.yl_section_pieces.proofs.cut.cut_piece.Goals as goal
use Rattle.yl_section_pieces.proofs.cut.cut_piece.Goals.{then-row-eq0, else-row-eq0}

pub returns-clause-piece : goal.returns-clause-piece
returns-clause-piece g c =
    let k = c.args.kept.now in
    let at = c.args.at.now in
    let end = c.args.end in
    let first : c.if-row-eq0.first ≡ (if at.row == 0 then k.first else 0)
    = elim c.if-row-eq0.branch [
      | then-row-eq0 w ↦ first_here at.row c.if-row-eq0.first k.first w.if-row-eq0.true (w.first-is ∙ w.first-first.ensures)
      | else-row-eq0 w ↦ first_below at.row c.if-row-eq0.first k.first w.if-row-eq0.false w.first-is
    ] in
    let facts = c.in_ok-facts.ensures.items ∙ ap (λ (fs : List Fact). map (fact_above at.row) (above_row (λ (f : Fact). f.line) end (drop at.facts fs))) c.facts.ensures in
    let comments = c.in_ok-comments.ensures.items ∙ ap (λ (cs : List PlacedCommentValue). map (comment_above at.row) (above_row (λ (c : PlacedCommentValue). c.line) end (drop at.comments cs))) c.comments.ensures in
    let found = c.in_ok-part.ensures.items in
    let rows = c.saturating_sub-count.ensures in
    c.faultless.ensures
    ∙ (λ i. record { rows = rows i; first = first i; found = found i; facts = facts i; comments = comments i; fault = None; hidden = []; parse_fault = None })
