use Rattle.std.proofs.Common.{◌∙◌, ap}
use Rattle.yl_text.specs.declared.position.Pos.{Pos}
use Rattle.yl_marks.proofs.Columns.{column_there}
use Rattle.yl_marks.proofs.document.column_at.Goals as goal

pub returns-in-Some : goal.returns-in-Some
returns-in-Some g c =
    ap (λ (p : Pos). p.col) c.start.ensures
    ∙ column_there _ c.args.lexemes.now c.args.i c.in-Some.at.now c.in-Some.ensures.lookup.3.0 c.in-Some.ensures.lookup.1
