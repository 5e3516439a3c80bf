use Rattle.std.proofs.Common.{◌<◌, ◌∙◌, ◌++◌, ◌∷◌, Option, arith, length, subst, sym}
use Rattle.std.specs.Prelude.{IfSome}
use Rattle.yl_pieces.specs.State.{DocumentState}
use Rattle.yl_section_pieces.specs.Pieces.{IsStateAfter}
use Rattle.yl_section_pieces.specs.Borders.{AreDue}
use Rattle.yl_section_pieces.proofs.CutJudged.{due_more, some_lexeme}
use Rattle.yl_section_pieces.proofs.borders.Borders.note.Goals as goal

pub returns : goal.returns
returns g c = λ config front rest judged due.
    let next = c.saturating_add-self.result in
    let r = c.args.next.now in
    let there = subst (λ (o : Option DocumentState). IfSome o (λ s. IsStateAfter front s)) c.in-Some.is (c.in_ok-state.ensures config front judged) in
    let lexeme : 0 < length r.entry.lexemes = some_lexeme c.lexemes.result.now r.entry.lexemes c.lexemes.ensures c.if-is_empty.ensures in
    subst (λ bs. AreDue (front ++ r ∷ rest) next bs) (sym c.in_ok-push.ensures.items)
    (due_more front r rest c.args.self.now.due next c.args.self.now.all.items _ lexeme due (omega (arith, c.if-from-self.false, c.from.ensures)) (c.rows-row.ensures ∙ judged.rows) (omega (arith, c.from-2.ensures, c.from-3.ensures, c.max.ensures, c.saturating_add-self.ensures)) there)
