use Rattle.std.proofs.Common.{◌∙◌, ◌<◌, ◌≤◌, length, arith, sym}
use Rattle.yl_pieces.specs.State.{start_state}
use Rattle.yl_section_pieces.proofs.CutState.{state_found}
use Rattle.yl_section_pieces.proofs.border_judge.BorderJudge.border.Goals as goal

pub returns-then-is_border : goal.returns-then-is_border
returns-then-is_border g c = λ config rs h.
    let some : 0 < length rs = omega (arith, h.rows, c.if-self-eq0.false) in
    let low : c.args.self.now.lexeme_rows ≤ length rs = omega (arith, h.rows, c.if-self-from.false, c.from.ensures) in
    state_found config rs c.in-Some.state c.args.self.now.lexeme_rows some low h.lexemes (sym c.in-Some.is ∙ c.in_ok-state.ensures config start_state rs h.judged) (sym c.if-is_border.ensures)
