use Rattle.std.proofs.Common.{◌≡◌, ◌∙◌, true, false, refl, rules, tests}
use Rattle.std.specs.Prelude.{is_some}
use Rattle.yl_pieces.proofs.PieceEnds.{state_is}
use Rattle.yl_pieces.proofs.PieceMore.{going, has_stopped, no_state, some_state}
use Rattle.yl_pieces.proofs.piece.PieceJudge.state.Goals as goal

pub returns-then-is_some : goal.returns-then-is_some
returns-then-is_some g c = λ config s rs h.
    let j = c.args.self.now in
    let some : is_some j.fault ≡ true = search (rules, tests) in
    no_state config s rs j (has_stopped config s rs j some h)

pub returns : goal.returns
returns g c = λ config s rs h.
    let j = c.args.self.now in
    let none : is_some j.fault ≡ false = search (rules, tests) in
    let go = going config s rs j none h in
    let b = go.rows in
    some_state config s rs j go _ (c.in_ok-state.ensures ∙ state_is config s b.from b.go_on rs j.rows b.read _ _ _ _ refl refl refl refl)
