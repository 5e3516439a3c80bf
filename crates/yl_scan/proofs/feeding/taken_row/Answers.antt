use Rattle.std.proofs.Common.{◌+◌, ◌∷◌, eqb, ap, sym, ◌∙◌}
use Rattle.std.proofs.lemmas.Result.{IfOk-weaker}
use Rattle.yl_lexeme.specs.Known.{new_row}
use Rattle.yl_lexeme.specs.Surroundings.{surroundings_value}
use Rattle.yl_scan.specs.Remaining.{remaining_output}
use Rattle.std.specs.Prelude.{◌||◌, is_some}
use Rattle.yl_scan.specs.Scanner.{is_halted, phase_value, state_before}
use Rattle.yl_scan.proofs.feeding.taken_row.Goals as goal

pub returns-in-Halted-clause-in_step : goal.returns-in-Halted-clause-in_step
returns-in-Halted-clause-in_step g c = c.halted_row.ensures.in_step (c.args.line + 1)

pub returns-in-Halted-clause-in_text : goal.returns-in-Halted-clause-in_text
returns-in-Halted-clause-in_text g c = c.halted_row.ensures.in_text c.args.line

pub returns-in-Halted-clause-in_order : goal.returns-in-Halted-clause-in_order
returns-in-Halted-clause-in_order g c = λ k. c.halted_row.ensures.in_order c.args.line _ k

pub returns-in-Halted-clause-told : goal.returns-in-Halted-clause-told
returns-in-Halted-clause-told g c = λ rows.
    let k = new_row (surroundings_value c.args.surroundings.now) in
    ap (λ resting. remaining_output c.args.line (phase_value (eqb c.args.line 0) k resting) (c.args.row.now ∷ rows)) c.in-Halted.is
    ∙ c.halted_row.ensures.told c.args.line (state_before (phase_value (eqb c.args.line 0) k c.args.taken)) rows k

pub returns-in-Between-clause-in_order : goal.returns-in-Between-clause-in_order
returns-in-Between-clause-in_order g c = IfOk-weaker c.fresh_row.result _ _ (λ step order k. order _ k) c.fresh_row.ensures.in_order

pub returns-in-Between-clause-halts : goal.returns-in-Between-clause-halts
returns-in-Between-clause-halts g c = IfOk-weaker c.fresh_row.result _ _ (λ step halts k.
    halts k ∙ ap (λ taken. is_halted (phase_value (eqb c.args.line 0) (new_row (surroundings_value c.args.surroundings.now)) taken) || is_some step.failed) (sym c.in-Between.is)) c.fresh_row.ensures.halts

pub returns-in-Halted-clause-halts : goal.returns-in-Halted-clause-halts
returns-in-Halted-clause-halts g c = λ k.
    c.halted_row.ensures.halts k ∙ ap (λ taken. is_halted (phase_value (eqb c.args.line 0) (new_row (surroundings_value c.args.surroundings.now)) taken) || is_some c.halted_row.result.failed) (sym c.in-Halted.is)
