use Rattle.std.proofs.Common.{◌≡◌, ◌+◌, ◌<◌, ◌∷◌, true, false, ap, sym, ◌∙◌, eqb, arith}
use Rattle.std.specs.Str.{chars}
use Rattle.yl_text.specs.Character.{is_blank}
use Rattle.yl_row.specs.Entries.{Stopped, state_of}
use Rattle.yl_lexeme.specs.Known.{context_of}
use Rattle.yl_scan.specs.Output.{output_with_step}
use Rattle.yl_scan.specs.Remaining.{Fresh, Halted, remaining_output}
use Rattle.yl_scan.specs.Scanner.{phase_value, state_before}
use Rattle.yl_scan.specs.Step.{step_value}
use Rattle.yl_scan.proofs.Silent.{blank_quiet, stopped_quiet, no_state}
use Rattle.yl_scan.proofs.quiet.quiet_row.Goals as goal

pub returns-then-is_blank_text-clause-told : goal.returns-then-is_blank_text-clause-told
returns-then-is_blank_text-clause-told g c = λ k rows fresh.
    let line = c.args.line in
    let row = chars c.args.text.now in
    let later : 0 < line = omega arith in
    let blank : is_blank row ≡ true = sym c.is_blank_text.ensures ∙ c.if-is_blank_text.true in
    ap (λ resting. remaining_output line (phase_value (eqb line 0) k resting) (row ∷ rows)) c.in-Between.is
    ∙ blank_quiet line row rows k later fresh blank
    ∙ ap (λ t. output_with_step line t (remaining_output (line + 1) (Fresh false k) rows)) (sym (c.silent.ensures.told line (state_of (context_of k))))
    ∙ ap (λ resting. output_with_step line (step_value line (state_before (phase_value (eqb line 0) k resting)) c.silent.result) (remaining_output (line + 1) (phase_value false k resting) rows)) (sym c.in-Between.is)

pub returns-then-is_blank_text-clause-state : goal.returns-then-is_blank_text-clause-state
returns-then-is_blank_text-clause-state g c = λ k.
    let s = state_before (phase_value (eqb c.args.line 0) k c.args.resting.now) in
    no_state c.args.states c.args.line s c.silent.result (c.silent.ensures.told c.args.line s) c.silent.ensures.state

pub returns-then-down-eq0-clause-told : goal.returns-then-down-eq0-clause-told
returns-then-down-eq0-clause-told g c = λ k rows fresh.
    let line = c.args.line in
    let row = chars c.args.text.now in
    let reach = c.in-Halted.reach in
    let none : reach.down ≡ 0 = omega arith in
    ap (λ resting. remaining_output line (phase_value (eqb line 0) k resting) (row ∷ rows)) c.in-Halted.is
    ∙ ap (λ down. remaining_output line (Halted reach.to_end down) (row ∷ rows)) none
    ∙ stopped_quiet line row rows reach.to_end
    ∙ ap (λ t. output_with_step line t (remaining_output (line + 1) (Halted reach.to_end 0) rows)) (sym (c.stopped_row.ensures.told line Stopped))
    ∙ ap (λ down. output_with_step line (step_value line Stopped c.stopped_row.result) (remaining_output (line + 1) (Halted reach.to_end down) rows)) (sym none)
    ∙ ap (λ resting. output_with_step line (step_value line (state_before (phase_value (eqb line 0) k resting)) c.stopped_row.result) (remaining_output (line + 1) (phase_value false k resting) rows)) (sym c.in-Halted.is)
