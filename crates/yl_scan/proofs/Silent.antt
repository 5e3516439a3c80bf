-- Rows that tell no more than whether they are sound, and leave the scanner as it stands.
use Rattle.std.proofs.Common.{◌≡◌, ℕ, ◌+◌, ◌<◌, Bool, true, false, cond, not, ◌&&◌, List, [], ◌∷◌, Some, None, ap, sym, ◌∙◌, eqb}
use Rattle.yl_text.specs.Character.{is_blank}
use Rattle.yl_lexeme.specs.Known.{SurroundingsValue, new_row}
use Rattle.yl_row.specs.Entries.{LineStateValue, Stopped}
use Rattle.yl_scan.specs.declared.step.Step.{Step}
use Rattle.yl_scan.specs.Output.{StepValue, output_with_step, silent_step}
use Rattle.yl_scan.specs.Remaining.{Fresh, Halted, remaining_output}
use Rattle.yl_scan.specs.Step.{state_by, step_value}
use Rattle.yl_scan.proofs.Fed.{blank_told}
use Rattle.yl_scan.proofs.Stepping.{not_first, halts}

module _ (line : ℕ) (row : List ℕ) (rows : List (List ℕ)) where
  pub blank_quiet : (k : SurroundingsValue) → 0 < line → new_row k ≡ k → is_blank row ≡ true
      → remaining_output line (Fresh (eqb line 0) k) (row ∷ rows) ≡ output_with_step line silent_step (remaining_output (line + 1) (Fresh false k) rows)
  blank_quiet k lt fresh h = sym (not_first line 0 k row rows lt) ∙ blank_told line row rows k fresh h

  pub stopped_quiet : (to_end : Bool)
      → remaining_output line (Halted to_end 0) (row ∷ rows)
      ≡ output_with_step line (record { above = None; lexemes = []; comment = None; state = cond (not to_end && not (is_blank row)) (Some Stopped) None; fault = None }) (remaining_output (line + 1) (Halted to_end 0) rows)
  stopped_quiet to_end = halts line row rows to_end 0

-- where no state is made, none is told
pub no_state : {A : Type 0} (wanted : Bool) (line : ℕ) (s : LineStateValue) (step : Step A) → step_value line s step ≡ silent_step → step.state ≡ None → step.state ≡ cond wanted (state_by s step.sound) None
no_state true line s step told none = none ∙ sym (ap (λ (t : StepValue). t.state) told)
no_state false line s step told none = none
