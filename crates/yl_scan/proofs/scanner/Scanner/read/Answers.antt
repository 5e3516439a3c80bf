use Rattle.std.proofs.Common.{◌≡◌, ℕ, ◌||◌, ◌+◌, false, cond, None, ◌∷◌, refl, ap, sym, subst, ◌∙◌, eqb, add-one}
use Rattle.std.proofs.Math.Dec.{eqb-suc-zero}
use Rattle.std.proofs.lemmas.Result.{IfOk-weaker}
use Rattle.std.specs.Prelude.{IfSome, is_some}
use Rattle.std.specs.Str.{chars}
use Rattle.yl_lexeme.specs.Known.{context_of, new_row}
use Rattle.yl_lexeme.specs.Surroundings.{surroundings_value}
use Rattle.yl_row.specs.Entries.{state_of}
use Rattle.yl_scan.specs.Alone.{HoldsAlone}
use Rattle.yl_scan.specs.Output.{output_with_step}
use Rattle.yl_scan.specs.Remaining.{Fresh, remaining_output}
use Rattle.yl_scan.specs.declared.phase.Phase.TheVariants.{Between}
use Rattle.yl_scan.specs.Scanner.{ScannerValue, begun_at, is_halted, phase_value, state_before}
use Rattle.yl_scan.specs.Step.{BeginsInText, state_by, step_value}
use Rattle.yl_scan.proofs.Alone.{alone_told}
use Rattle.yl_scan.proofs.Stepping.{same_order, wanted_told}
use Rattle.yl_scan.proofs.scanner.Scanner.read.Goals as goal

past_start : (line : ℕ) → eqb (line + 1) 0 ≡ false
past_start line = rw (add-one, eqb-suc-zero)

pub returns-clause-told : goal.returns-clause-told
returns-clause-told g c = IfOk-weaker c.fed_row.result _ _ (λ step told rows.
    let s = c.self.inside in
    let k = new_row (surroundings_value s.surroundings) in
    let stand = phase_value (eqb s.line 0) k in
    let row = chars c.args.text.now in
    let below = remaining_output (s.line + 1) (phase_value (eqb (s.line + 1) 0) (new_row (surroundings_value c.fed_row.new.surroundings)) c.fed_row.new.resting) rows in
    ap (λ (v : ScannerValue). remaining_output v.line v.stand (row ∷ rows)) (sym c.self.view_is)
    ∙ ap (λ cs. remaining_output s.line (stand s.resting) (cs ∷ rows)) (sym (c.deref.ensures.value ∙ c.in_ok-characters_of.ensures.ok))
    ∙ told rows
    ∙ ap (λ b. output_with_step s.line (step_value s.line (state_before (stand s.resting)) step) (remaining_output (s.line + 1) (phase_value b (new_row (surroundings_value c.fed_row.new.surroundings)) c.fed_row.new.resting) rows)) (sym (past_start s.line))
    ∙ ap (λ (v : ScannerValue). output_with_step v.line (step_value v.line (state_before v.stand) step) below) c.self.view_is) c.fed_row.ensures.told

pub returns-clause-state : goal.returns-clause-state
returns-clause-state g c = IfOk-weaker c.fed_row.result _ _ (λ step state.
    let s = c.self.inside in
    subst (λ (v : ScannerValue). step.state ≡ cond v.states (state_by (state_before v.stand) step.sound) None) c.self.view_is
    (state ∙ wanted_told s.states c.in_ok-before.before (state_before (phase_value (eqb s.line 0) (new_row (surroundings_value s.surroundings)) s.resting)) step.sound (c.in_ok-before.ensures (eqb s.line 0)))) c.fed_row.ensures.state

pub returns-clause-in_order : goal.returns-clause-in_order
returns-clause-in_order g c = IfOk-weaker c.fed_row.result _ _ (λ step order.
    let s = c.self.inside in
    let k = new_row (surroundings_value c.fed_row.new.surroundings) in
    let stand = phase_value (eqb s.line 0) (new_row (surroundings_value s.surroundings)) in
    same_order s.line _ (begun_at (stand s.resting)) _ (begun_at (phase_value false k c.fed_row.new.resting)) _ step
    (ap (λ (v : ScannerValue). v.line) c.self.view_is)
    (ap (λ (v : ScannerValue). begun_at v.stand) c.self.view_is)
    (ap (λ b. begun_at (phase_value b k c.fed_row.new.resting)) (sym (past_start s.line)))
    (order k)) c.fed_row.ensures.in_order

pub returns-clause-halts : goal.returns-clause-halts
returns-clause-halts g c = IfOk-weaker c.fed_row.result _ _ (λ step halts.
    let s = c.self.inside in
    let k = new_row (surroundings_value c.fed_row.new.surroundings) in
    ap (λ b. is_halted (phase_value b k c.fed_row.new.resting)) (past_start s.line)
    ∙ halts k
    ∙ ap (λ (v : ScannerValue). is_halted v.stand || is_some step.failed) c.self.view_is) c.fed_row.ensures.halts

-- ---- a row that tells no more than whether it is sound

pub returns-in-Some-clause-told : goal.returns-in-Some-clause-told
returns-in-Some-clause-told g c = λ rows.
    let s = c.self.inside in
    let k = new_row (surroundings_value s.surroundings) in
    let step = c.in-Some.step in
    ap (λ (v : ScannerValue). remaining_output v.line v.stand (chars c.args.text.now ∷ rows)) (sym c.self.view_is)
    ∙ c.in-Some.ensures.told k rows refl
    ∙ ap (λ b. output_with_step s.line (step_value s.line (state_before (phase_value (eqb s.line 0) k s.resting)) step) (remaining_output (s.line + 1) (phase_value b k s.resting) rows)) (sym (past_start s.line))
    ∙ ap (λ (v : ScannerValue). output_with_step v.line (step_value v.line (state_before v.stand) step) (remaining_output (s.line + 1) (phase_value (eqb (s.line + 1) 0) k s.resting) rows)) c.self.view_is

pub returns-in-Some-clause-state : goal.returns-in-Some-clause-state
returns-in-Some-clause-state g c =
    let step = c.in-Some.step in
    subst (λ (v : ScannerValue). step.state ≡ cond v.states (state_by (state_before v.stand) step.sound) None) c.self.view_is (c.in-Some.ensures.state (new_row (surroundings_value c.self.inside.surroundings)))

pub returns-in-Some-clause-in_text : goal.returns-in-Some-clause-in_text
returns-in-Some-clause-in_text g c = subst (λ (v : ScannerValue). BeginsInText v.line c.in-Some.step) c.self.view_is c.in-Some.ensures.in_text

pub returns-in-Some-clause-in_order : goal.returns-in-Some-clause-in_order
returns-in-Some-clause-in_order g c =
    let s = c.self.inside in
    let k = new_row (surroundings_value s.surroundings) in
    same_order s.line _ (begun_at (phase_value (eqb s.line 0) k s.resting)) _ (begun_at (phase_value false k s.resting)) _ c.in-Some.step
    (ap (λ (v : ScannerValue). v.line) c.self.view_is)
    (ap (λ (v : ScannerValue). begun_at v.stand) c.self.view_is)
    (ap (λ b. begun_at (phase_value b k s.resting)) (sym (past_start s.line)))
    (c.in-Some.ensures.in_order k)

pub returns-in-Some-clause-halts : goal.returns-in-Some-clause-halts
returns-in-Some-clause-halts g c =
    let s = c.self.inside in
    let k = new_row (surroundings_value s.surroundings) in
    ap (λ b. is_halted (phase_value b k s.resting)) (past_start s.line)
    ∙ c.in-Some.ensures.halts k
    ∙ ap (λ (v : ScannerValue). is_halted v.stand || is_some c.in-Some.step.failed) c.self.view_is

-- ---- a row that holds a comment alone

pub returns-in-Some-2-clause-told : goal.returns-in-Some-2-clause-told
returns-in-Some-2-clause-told g c = λ rows.
    let s = c.self.inside in
    let k = new_row (surroundings_value s.surroundings) in
    let row = chars c.args.text.now in
    let step = c.comment_row.result in
    let between : s.resting ≡ Between = subst (λ found. IfSome found (λ _. s.resting ≡ Between)) c.in-Some-2.is c.in_ok-comment.ensures.between in
    let alone : HoldsAlone row c.in-Some-2.comment = subst (λ found. IfSome found (HoldsAlone row)) c.in-Some-2.is c.in_ok-comment.ensures.alone in
    ap (λ (v : ScannerValue). remaining_output v.line v.stand (row ∷ rows)) (sym c.self.view_is)
    ∙ ap (λ resting. remaining_output s.line (phase_value (eqb s.line 0) k resting) (row ∷ rows)) between
    ∙ alone_told s.line row rows k c.in-Some-2.comment alone refl
    ∙ ap (λ t. output_with_step s.line t (remaining_output (s.line + 1) (Fresh false k) rows)) (sym (c.comment_row.ensures.told s.line (state_of (context_of k))))
    ∙ ap (λ resting. output_with_step s.line (step_value s.line (state_before (phase_value (eqb s.line 0) k resting)) step) (remaining_output (s.line + 1) (phase_value false k resting) rows)) (sym between)
    ∙ ap (λ b. output_with_step s.line (step_value s.line (state_before (phase_value (eqb s.line 0) k s.resting)) step) (remaining_output (s.line + 1) (phase_value b k s.resting) rows)) (sym (past_start s.line))
    ∙ ap (λ (v : ScannerValue). output_with_step v.line (step_value v.line (state_before v.stand) step) (remaining_output (s.line + 1) (phase_value (eqb (s.line + 1) 0) k s.resting) rows)) c.self.view_is

pub returns-in-Some-2-clause-state : goal.returns-in-Some-2-clause-state
returns-in-Some-2-clause-state g c =
    let s = c.self.inside in
    let step = c.comment_row.result in
    subst (λ (v : ScannerValue). step.state ≡ cond v.states (state_by (state_before v.stand) step.sound) None) c.self.view_is
    (c.comment_row.ensures.state ∙ wanted_told s.states c.in_ok-before.before (state_before (phase_value (eqb s.line 0) (new_row (surroundings_value s.surroundings)) s.resting)) step.sound (c.in_ok-before.ensures (eqb s.line 0)))
