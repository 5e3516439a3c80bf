use Rattle.std.proofs.Common.{◌≡◌, ◌<◌, ◌+◌, ℕ, List, [], length, Option, Some, None, refl, ap, sym, ◌∙◌, arith, append-nil}
use Rattle.std.specs.Prelude.{IfOk, Result, Ok, Err}
use Rattle.yl_config.specs.declared.config.Config.{Config}
use Rattle.yl_record.specs.Records.{RecordValue}
use Rattle.yl_pieces.specs.State.{DocumentState, start_state}
use Rattle.yl_pieces.specs.Told.{fault_in, is_border, state_after}
use Rattle.yl_pieces.specs.Edit.{after_front}
use Rattle.yl_pieces.specs.Piece.{unless_fault}
use Rattle.yl_pieces.proofs.JoinedTold.{all_joined}
use Rattle.yl_section_pieces.specs.Pieces.{IsStateAfter}
use Rattle.yl_piece_list.proofs.one_piece.copy_of.Goals as goal

none_in : (s : DocumentState) (line : ℕ) → fault_in s line [] ≡ None
none_in s line = refl

no_line : (s : DocumentState) (line : ℕ) → state_after s 1 [] ≡ state_after s line []
no_line s line = refl

-- no rows leave the state as it is
stays : (config : Config) (front : List RecordValue) (s : DocumentState) → IsStateAfter front s → state_after s 1 [] ≡ s
stays config front s h =
    let some : 0 < 0 + length front = let w = h.some in omega arith in
    let border = ap (λ (t : DocumentState). is_border t) h.state in
    let j = all_joined config start_state 0 front [] h.closed some h.sound (sym border ∙ h.border) in
    no_line s (0 + length front)
    ∙ (ap (λ (t : DocumentState). state_after t (0 + length front) []) h.state
    ∙ (sym (j.state (none_in (after_front front) (0 + length front)))
    ∙ (ap (λ (rs : List RecordValue). state_after start_state 0 rs) (append-nil front) ∙ sym h.state)))

copied : {E : Type 0} (config : Config) (s : DocumentState) (r : Result (Option DocumentState) E) → IfOk r (λ after. after ≡ unless_fault (fault_in s 1 []) (state_after s 1 []))
    → IfOk r (λ after. (front : List RecordValue) → IsStateAfter front s → after ≡ Some s)
copied config s (Err x) h = h
copied config s (Ok x) h = by x h where
  by : (after : Option DocumentState) → after ≡ unless_fault (fault_in s 1 []) (state_after s 1 []) → (front : List RecordValue) → IsStateAfter front s → after ≡ Some s
  by after e front at = e ∙ (ap (λ f. unless_fault f (state_after s 1 [])) (none_in s 1) ∙ ap (λ (t : DocumentState). Some t) (stays config front s at))

pub returns : goal.returns
returns g c = copied c.args.config.now c.args.state.now c.state.result (c.state.ensures c.args.config.now c.args.state.now [] c.in_ok-resume.ensures)
