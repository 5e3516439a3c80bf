-- The state after rows of a section, and the rows in which their lexemes end.
use Rattle.std.proofs.Common.{◌≡◌, ◌<◌, ◌≤◌, ◌+◌, ℕ, true, List, [], ◌∷◌, ◌++◌, length, Option, Some, None, refl, ap, sym, ◌∙◌, arith}
use Rattle.std.specs.Prelude.{option_map}
use Rattle.std.specs.List.{AllByRecursion}
use Rattle.yl_text.proofs.Every.{all_then}
use Rattle.yl_lexeme.specs.Lexeme.{LexemeValue}
use Rattle.yl_events.specs.declared.fault.PlacedParseFault.{PlacedParseFault}
use Rattle.yl_config.specs.declared.config.Config.{Config}
use Rattle.yl_record.specs.Records.{RecordValue}
use Rattle.yl_pieces.specs.State.{DocumentState, start_state}
use Rattle.yl_pieces.specs.Told.{Told, ToldFault, fault_in, is_border, state_after, told}
use Rattle.yl_pieces.specs.Laws.{AreClosed, fault_below}
use Rattle.yl_pieces.specs.Piece.{unless_fault}
use Rattle.yl_pieces.proofs.EditTold.{none_there, none_told}
use Rattle.yl_pieces.proofs.ToldBelowStart.{start_told_below}
use Rattle.yl_section_pieces.specs.Pieces.{IsStateAfter}
use Rattle.yl_section_pieces.specs.BorderJudge.{EndAbove}

-- ---- where lexemes end

pub end_lower : (m n line : ℕ) (rs : List RecordValue) → m ≤ n → EndAbove m line rs → EndAbove n line rs
end_lower m n line [] l h = tt
end_lower m n line (r ∷ rs) l h =
    (all_then (λ (x : LexemeValue). line + x.end.line < m) (λ (x : LexemeValue). line + x.end.line < n) r.entry.lexemes (λ x e. omega (arith, l, e)) h.0, end_lower m n (line + 1) rs l h.1)

pub end_more : (m line : ℕ) (rs : List RecordValue) (r : RecordValue) → EndAbove m line rs → AllByRecursion (λ x. line + length rs + x.end.line < m) r.entry.lexemes → EndAbove m line (rs ++ r ∷ [])
end_more m line [] r h g = (all_then (λ (x : LexemeValue). line + 0 + x.end.line < m) (λ (x : LexemeValue). line + x.end.line < m) r.entry.lexemes (λ x e. omega (arith, e)) g, tt)
end_more m line (q ∷ rs) r h g = (
  h.0,
  end_more m (line + 1) rs r h.1
      (all_then (λ (x : LexemeValue). line + length (q ∷ rs) + x.end.line < m) (λ (x : LexemeValue). line + 1 + length rs + x.end.line < m) r.entry.lexemes (λ x e. omega (arith, e)) g),
)

closed_from : (m line : ℕ) (rs : List RecordValue) → EndAbove m line rs → m ≤ line + length rs → AreClosed rs
closed_from m line [] h l = tt
closed_from m line (r ∷ rs) h l =
    let low : m ≤ line + 1 + length rs = omega (arith, l) in (
      all_then (λ (x : LexemeValue). line + x.end.line < m) (λ (x : LexemeValue). x.end.line < length (r ∷ rs)) r.entry.lexemes (λ x e. omega (arith, e, l)) h.0,
      closed_from m (line + 1) rs h.1 low,
    )

-- ---- the state

some_state : (o : Option PlacedParseFault) (s t : DocumentState) → Some s ≡ unless_fault o t → (o ≡ None) × (s ≡ t)
some_state None s t e = (refl, cc)
some_state (Some f) s t e = (cc, cc)

none_above : (f : Option ToldFault) → option_map (fault_below 1) f ≡ None → f ≡ None
none_above None e = refl
none_above (Some f) e = cc

sound_there : (config : Config) (rs : List RecordValue) → fault_in start_state 1 rs ≡ None → fault_in start_state 0 rs ≡ None
sound_there config rs h =
    none_there start_state 0 rs config
    (none_above (told config start_state 0 rs).fault (sym (ap (λ (t : Told). t.fault) (start_told_below config 1 0 rs).told_is) ∙ none_told start_state 1 rs config h))

-- a judge of these rows holds this state, and their lexemes end above line m
pub state_found : (config : Config) (rs : List RecordValue) (s : DocumentState) (m : ℕ) → 0 < length rs → m ≤ length rs → EndAbove m 0 rs
    → Some s ≡ unless_fault (fault_in start_state 1 rs) (state_after start_state 1 rs) → is_border s ≡ true → IsStateAfter rs s
state_found config rs s m some low ends e border =
    let r = some_state (fault_in start_state 1 rs) s (state_after start_state 1 rs) e in
    let high : m ≤ 0 + length rs = omega (arith, low) in
    record {
      some = some;
      closed = closed_from m 0 rs ends high;
      sound = sound_there config rs r.0;
      state = r.1 ∙ (start_told_below config 1 0 rs).state;
      border = border;
    }
