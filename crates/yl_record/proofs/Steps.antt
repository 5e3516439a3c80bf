-- A step's row joins the rows told so far.
use Rattle.std.proofs.Common.{◌≡◌, ℕ, zero, suc, ◌+◌, ◌-◌, ◌≤◌, ◌<◌, ◌⊎◌, inl, inr, Bool, true, false, ◌||◌, List, [], ◌∷◌, ◌++◌, length, map, drop, Option, Some, None, refl, ap, sym, subst, ◌∙◌, append_assoc, arith}
use Rattle.std.specs.Prelude.{option_to_list, is_some}
use Rattle.std.specs.Option.{ForSome}
use Rattle.std.specs.List.{AllByRecursion}
use Rattle.std.proofs.lemmas.List.{append-nil, length-append, drop_all, drop-append-le, drop-drop, map-append, length-map, take-append-le}
use Rattle.yl_lexeme.specs.Lexeme.{LexemeValue}
use Rattle.yl_row.specs.declared.fault.PlacedScanFault.{PlacedScanFault}
use Rattle.yl_row.specs.Entries.{RowEntry, LineStateValue, stopped_rows}
use Rattle.yl_scan.specs.Output.{ScanOutput, StepValue, at_line, with_comment, first_fault, output_with_step, no_output, output_of_entries, silent_step}
use Rattle.yl_scan.specs.Remaining.{PhaseValue, Fresh, Within, Halted, remaining_output}
use Rattle.yl_scan.specs.Scanner.{begun_at, is_halted}
use Rattle.yl_scan.specs.Step.{at_end}
use Rattle.yl_scan.specs.Settled.{BeginsFrom, output_then, with_last}
use Rattle.yl_scan.proofs.Settling.{in_turn}
use Rattle.yl_record.specs.Parts.{with_fault_in, with_lexeme_above, with_fault_above, entry_of_step, entries_with_step, entries_with_end}
use Rattle.yl_record.specs.Recorded.{entries_with_rest}
use Rattle.yl_record.specs.Recorder.{AreFaultless, FailsOnce, IsInside, IsOpenSince}
use Rattle.yl_record.proofs.Faults.{FaultFrom, faultless_once, then_once, once_then, both_faultless, fault_once, last_faultless, last_once, left_fault_from, no_fault, rest_once, stopped_faultless, told_once}
use Rattle.yl_record.proofs.Assembled.{assembled, fault_alone, fault_length, fault_put_open, fault_told, last_length, lexeme_put, nothing_then, step_first, then_then}

-- ---- what joins them

abbrev pub above_told : Option (ℕ × LexemeValue) → ScanOutput
above_told a = record { lexemes = option_to_list a; comments = []; states = []; fault = None }

abbrev pub failed_told : Option (ℕ × PlacedScanFault) → ScanOutput
failed_told f = record { lexemes = []; comments = []; states = []; fault = f }

-- a lexeme that ended began where one was in progress
abbrev pub FitsAbove : List RowEntry → ℕ → Option (ℕ × LexemeValue) → Type 0
FitsAbove told taken a = (p : ℕ × LexemeValue) → a ≡ Some p → IsOpenSince told taken p.0

-- a fault lies in these rows, and is the first
abbrev pub FitsFault : List RowEntry → ℕ → Option (ℕ × PlacedScanFault) → Type 0
FitsFault told taken f = (p : ℕ × PlacedScanFault) → f ≡ Some p → (taken ≤ p.0) × (p.0 < taken + length told) × AreFaultless told

pub above_length : (taken : ℕ) (a : Option (ℕ × LexemeValue)) (told : List RowEntry) → length (with_lexeme_above taken a told) ≡ length told
above_length taken None told = refl
above_length taken (Some p) told = last_length (p.0 - taken) p.1 told

pub failed_length : (taken : ℕ) (f : Option (ℕ × PlacedScanFault)) (told : List RowEntry) → length (with_fault_above taken f told) ≡ length told
failed_length taken None told = refl
failed_length taken (Some p) told = fault_length (p.0 - taken) p.1 told

pub above_faultless : (taken : ℕ) (a : Option (ℕ × LexemeValue)) (told : List RowEntry) → AreFaultless told → AreFaultless (with_lexeme_above taken a told)
above_faultless taken None told h = h
above_faultless taken (Some p) told h = last_faultless (p.0 - taken) p.1 told h

pub above_once : (taken : ℕ) (a : Option (ℕ × LexemeValue)) (told : List RowEntry) → FailsOnce told → FailsOnce (with_lexeme_above taken a told)
above_once taken None told h = h
above_once taken (Some p) told h = last_once (p.0 - taken) p.1 told h

above_joins : (told : List RowEntry) (taken : ℕ) (a : Option (ℕ × LexemeValue)) → FitsAbove told taken a → output_of_entries taken (with_lexeme_above taken a told) ≡ output_then (output_of_entries taken told) (above_told a)
above_joins told taken None fits = sym (nothing_then (output_of_entries taken told))
above_joins told taken (Some p) fits = lexeme_put taken p.0 p.1 told (fits p refl)

failed_joins : (told : List RowEntry) (taken : ℕ) (f : Option (ℕ × PlacedScanFault)) → FitsFault told taken f → output_of_entries taken (with_fault_above taken f told) ≡ output_then (output_of_entries taken told) (failed_told f)
failed_joins told taken None fits = sym (nothing_then (output_of_entries taken told))
failed_joins told taken (Some p) fits = let h = fits p refl in fault_put_open taken p.0 p.1 told h.0 h.1 h.2

abbrev row_told : ℕ → StepValue → ScanOutput
row_told line t = output_of_entries line (entry_of_step t ∷ [])

step_in_parts : (line : ℕ) (t : StepValue) → output_then (output_then (above_told t.above) (row_told line t)) (failed_told t.fault) ≡ output_with_step line t no_output
step_in_parts line t = λ i. record {
  lexemes = append-nil (option_to_list t.above ++ (map (at_line line) t.lexemes ++ [])) i;
  comments = append-nil (with_comment line t.comment []) i;
  states = t.state ∷ [];
  fault = sym (fault_alone t.fault) i;
}

end_in_parts : (t : StepValue) → output_then (above_told t.above) (failed_told t.fault) ≡ at_end t
end_in_parts t = λ i. record {
  lexemes = append-nil (option_to_list t.above) i;
  comments = [];
  states = [];
  fault = t.fault;
}

-- the row of a step
pub step_joins : (told : List RowEntry) (taken : ℕ) (t : StepValue) → FitsAbove told taken t.above → FitsFault (with_lexeme_above taken t.above told ++ entry_of_step t ∷ []) taken t.fault
    → output_of_entries taken (entries_with_step taken t told) ≡ output_then (output_of_entries taken told) (output_with_step (taken + length told) t no_output)
step_joins told taken t above fault =
    let put = with_lexeme_above taken t.above told in
    let line = taken + length told in
    failed_joins (put ++ entry_of_step t ∷ []) taken t.fault fault
    ∙ ap (λ o. output_then o (failed_told t.fault)) (in_turn taken put (entry_of_step t ∷ []))
    ∙ ap (λ n. output_then (output_then (output_of_entries taken put) (row_told (taken + n) t)) (failed_told t.fault)) (above_length taken t.above told)
    ∙ ap (λ o. output_then (output_then o (row_told line t)) (failed_told t.fault)) (above_joins told taken t.above above)
    ∙ ap (λ o. output_then o (failed_told t.fault)) (then_then (output_of_entries taken told) (above_told t.above) (row_told line t))
    ∙ then_then (output_of_entries taken told) (output_then (above_told t.above) (row_told line t)) (failed_told t.fault)
    ∙ ap (output_then (output_of_entries taken told)) (step_in_parts line t)

pub end_joins : (told : List RowEntry) (taken : ℕ) (t : StepValue) → FitsAbove told taken t.above → FitsFault (with_lexeme_above taken t.above told) taken t.fault
    → output_of_entries taken (entries_with_end taken t told) ≡ output_then (output_of_entries taken told) (at_end t)
end_joins told taken t above fault =
    failed_joins (with_lexeme_above taken t.above told) taken t.fault fault
    ∙ ap (λ o. output_then o (failed_told t.fault)) (above_joins told taken t.above above)
    ∙ then_then (output_of_entries taken told) (above_told t.above) (failed_told t.fault)
    ∙ ap (output_then (output_of_entries taken told)) (end_in_parts t)

-- ---- what fits a step

pub failed_once : (taken : ℕ) (f : Option (ℕ × PlacedScanFault)) (es : List RowEntry) → FailsOnce es → FitsFault es taken f → FailsOnce (with_fault_above taken f es)
failed_once taken None es once fits = once
failed_once taken (Some p) es once fits = subst FailsOnce (append-nil (with_fault_in (p.0 - taken) p.1 es)) (fault_once (p.0 - taken) p.1 es [] (fits p refl).2 tt)

pub unfailed : (taken : ℕ) (f : Option (ℕ × PlacedScanFault)) (es : List RowEntry) → f ≡ None → AreFaultless es → AreFaultless (with_fault_above taken f es)
unfailed taken None es is h = h
unfailed taken (Some p) es is h = cc

first_some : (f g : Option (ℕ × PlacedScanFault)) (p : ℕ × PlacedScanFault) → f ≡ Some p → first_fault f g ≡ Some p
first_some None g p is = cc
first_some (Some x) g p is = is

from_some : (n : ℕ) (f : Option (ℕ × PlacedScanFault)) (p : ℕ × PlacedScanFault) → f ≡ Some p → FaultFrom n f → n ≤ p.0
from_some n f p is h = let at : FaultFrom n (Some p) = subst (FaultFrom n) is h in at

-- nothing is told of a fault behind one
halted_silent : (line : ℕ) (stand : PhaseValue) (rows : List (List ℕ)) → is_halted stand ≡ true → (remaining_output line stand rows).fault ≡ None
halted_silent line (Fresh start k) rows h = cc
halted_silent line (Within begun style at m k) rows h = cc
halted_silent line (Halted to_end down) rows h = no_fault line (stopped_rows to_end down rows) (stopped_faultless to_end down rows)

abbrev pub IsOpen : List RowEntry → ℕ → PhaseValue → Type 0
IsOpen told taken stand = (b : ℕ) → begun_at stand ≡ Some b → IsOpenSince told taken b

begins_from : (told : List RowEntry) (taken : ℕ) (stand : PhaseValue) → IsOpen told taken stand → BeginsFrom taken stand
begins_from told taken (Fresh start k) since = tt
begins_from told taken (Within begun style at m k) since = (since begun refl).least
begins_from told taken (Halted to_end down) since = tt

-- a fault that is told is not behind another, and lies in a row that was not taken
pub told_fault_fits : (told es : List RowEntry) (taken line : ℕ) (stand : PhaseValue) (rows : List (List ℕ)) (f rest : Option (ℕ × PlacedScanFault)) → taken ≤ line → IsOpen told taken stand
    → (is_halted stand ≡ false → AreFaultless es) → (remaining_output line stand rows).fault ≡ first_fault f rest → ((p : ℕ × PlacedScanFault) → f ≡ Some p → p.0 < taken + length es) → FitsFault es taken f
told_fault_fits told es taken line stand rows f rest le since none same least = λ p is.
    let told_some : (remaining_output line stand rows).fault ≡ Some p = same ∙ first_some f rest p is in
    (from_some taken (remaining_output line stand rows).fault p told_some (left_fault_from taken line stand rows le (begins_from told taken stand since)), least p is, by_case (is_halted stand) refl p told_some)
  where
    by_case : (b : Bool) → is_halted stand ≡ b → (p : ℕ × PlacedScanFault) → (remaining_output line stand rows).fault ≡ Some p → AreFaultless es
    by_case false h p some = none h
    by_case true h p some = let silent = halted_silent line stand rows h in cc

-- ---- a step, and where it leaves the scanner

pub record IsStep (line : ℕ) (stand stand' : PhaseValue) (row : List ℕ) (t : StepValue) : Type 0 where
  pub told : (rows : List (List ℕ)) → remaining_output line stand (row ∷ rows) ≡ output_with_step line t (remaining_output (line + 1) stand' rows)
  pub above : (p : ℕ × LexemeValue) → t.above ≡ Some p → begun_at stand ≡ Some p.0
  pub next : ForSome (begun_at stand') (λ b. b ≡ line) ⊎ ((t ≡ silent_step) × (begun_at stand' ≡ begun_at stand))
  pub halts : is_halted stand' ≡ (is_halted stand || is_some t.fault)
  pub fault : (p : ℕ × PlacedScanFault) → t.fault ≡ Some p → p.0 ≤ line

longer : (xs : List RowEntry) (x : RowEntry) → length (xs ++ x ∷ []) ≡ length xs + 1
longer xs x = length-append xs (x ∷ [])

pub step_fault_fits : (told : List RowEntry) (taken line : ℕ) (stand stand' : PhaseValue) (row : List ℕ) (t : StepValue) (e : RowEntry) → line ≡ taken + length told → e.fault ≡ None → IsOpen told taken stand
    → (is_halted stand ≡ false → AreFaultless told) → IsStep line stand stand' row t → FitsFault (with_lexeme_above taken t.above told ++ e ∷ []) taken t.fault
step_fault_fits told taken line stand stand' row t e at whole since none s =
    let put = with_lexeme_above taken t.above told in
    told_fault_fits told (put ++ e ∷ []) taken line stand (row ∷ []) t.fault (remaining_output (line + 1) stand' []).fault (omega (arith, at)) since
    (λ h. both_faultless put (e ∷ []) (above_faultless taken t.above told (none h)) (whole, tt))
    (ap (λ (o : ScanOutput). o.fault) (s.told []))
    (λ p is. let le : p.0 ≤ line = s.fault p is in let long : length (put ++ e ∷ []) ≡ length told + 1 = longer put e ∙ ap (λ n. n + 1) (above_length taken t.above told) in omega (arith, le, long, at))
