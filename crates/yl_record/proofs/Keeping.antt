-- What a recorder keeps in step: a row is fed, and a text ends.
use Rattle.std.proofs.Common.{◌≡◌, ℕ, zero, suc, ◌+◌, ◌-◌, ◌≤◌, ◌<◌, ◌⊎◌, inl, inr, Bool, true, false, cond, ◌||◌, List, [], ◌∷◌, ◌++◌, length, map, drop, Option, Some, None, refl, ap, sym, subst, ◌∙◌, arith}
use Rattle.std.specs.Prelude.{is_some}
use Rattle.std.specs.Option.{ForSome}
use Rattle.std.specs.List.{AllByRecursion}
use Rattle.std.proofs.lemmas.List.{drop_all, drop-append-le, length-append}
use Rattle.yl_lexeme.specs.Known.{SurroundingsValue}
use Rattle.yl_row.specs.declared.fault.PlacedScanFault.{PlacedScanFault}
use Rattle.yl_row.specs.Step.{FoundLexemeValue}
use Rattle.yl_row.specs.ScalarReader.{open_found}
use Rattle.yl_lexeme.specs.Lexeme.{LexemeValue}
use Rattle.yl_row.specs.Entries.{RowEntry, LineStateValue, stopped_rows}
use Rattle.yl_row.specs.Run.{entries_by}
use Rattle.yl_scan.specs.Output.{ScanOutput, StepValue, output_with_step, no_output, output_of_entries, silent_step}
use Rattle.yl_scan.specs.Remaining.{PhaseValue, Fresh, Within, Halted, rows_to, output_of_scalar, remaining_output}
use Rattle.yl_scan.specs.Scanner.{begun_at, is_halted}
use Rattle.yl_scan.specs.Step.{at_end}
use Rattle.yl_scan.specs.Settled.{output_then}
use Rattle.yl_record.specs.Parts.{with_lexeme_above, with_fault_above, entry_of_step, entries_with_step, entries_with_end, with_state}
use Rattle.yl_record.specs.Recorded.{entries_with_rest, without_state, if_wanted}
use Rattle.yl_record.specs.Recorder.{AreFaultless, FailsOnce, IsInside, IsOpenSince, IsRecording}
use Rattle.yl_record.proofs.Faults.{both_faultless, once_then, no_fault, rest_once, stopped_faultless, told_once}
use Rattle.yl_record.proofs.Assembled.{assembled, fault_alone, step_first}
use Rattle.yl_record.proofs.Masked.{mask_end, step_wanted, steps_masked}
use Rattle.yl_record.proofs.Steps.{FitsAbove, FitsFault, IsOpen, IsStep, above_faultless, above_length, above_once, end_joins, failed_length, failed_once, step_fault_fits, step_joins, told_fault_fits, unfailed}

pub step_length : (taken : ℕ) (t : StepValue) (told : List RowEntry) → length (entries_with_step taken t told) ≡ length told + 1
step_length taken t told =
    failed_length taken t.fault (with_lexeme_above taken t.above told ++ entry_of_step t ∷ [])
    ∙ length-append (with_lexeme_above taken t.above told) (entry_of_step t ∷ []) ∙ ap (λ n. n + 1) (above_length taken t.above told)

inside_too : (xs ys : List RowEntry) → AllByRecursion IsInside xs → AllByRecursion IsInside ys → AllByRecursion IsInside (xs ++ ys)
inside_too [] ys h k = k
inside_too (x ∷ xs) ys h k = (h.0, inside_too xs ys h.1 k)

-- a step that tells nothing leaves all rows inside
silent_open : (told : List RowEntry) (taken b : ℕ) (e : RowEntry) → IsInside e → IsOpenSince told taken b → IsOpenSince (told ++ e ∷ []) taken b
silent_open told taken b e quiet h =
    let long : length (told ++ e ∷ []) ≡ length told + 1 = length-append told (e ∷ []) in
    record {
      least = h.least;
      most = omega (arith, h.most, long);
      inside = subst (AllByRecursion IsInside) (sym (drop-append-le (suc (b - taken)) told (e ∷ []) (omega (arith, h.least, h.most)))) (inside_too (drop (suc (b - taken)) told) (e ∷ []) h.inside (quiet, tt));
    }

-- a scalar that began in the last of these rows
last_open : (es : List RowEntry) (taken line b : ℕ) → b ≡ line → taken ≤ line → line + 1 ≡ taken + length es → IsOpenSince es taken b
last_open es taken line b at le long =
    record {
      least = omega (arith, at, le);
      most = omega (arith, at, long);
      inside = subst (AllByRecursion IsInside) (sym (drop_all (suc (b - taken)) es (omega (arith, at, le, long)))) tt;
    }

or_left : (a b : Bool) → (a || b) ≡ false → a ≡ false
or_left false b h = refl
or_left true b h = cc

or_right : (a b : Bool) → (a || b) ≡ false → b ≡ false
or_right false b h = h
or_right true b h = cc

none_there : (f : Option (ℕ × PlacedScanFault)) → is_some f ≡ false → f ≡ None
none_there None h = refl
none_there (Some p) h = cc

module _ (told : List RowEntry) (taken line : ℕ) (stand stand' : PhaseValue) (row : List ℕ) (t : StepValue) (x : Option LineStateValue) (at : line ≡ taken + length told) (since : IsOpen told taken stand)
    (once : FailsOnce told) (none : is_halted stand ≡ false → AreFaultless told) (s : IsStep line stand stand' row t) (quiet : t ≡ silent_step → x ≡ None) where
  abbrev now : StepValue
  now = with_state x t

  abbrev put : List RowEntry
  put = with_lexeme_above taken t.above told ++ entry_of_step now ∷ []

  fits_above : FitsAbove told taken t.above
  fits_above = λ p is. since p.0 (s.above p is)

  fits_fault : FitsFault put taken t.fault
  fits_fault = step_fault_fits told taken line stand stand' row t (entry_of_step now) at refl since none s

  pub fed_once : FailsOnce (entries_with_step taken now told)
  fed_once = failed_once taken t.fault put (once_then (with_lexeme_above taken t.above told) (entry_of_step now ∷ []) (above_once taken t.above told once) (refl, tt)) fits_fault

  pub fed_faultless : is_halted stand' ≡ false → AreFaultless (entries_with_step taken now told)
  fed_faultless h =
      let both : (is_halted stand || is_some t.fault) ≡ false = sym s.halts ∙ h in
      let whole = none (or_left (is_halted stand) (is_some t.fault) both) in
      unfailed taken t.fault put (none_there t.fault (or_right (is_halted stand) (is_some t.fault) both)) (both_faultless (with_lexeme_above taken t.above told) (entry_of_step now ∷ []) (above_faultless taken t.above told whole) (refl, tt))

  pub fed_open : IsOpen (entries_with_step taken now told) taken stand'
  fed_open b is = by_case s.next
    where
      by_case : ForSome (begun_at stand') (λ b. b ≡ line) ⊎ ((t ≡ silent_step) × (begun_at stand' ≡ begun_at stand)) → IsOpenSince (entries_with_step taken now told) taken b
      by_case (inl h) = last_open (entries_with_step taken now told) taken line b (h b is) (omega (arith, at)) (omega (arith, at, step_length taken now told))
      by_case (inr h) =
          let same : with_state None silent_step ≡ now = ap (λ y. with_state y silent_step) (sym (quiet h.0)) ∙ ap (with_state x) (sym h.0) in
          subst (λ u. IsOpenSince (entries_with_step taken u told) taken b) same (silent_open told taken b (entry_of_step silent_step) (refl, refl) (since b (sym h.1 ∙ is)))

  -- the rows that follow
  pub fed_told : (rows : List (List ℕ)) → x ≡ t.state → entries_with_rest told taken stand (row ∷ rows) ≡ entries_with_rest (entries_with_step taken now told) taken stand' rows
  fed_told rows same =
      let told' = entries_with_step taken now told in
      let o = output_of_entries taken told in
      let is : now ≡ t = ap (λ y. with_state y t) same in
      let here : line + 1 ≡ taken + length told' = omega (arith, at, step_length taken now told) in
      told_once taken (entries_with_rest told taken stand (row ∷ rows)) (entries_with_rest told' taken stand' rows)
      (rest_once told taken stand (row ∷ rows) once none) (rest_once told' taken stand' rows fed_once fed_faultless)
      (assembled told taken stand (row ∷ rows) since none
      ∙ ap (λ n. output_then o (remaining_output n stand (row ∷ rows))) (sym at)
      ∙ ap (output_then o) (s.told rows)
      ∙ sym (step_first line t o (remaining_output (line + 1) stand' rows))
      ∙ ap (λ u. output_then (output_then o (output_with_step line u no_output)) (remaining_output (line + 1) stand' rows)) (sym is)
      ∙ ap (λ n. output_then (output_then o (output_with_step n now no_output)) (remaining_output (line + 1) stand' rows)) at
      ∙ ap (λ p. output_then p (remaining_output (line + 1) stand' rows)) (sym (step_joins told taken now fits_above fits_fault))
      ∙ ap (λ n. output_then (output_of_entries taken told') (remaining_output n stand' rows)) here
      ∙ sym (assembled told' taken stand' rows fed_open fed_faultless))

-- ---- a row that is fed

wanted_quiet : (states : Bool) (t : StepValue) → t ≡ silent_step → cond states t.state None ≡ None
wanted_quiet true t h = ap (λ (u : StepValue). u.state) h
wanted_quiet false t h = refl

pub row_kept : (told : List RowEntry) (taken line : ℕ) (states : Bool) (stand stand' : PhaseValue) (row : List ℕ) (t : StepValue) → line ≡ taken + length told → IsRecording told taken states stand
    → IsStep line stand stand' row t → IsRecording (entries_with_step taken (with_state (cond states t.state None) t) told) taken states stand'
row_kept told taken line states stand stand' row t at r s =
    let x = cond states t.state None in
    let quiet = wanted_quiet states t in
    record {
      open_since = fed_open told taken line stand stand' row t x at r.open_since r.once r.faultless s quiet;
      once = fed_once told taken line stand stand' row t x at r.open_since r.once r.faultless s quiet;
      faultless = fed_faultless told taken line stand stand' row t x at r.open_since r.once r.faultless s quiet;
      wanted = step_wanted states taken t told r.wanted;
    }

pub row_told : (told : List RowEntry) (taken line : ℕ) (states : Bool) (stand stand' : PhaseValue) (row : List ℕ) (t : StepValue) → line ≡ taken + length told → IsRecording told taken states stand
    → IsStep line stand stand' row t → (rows : List (List ℕ))
    → if_wanted states (entries_with_rest (entries_with_step taken (with_state (cond states t.state None) t) told) taken stand' rows) ≡ if_wanted states (entries_with_rest told taken stand (row ∷ rows))
row_told told taken line true stand stand' row t at r s rows = sym (fed_told told taken line stand stand' row t t.state at r.open_since r.once r.faultless s (wanted_quiet true t) rows refl)
row_told told taken line false stand stand' row t at r s rows =
    steps_masked taken t told stand' rows
    ∙ ap (map without_state) (sym (fed_told told taken line stand stand' row t t.state at r.open_since r.once r.faultless s (wanted_quiet true t) rows refl))

-- ---- the text's end

-- a fault that shows at the end is that of the scalar in progress
scalar_ends : (line begun at : ℕ) (f : FoundLexemeValue) (k : SurroundingsValue) (g : Option PlacedScanFault) (p : ℕ × PlacedScanFault) → (output_of_scalar line begun at f k [] g).fault ≡ Some p → begun ≡ p.0
scalar_ends line begun at f k None p is = let none = no_rows (rows_to line begun f.down) f.column k in cc
  where
    no_rows : (down column : ℕ) (k : SurroundingsValue) → (output_of_entries line (entries_by false down column k [])).fault ≡ None
    no_rows zero column k = refl
    no_rows (suc zero) column k = refl
    no_rows (suc (suc down)) column k = refl
scalar_ends line begun at f k (Some g) p is = let pair : ◌≡◌ {A = ℕ × PlacedScanFault} (begun, g) p = cc in ap (λ (q : ℕ × PlacedScanFault). q.0) pair

end_fault : (line : ℕ) (stand : PhaseValue) (p : ℕ × PlacedScanFault) → (remaining_output line stand []).fault ≡ Some p → begun_at stand ≡ Some p.0
end_fault line (Fresh start k) p is = cc
end_fault line (Within begun style at m k) p is = let f = open_found style at m [] in ap Some (scalar_ends line begun at f k f.fault p is)
end_fault line (Halted to_end zero) p is = cc
end_fault line (Halted to_end (suc down)) p is = cc

module _ (told : List RowEntry) (taken line : ℕ) (stand : PhaseValue) (t : StepValue) (at : line ≡ taken + length told) (since : IsOpen told taken stand) (once : FailsOnce told)
    (none : is_halted stand ≡ false → AreFaultless told) (ends : remaining_output line stand [] ≡ at_end t) (above : (p : ℕ × LexemeValue) → t.above ≡ Some p → begun_at stand ≡ Some p.0) where
  end_fits : FitsFault (with_lexeme_above taken t.above told) taken t.fault
  end_fits =
      told_fault_fits told (with_lexeme_above taken t.above told) taken line stand [] t.fault None (omega (arith, at)) since (λ h. above_faultless taken t.above told (none h))
      (ap (λ (o : ScanOutput). o.fault) ends ∙ sym (fault_alone t.fault))
      (λ p is. let most = (since p.0 (end_fault line stand p (ap (λ (o : ScanOutput). o.fault) ends ∙ is))).most in omega (arith, most, above_length taken t.above told))

  pub end_told : entries_with_rest told taken stand [] ≡ entries_with_end taken t told
  end_told =
      let o = output_of_entries taken told in
      told_once taken (entries_with_rest told taken stand []) (entries_with_end taken t told)
      (rest_once told taken stand [] once none) (failed_once taken t.fault (with_lexeme_above taken t.above told) (above_once taken t.above told once) end_fits)
      (assembled told taken stand [] since none ∙ ap (λ n. output_then o (remaining_output n stand [])) (sym at) ∙ ap (output_then o) ends
      ∙ sym (end_joins told taken t (λ p is. since p.0 (above p is)) end_fits))

pub text_ends : (told : List RowEntry) (taken line : ℕ) (states : Bool) (stand : PhaseValue) (t : StepValue) → line ≡ taken + length told → IsRecording told taken states stand
    → remaining_output line stand [] ≡ at_end t → ((p : ℕ × LexemeValue) → t.above ≡ Some p → begun_at stand ≡ Some p.0)
    → if_wanted states (entries_with_rest told taken stand []) ≡ entries_with_end taken t told
text_ends told taken line true stand t at r ends above = end_told told taken line stand t at r.open_since r.once r.faultless ends above
text_ends told taken line false stand t at r ends above =
    ap (map without_state) (end_told told taken line stand t at r.open_since r.once r.faultless ends above) ∙ mask_end taken t told ∙ ap (entries_with_end taken t) r.wanted

-- where the scalar in progress began, if its fault shows at the end
pub end_place : (line : ℕ) (stand : PhaseValue) (t : StepValue) (p : ℕ × PlacedScanFault) → remaining_output line stand [] ≡ at_end t → t.fault ≡ Some p → begun_at stand ≡ Some p.0
end_place line stand t p ends is = end_fault line stand p (ap (λ (o : ScanOutput). o.fault) ends ∙ is)
