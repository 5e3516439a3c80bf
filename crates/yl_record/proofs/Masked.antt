-- Rows without their states.
use Rattle.std.proofs.Common.{◌≡◌, ℕ, zero, suc, ◌+◌, ◌-◌, Bool, true, false, cond, List, [], ◌∷◌, ◌++◌, length, map, Option, Some, None, refl, ap, sym, ◌∙◌}
use Rattle.std.proofs.lemmas.List.{map-append, length-map}
use Rattle.yl_lexeme.specs.Known.{SurroundingsValue}
use Rattle.yl_lexeme.specs.Lexeme.{LexemeValue}
use Rattle.yl_row.specs.declared.fault.PlacedScanFault.{PlacedScanFault}
use Rattle.yl_row.specs.Fault.{is_unclosed}
use Rattle.yl_row.specs.Step.{FoundLexemeValue}
use Rattle.yl_row.specs.ScalarReader.{open_found}
use Rattle.yl_row.specs.Entries.{RowEntry, lexeme_of, stopped_rows}
use Rattle.yl_row.specs.Run.{entries_by}
use Rattle.yl_scan.specs.Output.{StepValue}
use Rattle.yl_scan.specs.Remaining.{PhaseValue, Fresh, Within, Halted, rows_to}
use Rattle.yl_scan.specs.Settled.{with_last}
use Rattle.yl_record.specs.Parts.{with_fault_in, with_lexeme_above, with_fault_above, entry_of_step, entries_with_step, entries_with_end, with_state}
use Rattle.yl_record.specs.Recorded.{entries_with_scalar, entries_with_rest, without_state, if_wanted}

abbrev masked : List RowEntry → List RowEntry
masked es = map without_state es

abbrev stateless : StepValue → StepValue
stateless t = with_state None t

mask_last : (n : ℕ) (x : LexemeValue) (es : List RowEntry) → masked (with_last n x es) ≡ with_last n x (masked es)
mask_last zero x [] = refl
mask_last (suc n) x [] = refl
mask_last zero x (e ∷ es) = refl
mask_last (suc n) x (e ∷ es) = ap (λ ys. without_state e ∷ ys) (mask_last n x es)

mask_fault : (n : ℕ) (f : PlacedScanFault) (es : List RowEntry) → masked (with_fault_in n f es) ≡ with_fault_in n f (masked es)
mask_fault zero f [] = refl
mask_fault (suc n) f [] = refl
mask_fault zero f (e ∷ es) = refl
mask_fault (suc n) f (e ∷ es) = ap (λ ys. without_state e ∷ ys) (mask_fault n f es)

mask_above : (taken : ℕ) (a : Option (ℕ × LexemeValue)) (es : List RowEntry) → masked (with_lexeme_above taken a es) ≡ with_lexeme_above taken a (masked es)
mask_above taken None es = refl
mask_above taken (Some p) es = mask_last (p.0 - taken) p.1 es

mask_failed : (taken : ℕ) (f : Option (ℕ × PlacedScanFault)) (es : List RowEntry) → masked (with_fault_above taken f es) ≡ with_fault_above taken f (masked es)
mask_failed taken None es = refl
mask_failed taken (Some p) es = mask_fault (p.0 - taken) p.1 es

pub mask_step : (taken : ℕ) (t : StepValue) (es : List RowEntry) → masked (entries_with_step taken t es) ≡ entries_with_step taken (stateless t) (masked es)
mask_step taken t es =
    mask_failed taken t.fault (with_lexeme_above taken t.above es ++ entry_of_step t ∷ [])
    ∙ ap (with_fault_above taken t.fault) (map-append without_state (with_lexeme_above taken t.above es) (entry_of_step t ∷ []) ∙ ap (λ ys. ys ++ entry_of_step (stateless t) ∷ []) (mask_above taken t.above es))

pub mask_end : (taken : ℕ) (t : StepValue) (es : List RowEntry) → masked (entries_with_end taken t es) ≡ entries_with_end taken t (masked es)
mask_end taken t es = mask_failed taken t.fault (with_lexeme_above taken t.above es) ∙ ap (with_fault_above taken t.fault) (mask_above taken t.above es)

mask_twice : (es : List RowEntry) → masked (masked es) ≡ masked es
mask_twice [] = refl
mask_twice (e ∷ es) = ap (λ ys. without_state e ∷ ys) (mask_twice es)

-- two lists put behind what is the same but for its states
behind_masked : (xs ys fs : List RowEntry) → masked xs ≡ masked ys → masked (xs ++ fs) ≡ masked (ys ++ fs)
behind_masked xs ys fs h = map-append without_state xs fs ∙ ap (λ zs. zs ++ masked fs) h ∙ sym (map-append without_state ys fs)

last_masked : (n : ℕ) (x : LexemeValue) (xs ys : List RowEntry) → masked xs ≡ masked ys → masked (with_last n x xs) ≡ masked (with_last n x ys)
last_masked n x xs ys h = mask_last n x xs ∙ ap (with_last n x) h ∙ sym (mask_last n x ys)

fault_masked : (n : ℕ) (f : PlacedScanFault) (xs ys : List RowEntry) → masked xs ≡ masked ys → masked (with_fault_in n f xs) ≡ masked (with_fault_in n f ys)
fault_masked n f xs ys h = mask_fault n f xs ∙ ap (with_fault_in n f) h ∙ sym (mask_fault n f ys)

same_length : (xs ys : List RowEntry) → masked xs ≡ masked ys → length xs ≡ length ys
same_length xs ys h = sym (length-map xs without_state) ∙ ap length h ∙ length-map ys without_state

scalar_masked : (xs ys : List RowEntry) (line begun taken at : ℕ) (f : FoundLexemeValue) (k : SurroundingsValue) (rows : List (List ℕ)) (g : Option PlacedScanFault) → masked xs ≡ masked ys
    → masked (entries_with_scalar xs line begun taken at f k rows g) ≡ masked (entries_with_scalar ys line begun taken at f k rows g)
scalar_masked xs ys line begun taken at f k rows None h =
    let x = lexeme_of at f in
    behind_masked (with_last (begun - taken) x xs) (with_last (begun - taken) x ys) (entries_by false (rows_to line begun f.down) f.column k rows) (last_masked (begun - taken) x xs ys h)
scalar_masked xs ys line begun taken at f k rows (Some g) h =
    behind_masked (with_fault_in (begun - taken) g xs) (with_fault_in (begun - taken) g ys) (stopped_rows (is_unclosed g.fault) (rows_to line begun g.down) rows) (fault_masked (begun - taken) g xs ys h)

pub rest_masked : (xs ys : List RowEntry) (taken : ℕ) (stand : PhaseValue) (rows : List (List ℕ)) → masked xs ≡ masked ys → masked (entries_with_rest xs taken stand rows) ≡ masked (entries_with_rest ys taken stand rows)
rest_masked xs ys taken (Fresh start k) rows h = behind_masked xs ys (entries_by start 0 0 k rows) h
rest_masked xs ys taken (Within begun style at m k) rows h =
    let f = open_found style at m rows in
    scalar_masked xs ys (taken + length xs) begun taken at f k rows f.fault h
    ∙ ap (λ n. masked (entries_with_scalar ys (taken + n) begun taken at f k rows f.fault)) (same_length xs ys h)
rest_masked xs ys taken (Halted to_end down) rows h = behind_masked xs ys (stopped_rows to_end down rows) h

pub step_wanted : (states : Bool) (taken : ℕ) (t : StepValue) (es : List RowEntry) → if_wanted states es ≡ es
    → if_wanted states (entries_with_step taken (with_state (cond states t.state None) t) es) ≡ entries_with_step taken (with_state (cond states t.state None) t) es
step_wanted true taken t es h = refl
step_wanted false taken t es h = mask_step taken (stateless t) es ∙ ap (entries_with_step taken (stateless t)) h

-- the rest, behind a step with its state and without
pub steps_masked : (taken : ℕ) (t : StepValue) (es : List RowEntry) (stand : PhaseValue) (rows : List (List ℕ))
    → masked (entries_with_rest (entries_with_step taken (with_state None t) es) taken stand rows) ≡ masked (entries_with_rest (entries_with_step taken t es) taken stand rows)
steps_masked taken t es stand rows = rest_masked (entries_with_step taken (stateless t) es) (entries_with_step taken t es) taken stand rows (mask_step taken (stateless t) es ∙ sym (mask_step taken t es))
