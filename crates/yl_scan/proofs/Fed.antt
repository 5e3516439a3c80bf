-- What a row tells, and what the rows below still tell.
use Rattle.std.proofs.Common.{◌≡◌, ℕ, zero, suc, ◌+◌, ◌-◌, ◌≤◌, ◌⊎◌, inl, inr, Bool, true, false, cond, not, ◌&&◌, ◌||◌, List, [], ◌∷◌, drop, Option, Some, None, refl, ap, ◌∙◌, ltb, lt-ltb, arith, sub-one}
use Rattle.yl_text.specs.Character.{is_white, is_blank}
use Rattle.yl_row.specs.Step.{first_tab}
use Rattle.yl_lexeme.specs.Known.{SurroundingsValue, context_of, new_row}
use Rattle.yl_row.specs.Entries.{LineStateValue, Stopped, state_of, reading_below, sound_state, stopped_rows}
use Rattle.yl_row.specs.Run.{row_reading_by, entries_by}
use Rattle.yl_scan.specs.Output.{ScanOutput, output_with_step, output_of_entries, silent_step}
use Rattle.yl_scan.specs.Remaining.{output_of_row}

-- ---- where nothing but white space follows, a row is at its end

and_left : (a b : Bool) → (a && b) ≡ true → a ≡ true
and_left true b h = refl
and_left false b h = h

and_right : (a b : Bool) → (a && b) ≡ true → b ≡ true
and_right true b h = h
and_right false b h = cc

positive : (n : ℕ) → ltb 0 (suc n) ≡ true
positive n = lt-ltb 0 (suc n) (omega arith)

pub over : (rows : List (List ℕ)) (tab : Option ℕ) (n : ℕ) (bs first : Bool) (at : ℕ) (k : SurroundingsValue) (cs : List ℕ) → is_blank (drop n cs) ≡ true
    → row_reading_by rows tab n bs first at k cs ≡ reading_below 0 0 (new_row k)
over rows tab n bs first at k [] h = refl
over rows tab zero bs first at k (c ∷ cs) h =
    let w = and_left (is_white c) (is_blank cs) h in
    rw w (over rows tab 0 true first (at + 1) k cs (and_right (is_white c) (is_blank cs) h))
over rows tab (suc n) bs first at k (c ∷ cs) h = rw (positive n, sub-one) (over rows tab n false first (at + 1) k cs h)

pub any_column : (column other : ℕ) (start : Bool) (k : SurroundingsValue) (rows : List (List ℕ)) → entries_by start 0 column k rows ≡ entries_by start 0 other k rows
any_column column other start k [] = refl
any_column column other start k (row ∷ rows) = refl

module _ (line : ℕ) (row : List ℕ) (rows : List (List ℕ)) where
  abbrev quiet : Option LineStateValue → SurroundingsValue → ScanOutput
  quiet state k = output_with_step line (record { above = None; lexemes = []; comment = None; state = state; fault = None }) (output_of_entries (line + 1) (entries_by false 0 0 k rows))

  pub blank_told : (k : SurroundingsValue) → new_row k ≡ k → is_blank row ≡ true → output_of_entries line (entries_by false 0 0 k (row ∷ rows)) ≡ quiet None k
  blank_told k e h =
      ap (output_of_row line rows (sound_state false row (context_of k))) (over rows (first_tab false row) 0 true true 0 k row h)
      ∙ ap (λ k'. quiet (sound_state false row (context_of k)) k') e
      ∙ ap (λ b. quiet (cond (not b) (Some (state_of (context_of k))) None) k) h

  rest_told : (column : ℕ) (k : SurroundingsValue) → new_row k ≡ k → is_blank (drop column row) ≡ true → output_of_entries line (entries_by false 1 column k (row ∷ rows)) ≡ quiet None k
  rest_told column k e h = ap (output_of_row line rows None) (over rows (first_tab true row) column false false 0 k row h) ∙ ap (quiet None) e

  -- a scalar goes on: so many rows further down the reading goes on, behind a column
  pub goes_on : (down column : ℕ) (k : SurroundingsValue) → new_row k ≡ k
      → ((down ≡ 0) × (is_blank row ≡ true)) ⊎ (((down ≡ 1) × (is_blank (drop column row) ≡ true)) ⊎ (2 ≤ down))
      → output_of_entries line (entries_by false down column k (row ∷ rows)) ≡ output_with_step line silent_step (output_of_entries (line + 1) (entries_by false (down - 1) column k rows))
  goes_on zero column k e (inl h) = blank_told k e h.1 ∙ ap (λ es. output_with_step line silent_step (output_of_entries (line + 1) es)) (any_column 0 column false k rows)
  goes_on zero column k e (inr (inl h)) = let no : zero ≡ 1 = h.0 in cc
  goes_on zero column k e (inr (inr h)) = absurd (omega arith)
  goes_on (suc zero) column k e (inl h) = let no : suc zero ≡ 0 = h.0 in cc
  goes_on (suc zero) column k e (inr (inl h)) = rest_told column k e h.1 ∙ ap (λ es. output_with_step line silent_step (output_of_entries (line + 1) es)) (any_column 0 column false k rows)
  goes_on (suc zero) column k e (inr (inr h)) = absurd (omega arith)
  goes_on (suc (suc down)) column k e h = rw sub-one refl

  -- the same of a fault that stands further down
  stop_silent : (to_end b : Bool) → (b || to_end) ≡ true → cond (b || to_end) None (Some Stopped) ≡ None
  stop_silent to_end b h = rw h

  pub reach_goes_on : (to_end : Bool) (down : ℕ) → ((is_blank row || to_end) ≡ true) ⊎ (1 ≤ down)
      → output_of_entries line (stopped_rows to_end down (row ∷ rows)) ≡ output_with_step line silent_step (output_of_entries (line + 1) (stopped_rows to_end (down - 1) rows))
  reach_goes_on to_end zero (inl h) =
      ap (λ state. output_with_step line (record { above = None; lexemes = []; comment = None; state = state; fault = None }) (output_of_entries (line + 1) (stopped_rows to_end 0 rows)))
      (stop_silent to_end (is_blank row) h)
  reach_goes_on to_end zero (inr h) = absurd (omega arith)
  reach_goes_on to_end (suc down) h = rw sub-one refl
