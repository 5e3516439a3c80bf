-- What a row tells where a scalar is carried into it.
use Rattle.std.proofs.Common.{◌≡◌, ℕ, zero, suc, ◌+◌, ◌-◌, ◌≤◌, ◌<◌, ◌⊎◌, inl, inr, true, false, cond, ◌||◌, List, [], ◌∷◌, ◌++◌, drop, map, Option, Some, None, refl, ap, sym, subst, ◌∙◌, arith}
use Rattle.std.specs.Prelude.{Bool, ◌&&◌, ◌==◌, nat_le}
use Rattle.std.specs.List.{filter}
use Rattle.std.proofs.lemmas.List.{append-nil}
use Rattle.yl_text.specs.Character.{is_blank}
use Rattle.yl_scalar.specs.declared.answer.ScalarFault.{ScalarFault}
use Rattle.yl_scalar.specs.declared.answer.ScalarFault.TheVariants.{NotAllowed, UnclosedQuote, MarkerInQuote, BadEscape, BadHeader, BadIndentation}
use Rattle.yl_scalar.specs.Reading.{Extent, ScalarOutcomeValue, Whole, Refused, GoesOn, EndsIn, EndedAbove, outcome_of_step, outcome_of_lines}
use Rattle.yl_lexeme.specs.declared.lexeme.Style.{Style}
use Rattle.yl_row.specs.declared.fault.PlacedScanFault.{PlacedScanFault}
use Rattle.yl_lexeme.specs.Lexeme.{LexemeValue, CommentValue}
use Rattle.yl_row.specs.Fault.{of_scalar, is_unclosed, is_tab}
use Rattle.yl_row.specs.Step.{scalar_found}
use Rattle.yl_row.specs.ScalarReader.{ScalarReaderValue, reader_step, reader_finish, rows_in, KeepsSpaces}
use Rattle.yl_lexeme.specs.Known.{SurroundingsValue, new_row}
use Rattle.yl_lexeme.specs.Known.{no_surroundings}
use Rattle.yl_row.specs.Entries.{LineStateValue, RowReading, lexeme_of, stopped_rows, lexemes_up_to_fault, reading_below, fault_reading, with_lexeme, reading_or_fault, after_lexeme}
use Rattle.yl_row.specs.Rows.{reading_with_lexemes, comment_end}
use Rattle.yl_row.specs.Run.{entries_by}
use Rattle.yl_scan.specs.Output.{ScanOutput, StepValue, silent_step, output_with_step, output_of_entries, at_line, fault_in}
use Rattle.yl_scan.specs.Remaining.{output_of_row, Fresh, Within, Halted, output_with_lexeme_above, output_with_fault_above, rows_to, output_of_scalar, remaining_output}
use Rattle.yl_scan.proofs.Fed.{any_column, goes_on, reach_goes_on}
use Rattle.yl_row.proofs.Carry.{Carries, Facts, mode_ends_at, facts}

-- what is still told of a scalar whose whole reading this is
abbrev reading_left : ℕ → ℕ → Style → ℕ → SurroundingsValue → ScalarOutcomeValue → List (List ℕ) → ScanOutput
reading_left line begun style at k r rows = let f = scalar_found style at r in output_of_scalar line begun at f k rows f.fault

module _ (line begun : ℕ) (style : Style) (at : ℕ) (k : SurroundingsValue) (row : List ℕ) (rows : List (List ℕ)) (fresh : new_row k ≡ k) (lt : begun < line) where
  one_less : (down : ℕ) → rows_to line begun down - 1 ≡ rows_to (line + 1) begun down
  one_less down = omega arith

  carried : (r : ScalarOutcomeValue) (passed : ℕ) → passed ≡ line - (begun + 1) → Carries passed row r
      → reading_left line begun style at k r (row ∷ rows) ≡ output_with_step line silent_step (reading_left (line + 1) begun style at k r rows)
  carried (Whole e) passed p h =
      ap (output_with_lexeme_above line begun (lexeme_of at (scalar_found style at (Whole e))))
      (goes_on line row rows (rows_to line begun e.down) e.column k fresh (as_rows h)
      ∙ ap (λ n. output_with_step line silent_step (output_of_entries (line + 1) (entries_by false n e.column k rows))) (one_less e.down))
    where
      as_rows : ((e.down - passed ≡ 0) × (is_blank row ≡ true)) ⊎ (((e.down - passed ≡ 1) × (is_blank (drop e.column row) ≡ true)) ⊎ (2 ≤ e.down - passed))
          → ((rows_to line begun e.down ≡ 0) × (is_blank row ≡ true)) ⊎ (((rows_to line begun e.down ≡ 1) × (is_blank (drop e.column row) ≡ true)) ⊎ (2 ≤ rows_to line begun e.down))
      as_rows (inl h) = inl (omega (arith, p, h.0), h.1)
      as_rows (inr (inl h)) = inr (inl (omega (arith, p, h.0), h.1))
      as_rows (inr (inr h)) = inr (inr (omega (arith, p)))
  carried (Refused fault down column) passed p h =
      ap (output_with_fault_above begun (record { fault = of_scalar fault; down = down; column = column }))
      (reach_goes_on line row rows (is_unclosed (of_scalar fault)) (rows_to line begun down) (as_rows h)
      ∙ ap (λ n. output_with_step line silent_step (output_of_entries (line + 1) (stopped_rows (is_unclosed (of_scalar fault)) n rows))) (one_less down))
    where
      as_rows : ((is_blank row || is_unclosed (of_scalar fault)) ≡ true) ⊎ (1 ≤ down - passed) → ((is_blank row || is_unclosed (of_scalar fault)) ≡ true) ⊎ (1 ≤ rows_to line begun down)
      as_rows (inl h) = inl h
      as_rows (inr h) = inr (omega (arith, p))

  pub carry_on : (m m' : ScalarReaderValue) → rows_in m ≡ line - (begun + 1) → KeepsSpaces m → reader_step m row ≡ GoesOn m'
      → remaining_output line (Within begun style at m k) (row ∷ rows) ≡ output_with_step line silent_step (remaining_output (line + 1) (Within begun style at m' k) rows)
  carry_on m m' p spaces e =
      let h : Facts m row (GoesOn m') = subst (Facts m row) e (facts m row spaces) in
      let r = outcome_of_lines reader_step reader_finish m' rows in
      ap (λ t. reading_left line begun style at k (outcome_of_step (λ m. outcome_of_lines reader_step reader_finish m rows) t) (row ∷ rows)) e
      ∙ carried (outcome_of_lines reader_step reader_finish m' rows) (rows_in m) p (h.1 (outcome_of_lines reader_step reader_finish m' rows) (mode_ends_at m' rows))

  pub carry_ends : (m : ScalarReaderValue) (x : Extent) → rows_in m ≡ line - (begun + 1) → KeepsSpaces m → reader_step m row ≡ EndsIn x
      → remaining_output line (Within begun style at m k) (row ∷ rows) ≡ output_with_lexeme_above line begun (lexeme_of at (scalar_found style at (Whole x))) (output_of_entries line (entries_by false 1 x.column k (row ∷ rows)))
  carry_ends m x p spaces e =
      let h : x.down ≡ rows_in m + 1 = subst (Facts m row) e (facts m row spaces) in
      let one : rows_to line begun x.down ≡ 1 = omega arith in
      ap (λ t. reading_left line begun style at k (outcome_of_step (λ m. outcome_of_lines reader_step reader_finish m rows) t) (row ∷ rows)) e
      ∙ ap (λ n. output_with_lexeme_above line begun (lexeme_of at (scalar_found style at (Whole x))) (output_of_entries line (entries_by false n x.column k (row ∷ rows)))) one

  pub carry_above : (m : ScalarReaderValue) (x : Extent) → rows_in m ≡ line - (begun + 1) → KeepsSpaces m → reader_step m row ≡ EndedAbove x
      → remaining_output line (Within begun style at m k) (row ∷ rows) ≡ output_with_lexeme_above line begun (lexeme_of at (scalar_found style at (Whole x))) (output_of_entries line (entries_by false 0 x.column k (row ∷ rows)))
  carry_above m x p spaces e =
      let h : x.down ≤ rows_in m = subst (Facts m row) e (facts m row spaces) in
      let none : rows_to line begun x.down ≡ 0 = omega arith in
      ap (λ t. reading_left line begun style at k (outcome_of_step (λ m. outcome_of_lines reader_step reader_finish m rows) t) (row ∷ rows)) e
      ∙ ap (λ n. output_with_lexeme_above line begun (lexeme_of at (scalar_found style at (Whole x))) (output_of_entries line (entries_by false n x.column k (row ∷ rows)))) none

-- ---- a row that is read

-- a lexeme ends in its row before a column or at it
abbrev pub ends_by : ℕ → LexemeValue → Bool
ends_by column x = x.end.line == 0 && nat_le x.end.col column

not_tab : (fault : ScalarFault) → is_tab (of_scalar fault) ≡ false
not_tab NotAllowed = refl
not_tab UnclosedQuote = refl
not_tab MarkerInQuote = refl
not_tab BadEscape = refl
not_tab BadHeader = refl
not_tab BadIndentation = refl

-- these lexemes, a comment, the row's state, if it is sound, and a fault of this row
abbrev pub row_told_of : ℕ → List LexemeValue → Option CommentValue → Option LineStateValue → Option PlacedScanFault → StepValue
row_told_of line xs comment state fault = record { above = None; lexemes = lexemes_up_to_fault fault xs; comment = comment; state = state; fault = fault_in line fault }

module _ (line : ℕ) (row : List ℕ) (rows : List (List ℕ)) (state : Option LineStateValue) (xs : List LexemeValue) where
  pub read_told : (k : SurroundingsValue) (c : Option CommentValue) → output_of_row line rows state (reading_with_lexemes xs (comment_end k c)) ≡ output_with_step line (row_told_of line xs c state None) (remaining_output (line + 1) (Fresh false (new_row k)) rows)
  read_told k None = ap (λ ys. output_with_step line (record { above = None; lexemes = ys; comment = None; state = state; fault = None }) (output_of_entries (line + 1) (entries_by false 0 0 (new_row k) rows))) (append-nil xs)
  read_told k (Some c) = ap (λ ys. output_with_step line (record { above = None; lexemes = ys; comment = Some c; state = state; fault = None }) (output_of_entries (line + 1) (entries_by false 0 0 (new_row k) rows))) (append-nil xs)

  pub stop_told : (f : PlacedScanFault) → output_of_row line rows state (reading_with_lexemes xs (fault_reading f no_surroundings)) ≡ output_with_step line (row_told_of line xs None state (Some f)) (remaining_output (line + 1) (Halted (is_unclosed f.fault) f.down) rows)
  stop_told f = ap (λ ys. output_with_step line (record { above = None; lexemes = lexemes_up_to_fault (Some f) ys; comment = None; state = state; fault = Some (line, f) }) (output_of_entries (line + 1) (stopped_rows (is_unclosed f.fault) f.down rows))) (append-nil xs)

  -- a scalar that may go on; what its row holds behind it is nothing
  module _ (style : Style) (at : ℕ) (k : SurroundingsValue) (more : ℕ → RowReading SurroundingsValue) where
    here_down : (d : ℕ) → rows_to (line + 1) line d ≡ d
    here_down d = omega arith

    move_lexeme : (x : LexemeValue) (ys : List LexemeValue) (os : List (ℕ × LexemeValue)) → map (at_line line) (ys ++ x ∷ []) ++ os ≡ map (at_line line) ys ++ ((line, x) ∷ os)
    move_lexeme x [] os = refl
    move_lexeme x (y ∷ ys) os = ap (λ zs. (line, y) ∷ zs) (move_lexeme x ys os)

    -- the row's lexemes and one more, or the row's lexemes and then one that began in it
    abbrev with_last : LexemeValue → ScanOutput → ScanOutput
    with_last x o = output_with_step line (record { above = None; lexemes = xs ++ x ∷ []; comment = None; state = state; fault = None }) o

    moved : (x : LexemeValue) (o : ScanOutput) → with_last x o ≡ output_with_step line (row_told_of line xs None state None) (output_with_lexeme_above (line + 1) line x o)
    moved x o = ap (λ (ls : List (ℕ × LexemeValue)). let out : ScanOutput = record { lexemes = ls; comments = o.comments; states = state ∷ o.states; fault = o.fault } in out) (move_lexeme x xs o.lexemes)

    lands : (e : Extent) (d : ℕ) → (d ≡ 0 → more (e.column - at - 1) ≡ reading_below 0 0 (new_row k))
        → output_of_row line rows state (reading_with_lexemes xs (with_lexeme (lexeme_of at (scalar_found style at (Whole e))) (after_lexeme at (scalar_found style at (Whole e)) (new_row k) more d)))
        ≡ with_last (lexeme_of at (scalar_found style at (Whole e))) (output_of_entries (line + 1) (entries_by false d e.column (new_row k) rows))
    lands e zero h =
        ap (λ r. output_of_row line rows state (reading_with_lexemes xs (with_lexeme (lexeme_of at (scalar_found style at (Whole e))) r))) (h refl)
        ∙ ap (λ es. with_last (lexeme_of at (scalar_found style at (Whole e))) (output_of_entries (line + 1) es)) (any_column 0 e.column false (new_row k) rows)
    lands e (suc d) h = refl

    pub opens_told : (r : ScalarOutcomeValue) → ((e : Extent) → r ≡ Whole e → e.down ≡ 0 → more (e.column - at - 1) ≡ reading_below 0 0 (new_row k))
        → output_of_row line rows state (reading_with_lexemes xs (let f = scalar_found style at r in reading_or_fault (lexeme_of at f) no_surroundings (after_lexeme at f (new_row k) more f.down) f.fault))
        ≡ output_with_step line (row_told_of line xs None state None) (reading_left (line + 1) line style at (new_row k) r rows)
    opens_told (Whole e) rest =
        lands e e.down (λ z. rest e refl z)
        ∙ moved (lexeme_of at (scalar_found style at (Whole e))) (output_of_entries (line + 1) (entries_by false e.down e.column (new_row k) rows))
        ∙ ap (λ n. output_with_step line (row_told_of line xs None state None) (output_with_lexeme_above (line + 1) line (lexeme_of at (scalar_found style at (Whole e))) (output_of_entries (line + 1) (entries_by false n e.column (new_row k) rows)))) (sym (here_down e.down))
    opens_told (Refused fault down column) rest =
        let g : PlacedScanFault = record { fault = of_scalar fault; down = down; column = column } in
        let u = is_unclosed (of_scalar fault) in
        ap (λ b. output_with_step line (record { above = None; lexemes = cond b (filter (ends_by column) (xs ++ [])) (xs ++ []); comment = None; state = state; fault = Some (line, g) }) (output_of_entries (line + 1) (stopped_rows u down rows))) (not_tab fault)
        ∙ ap (λ ys. output_with_step line (record { above = None; lexemes = ys; comment = None; state = state; fault = Some (line, g) }) (output_of_entries (line + 1) (stopped_rows u down rows))) (append-nil xs)
        ∙ ap (λ n. output_with_step line (row_told_of line xs None state None) (output_with_fault_above line g (output_of_entries (line + 1) (stopped_rows u n rows)))) (sym (here_down down))
