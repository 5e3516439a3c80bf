-- What the rows tell a scanner, by where it stands before them.
use Rattle.std.proofs.Common.{◌≡◌, ℕ, zero, suc, ◌+◌, ◌-◌, ◌≤◌, ◌<◌, ◌⊎◌, inl, inr, Bool, true, false, cond, not, ◌&&◌, ◌||◌, List, [], ◌∷◌, length, length-drop, drop, ◌^◌, Option, Some, None, refl, ap, sym, subst, ◌∙◌, ltb, lt-ltb, le-ltb, eqb, sub-one, arith}
use Rattle.std.proofs.Math.Dec.{eqb-suc-zero}
use Rattle.yl_text.specs.Character.{is_white, is_blank}
use Rattle.yl_scalar.specs.declared.answer.ScalarFault.{ScalarFault}
use Rattle.yl_scalar.specs.Reading.{Extent, Whole, GoesOn, EndsIn, EndedAbove, Fails, outcome_of_step, outcome_of_lines}
use Rattle.yl_lexeme.specs.declared.lexeme.Style.{Style}
use Rattle.yl_row.specs.declared.fault.PlacedScanFault.{PlacedScanFault}
use Rattle.yl_lexeme.specs.Lexeme.{LexemeValue}
use Rattle.yl_lexeme.specs.Known.{SurroundingsValue, new_row}
use Rattle.yl_row.specs.Fault.{of_scalar}
use Rattle.yl_row.specs.Step.{scalar_found}
use Rattle.yl_scan.specs.declared.step.LexemeAbove.{LexemeAbove}
use Rattle.yl_scan.specs.declared.step.FaultAbove.{FaultAbove}
use Rattle.yl_scan.specs.declared.step.Step.{Step}
use Rattle.yl_scan.specs.Scanner.{IsUnderWay, IsInOrder, BeginsAt, EndsOpen, begun_at}
use Rattle.yl_scan.specs.Step.{IsAbove, IsNotBelow, state_by, state_for, step_value, fault_above_at}
use Rattle.yl_scan.specs.declared.step.Soundness.{Soundness}
use Rattle.std.specs.Option.{ForSome}
use Rattle.yl_row.specs.ScalarReader.{ScalarReaderValue, InPlain, InQuoted, InBlock, reader_step, reader_finish, rows_in, KeepsSpaces, StepBy}
use Rattle.yl_row.specs.Begins.{Rests}
use Rattle.yl_row.specs.Entries.{LineStateValue, Stopped, stopped_rows}
use Rattle.yl_row.specs.Rows.{reading_with_lexemes, open_scalar_reading}
use Rattle.yl_row.specs.Run.{row_reading_by, entries_by}
use Rattle.yl_scan.specs.Output.{ScanOutput, StepValue, output_with_step, output_of_entries, silent_step}
use Rattle.yl_scan.specs.Remaining.{output_of_row, PhaseValue, Fresh, Within, Halted, output_with_lexeme_above, output_with_fault_above, rows_to, output_of_scalar, remaining_output}
use Rattle.yl_scan.proofs.Fed.{over, any_column}
use Rattle.yl_scan.proofs.Feed.{row_told_of, opens_told}
use Rattle.yl_row.proofs.Columns.{step_by, by_more}
use Rattle.yl_row.proofs.Carry.{Facts, ModeEnds, mode_ends_at, facts}

-- ---- a row that leaves a scalar open

and_right : (a b : Bool) → (a && b) ≡ true → b ≡ true
and_right true b h = h
and_right false b h = cc

-- behind the first character
blank_behind_one : (n x : ℕ) (xs : List ℕ) → is_blank (drop n (x ∷ xs)) ≡ true → is_blank (drop (n - 1) xs) ≡ true
blank_behind_one zero x xs h = and_right (is_white x) (is_blank xs) h
blank_behind_one (suc n) x xs h = rw sub-one h

-- a scalar that ends in its first row ends before what is blank
ends_before_blank : (at x : ℕ) (xs : List ℕ) (m : ScalarReaderValue) (e : Extent) → Rests at (x ∷ xs) m → ModeEnds m (Whole e) → e.down ≡ 0 → is_blank (drop (e.column - at - 1) xs) ≡ true
ends_before_blank at x xs (InPlain s) e rests (inl h) none = blank_behind_one (e.column - at) x xs (ap (λ c. is_blank (drop (c - at) (x ∷ xs))) h.1 ∙ rests.blank)
ends_before_blank at x xs (InPlain s) e rests (inr h) none = absurd (omega arith)
ends_before_blank at x xs (InQuoted s) e rests h none = absurd (omega arith)
ends_before_blank at x xs (InBlock s) e rests (inl h) none = blank_behind_one (e.column - at) x xs (ap (λ c. is_blank (drop (c - at) (x ∷ xs))) h.1 ∙ rests.blank)
ends_before_blank at x xs (InBlock s) e rests (inr h) none = absurd (omega arith)

some_item : (row : List ℕ) (at : ℕ) → at < length row → (x : ℕ) × (drop at row ≡ x ∷ drop (at + 1) row)
some_item [] at lt = absurd (omega arith)
some_item (x ∷ xs) zero lt = (x, refl)
some_item (x ∷ xs) (suc at) lt = let e : suc at + 1 ≡ suc (at + 1) = omega arith in let item = some_item xs at (omega arith) in (item.0, item.1 ∙ ap (λ n. item.0 ∷ drop n (x ∷ xs)) (sym e))

pub row_opens : (line : ℕ) (row : List ℕ) (rows : List (List ℕ)) (tab : Option ℕ) (state : Option LineStateValue) (xs : List LexemeValue) (style : Style) (at : ℕ) (m : ScalarReaderValue) (k : SurroundingsValue)
    → at < length row → Rests at (drop at row) m
    → output_of_row line rows state (reading_with_lexemes xs (open_scalar_reading rows style at m k (λ skip. row_reading_by rows tab skip false false (at + 1) k (drop (at + 1) row))))
    ≡ output_with_step line (row_told_of line xs None state None) (remaining_output (line + 1) (Within line style at m (new_row k)) rows)
row_opens line row rows tab state xs style at m k lt rests =
    opens_told line row rows state xs style at k (λ skip. row_reading_by rows tab skip false false (at + 1) k (drop (at + 1) row)) (outcome_of_lines reader_step reader_finish m rows)
    (λ e is none. over rows tab (e.column - at - 1) false false (at + 1) k (drop (at + 1) row)
    (let item = some_item row at lt in
    ends_before_blank at item.0 (drop (at + 1) row) m e (subst (λ text. Rests at text m) item.1 rests) (subst (ModeEnds m) is (mode_ends_at m rows)) none))

-- a row below the first one is not the text's start
pub not_first : (line column : ℕ) (k : SurroundingsValue) (row : List ℕ) (rows : List (List ℕ)) → 0 < line
    → output_of_entries line (entries_by false 0 column k (row ∷ rows)) ≡ output_of_entries line (entries_by (eqb line 0) 0 0 k (row ∷ rows))
not_first zero column k row rows h = absurd (omega arith)
not_first (suc line) column k row rows h = rw eqb-suc-zero (ap (output_of_entries (suc line)) (any_column column 0 false k (row ∷ rows)))

-- ---- a row that refuses a scalar from above

abbrev refused : ℕ → Option LineStateValue → ℕ → PlacedScanFault → StepValue
refused line state begun g = record { above = None; lexemes = []; comment = None; state = state; fault = Some (begun, g) }

module _ (line begun : ℕ) (style : Style) (at : ℕ) (k : SurroundingsValue) (row : List ℕ) (rows : List (List ℕ)) (lt : begun < line) where
  pub carry_fails : (m : ScalarReaderValue) (fault : ScalarFault) (down column : ℕ) → rows_in m ≡ line - (begun + 1) → KeepsSpaces m → reader_step m row ≡ Fails fault down column
      → remaining_output line (Within begun style at m k) (row ∷ rows)
      ≡ output_with_step line (refused line (cond (ltb down (line - begun)) (Some Stopped) None) begun (record { fault = of_scalar fault; down = down; column = column })) (remaining_output (line + 1) (Halted false 0) rows)
  carry_fails m fault down column p spaces e = whole_fails ∙ by_place (subst (Facts m row) e (facts m row spaces)).1
    where
      g : PlacedScanFault
      g = record { fault = of_scalar fault; down = down; column = column }

      whole_fails : remaining_output line (Within begun style at m k) (row ∷ rows) ≡ output_with_fault_above begun g (output_of_entries line (stopped_rows false (rows_to line begun down) (row ∷ rows)))
      whole_fails =
          ap (λ t. let f = scalar_found style at (outcome_of_step (λ m. outcome_of_lines reader_step reader_finish m rows) t) in output_of_scalar line begun at f k (row ∷ rows) f.fault) e
          ∙ ap (λ b. output_with_fault_above begun g (output_of_entries line (stopped_rows b (rows_to line begun down) (row ∷ rows)))) (subst (Facts m row) e (facts m row spaces)).0

      by_place : (down ≡ rows_in m + 1) ⊎ ((down ≤ rows_in m) × (is_blank row ≡ false))
          → output_with_fault_above begun g (output_of_entries line (stopped_rows false (rows_to line begun down) (row ∷ rows))) ≡ output_with_step line (refused line (cond (ltb down (line - begun)) (Some Stopped) None) begun g) (remaining_output (line + 1) (Halted false 0) rows)
      by_place (inl h) =
          let one : rows_to line begun down ≡ 1 = omega (arith, p, h) in
          let past : line - begun ≤ down = omega (arith, p, h) in
          ap (λ n. output_with_fault_above begun g (output_of_entries line (stopped_rows false n (row ∷ rows)))) one
          ∙ ap (λ b. output_with_step line (refused line (cond b (Some Stopped) None) begun g) (remaining_output (line + 1) (Halted false 0) rows)) (sym (le-ltb down (line - begun) past))
      by_place (inr h) =
          let none : rows_to line begun down ≡ 0 = omega (arith, p, h.0) in
          let before : down < line - begun = omega (arith, p, h.0) in
          ap (λ n. output_with_fault_above begun g (output_of_entries line (stopped_rows false n (row ∷ rows)))) none
          ∙ ap (λ b. output_with_fault_above begun g (output_with_step line (record { above = None; lexemes = []; comment = None; state = cond (b || false) None (Some Stopped); fault = None }) (output_of_entries (line + 1) (stopped_rows false 0 rows)))) h.1
          ∙ ap (λ b. output_with_step line (refused line (cond b (Some Stopped) None) begun g) (remaining_output (line + 1) (Halted false 0) rows)) (sym (lt-ltb down (line - begun) before))

-- ---- a row behind a fault

pub halts : (line : ℕ) (row : List ℕ) (rows : List (List ℕ)) (to_end : Bool) (down : ℕ)
    → output_of_entries line (stopped_rows to_end down (row ∷ rows))
    ≡ output_with_step line (record { above = None; lexemes = []; comment = None; state = cond (eqb down 0 && not to_end && not (is_blank row)) (Some Stopped) None; fault = None }) (output_of_entries (line + 1) (stopped_rows to_end (down - 1) rows))
halts line row rows to_end zero = ap (λ b. output_with_step line (record { above = None; lexemes = []; comment = None; state = b; fault = None }) (output_of_entries (line + 1) (stopped_rows to_end 0 rows))) (by_case (is_blank row) to_end)
  where
    by_case : (blank to_end : Bool) → cond (blank || to_end) None (Some Stopped) ≡ cond (true && not to_end && not blank) (Some Stopped) None
    by_case true true = refl
    by_case true false = refl
    by_case false true = refl
    by_case false false = refl
halts line row rows to_end (suc down) = rw (sub-one, eqb-suc-zero) refl

-- ---- how scalars stay in step

-- a scalar that begins in this row
pub begins_under_way : (line at : ℕ) (row : List ℕ) (m : ScalarReaderValue) → length row < 2 ^ 31 → at < length row → Rests at (drop at row) m → IsUnderWay (line + 1) line at m
begins_under_way line at row m fits lt rests = record {
  above = omega arith;
  rows = (let e : line + 1 - (line + 1) ≡ 0 = omega arith in rests.rows ∙ sym e);
  spaces = rests.spaces;
  columns = by_more (at + length (drop at row)) (2 ^ 31) m (omega (arith, length-drop at row)) rests.column;
  column = omega arith;
}

module _ (line begun at : ℕ) (m : ScalarReaderValue) (row : List ℕ) (way : IsUnderWay line begun at m) (fits : length row < 2 ^ 31) where
  pub goes_under_way : (m' : ScalarReaderValue) → reader_step m row ≡ GoesOn m' → IsUnderWay (line + 1) begun at m'
  goes_under_way m' e =
      let h : Facts m row (GoesOn m') = subst (Facts m row) e (facts m row way.spaces) in
      record {
        above = omega (arith, way.above);
        rows = omega (arith, way.rows, way.above, h.0);
        spaces = h.2 way.spaces;
        columns = subst (StepBy (2 ^ 31)) e (step_by (2 ^ 31) m row way.columns (omega (arith, fits)));
        column = way.column;
      }

  pub ends_within : (x : Extent) → line < 2 ^ 32 → reader_step m row ≡ EndsIn x → (x.down < 2 ^ 32) × (x.column ≤ 2 ^ 31)
  ends_within x few e =
      let h : x.down ≡ rows_in m + 1 = subst (Facts m row) e (facts m row way.spaces) in
      (omega (arith, way.rows, way.above, h), subst (StepBy (2 ^ 31)) e (step_by (2 ^ 31) m row way.columns (omega (arith, fits))))

  pub ended_within : (x : Extent) → line < 2 ^ 32 → reader_step m row ≡ EndedAbove x → (x.down < 2 ^ 32) × (x.column ≤ 2 ^ 31)
  ended_within x few e =
      let h : x.down ≤ rows_in m = subst (Facts m row) e (facts m row way.spaces) in
      (omega (arith, way.rows, way.above, h), subst (StepBy (2 ^ 31)) e (step_by (2 ^ 31) m row way.columns (omega (arith, fits))))

-- ---- steps

back : (line begun : ℕ) → begun ≤ line → line - (line - begun) ≡ begun
back line begun le = omega (arith, le)

placed : {X : Type 0} {a b : ℕ} {x y : X} → a ≡ b → x ≡ y → ◌≡◌ {A = ℕ × X} (a, x) (b, y)
placed p q = λ i. (p i, q i)

module _ {A : Type 0} (line begun : ℕ) (le : begun ≤ line) where
  -- a lexeme from above, and what its last row tells
  pub with_ended : (s : LineStateValue) (step : Step A) (e : LexemeAbove A) (x : LexemeValue) (o : ScanOutput) → step.ended ≡ None → e.ago ≡ line - begun → e.lexeme ≡ x
      → output_with_lexeme_above line begun x (output_with_step line (step_value line s step) o) ≡ output_with_step line (step_value line s (record step { ended = Some e })) o
  with_ended s step e x o none ago is =
      ap (λ (above : Option (LexemeAbove A)). output_with_lexeme_above line begun x (output_with_step line (step_value line s (record step { ended = above })) o)) none
      ∙ ap (λ (p : ℕ × LexemeValue). output_with_step line (record (step_value line s step) { above = Some p }) o) (placed (sym (back line begun le) ∙ ap (λ n. line - n) (sym ago)) (sym is))

  pub with_failed : (s : LineStateValue) (step : Step A) (f : FaultAbove) (g : PlacedScanFault) (state : Option LineStateValue) (o : ScanOutput)
      → step_value line s step ≡ record { above = None; lexemes = []; comment = None; state = state; fault = None } → f.ago ≡ line - begun → f.fault ≡ g
      → output_with_step line (refused line state begun g) o ≡ output_with_step line (step_value line s (record step { failed = Some f })) o
  with_failed s step f g state o silent ago is =
      ap (λ (p : ℕ × PlacedScanFault). output_with_step line (record { above = None; lexemes = []; comment = None; state = state; fault = Some p }) o) (placed (sym (back line begun le) ∙ ap (λ n. line - n) (sym ago)) (sym is))
      ∙ ap (λ (t : StepValue). output_with_step line (record t { fault = Some (fault_above_at line f) }) o) (sym silent)

-- a fault of the row itself
pub not_below : (line : ℕ) (o : Option FaultAbove) → ForSome o (λ f. f.ago ≡ 0) → ForSome o (IsNotBelow line)
not_below line o h = λ f e. let here : f.ago ≡ 0 = h f e in omega (arith, here)

-- a lexeme from above
pub is_above : {A : Type 0} (line begun : ℕ) (e : LexemeAbove A) → begun < line → e.ago ≡ line - begun → ForSome (Some e) (IsAbove line)
is_above {A} line begun e lt p = λ x is.
    let same : e ≡ x = cc in
    let ago : e.ago ≡ x.ago = ap (λ (y : LexemeAbove A). y.ago) same in
    (omega (arith, p, ago, lt), omega (arith, p, ago, lt))

-- a lexeme in progress ends where it began
pub ends_open : {A : Type 0} (line begun : ℕ) (step : Step A) (e : LexemeAbove A) → begun < line → e.ago ≡ line - begun → EndsOpen line (Some begun) (record step { ended = Some e })
ends_open {A} line begun step e lt p = λ x is.
    let same : e ≡ x = cc in
    let ago : e.ago ≡ x.ago = ap (λ (y : LexemeAbove A). y.ago) same in
    let at : begun ≡ line - x.ago = omega (arith, p, ago, lt) in
    ap Some at

at_here : (n : ℕ) (stand : PhaseValue) → BeginsAt n stand → ForSome (begun_at stand) (λ b. b ≡ n)
at_here n (Fresh start k) h = λ b is. cc
at_here n (Within begun style at m k) h = λ b is. let e : begun ≡ b = cc in sym e ∙ h
at_here n (Halted to_end down) h = λ b is. cc

nothing_ends : {A : Type 0} (line : ℕ) (begun : Option ℕ) (step : Step A) → step.ended ≡ None → EndsOpen line begun step
nothing_ends line begun step none = λ e is. cc

-- a row in which nothing ends that began above
pub in_order_here : {A : Type 0} (line : ℕ) (begun : Option ℕ) (stand : PhaseValue) (step : Step A) → step.ended ≡ None → BeginsAt line stand → IsInOrder line begun (begun_at stand) step
in_order_here line begun stand step none h = record { above = nothing_ends line begun step none; next = inl (at_here line stand h) }

-- what is in progress behind a row where nothing was before it began in the row
pub next_here : {A : Type 0} (line : ℕ) (behind : Option ℕ) (step : Step A) → IsInOrder line None behind step → ForSome behind (λ b. b ≡ line)
next_here line behind step h = by_case h.next
  where
    by_case : ForSome behind (λ b. b ≡ line) ⊎ (((s : LineStateValue) → step_value line s step ≡ silent_step) × (behind ≡ None)) → ForSome behind (λ b. b ≡ line)
    by_case (inl f) = f
    by_case (inr p) = λ b is. let none : behind ≡ None = p.1 in cc

-- what is told where states are wanted, or where they are not
pub wanted_told : (wanted : Bool) (before : Option LineStateValue) (s : LineStateValue) (sound : Soundness) → before ≡ cond wanted (Some s) None → state_for before sound ≡ cond wanted (state_by s sound) None
wanted_told true before s sound h = ap (λ b. state_for b sound) h
wanted_told false before s sound h = ap (λ b. state_for b sound) h

-- the same order, of what is the same
pub same_order : {A : Type 0} (line line' : ℕ) (begun begun' behind behind' : Option ℕ) (step : Step A)
    → line ≡ line' → begun ≡ begun' → behind ≡ behind' → IsInOrder line begun behind step → IsInOrder line' begun' behind' step
same_order line line' begun begun' behind behind' step p q r h =
    let one : IsInOrder line' begun behind step = subst (λ n. IsInOrder n begun behind step) p h in
    let two : IsInOrder line' begun' behind step = subst (λ b. IsInOrder line' b behind step) q one in
    subst (λ b. IsInOrder line' begun' b step) r two
