-- What a lexeme makes of the row, by what was found.
use Rattle.std.proofs.Common.{◌≡◌, ℕ, ◌-◌, Bool, true, false, cond, List, [], ◌∷◌, ◌++◌, append_assoc, Option, Some, None, refl, ap, sym, ◌∙◌}
use Rattle.yl_scalar.specs.Reading.{ScalarOutcomeValue, Whole, Refused, outcome_of_lines}
use Rattle.yl_lexeme.specs.declared.lexeme.Style.{Style}
use Rattle.yl_lexeme.specs.declared.lexeme.Kind.{Kind}
use Rattle.yl_lexeme.specs.declared.lexeme.Kind.TheVariants.{Scalar}
use Rattle.yl_row.specs.declared.fault.PlacedScanFault.{PlacedScanFault}
use Rattle.yl_lexeme.specs.Lexeme.{LexemeValue}
use Rattle.std.specs.Option.{option_or}
use Rattle.yl_row.specs.Step.{FoundLexemeValue, found_in_row, scalar_found, place_fault}
use Rattle.yl_lexeme.specs.Known.{SurroundingsValue, context_of, new_row, no_surroundings, surroundings_behind}
use Rattle.yl_lexeme.specs.Past.{past_lexeme}
use Rattle.yl_row.specs.Entries.{RowReading, fault_reading, with_lexeme, reading_or_fault, after_lexeme, lexeme_of, ends_document}
use Rattle.yl_row.specs.ScalarReader.{ScalarReaderValue, reader_step, reader_finish, open_found}
use Rattle.yl_row.specs.Run.{lexeme_reading_by}
use Rattle.yl_row.specs.Rows.{reading_with_lexemes, open_scalar_reading}

-- what is read behind a lexeme, with this fault before it
abbrev taken : ℕ → SurroundingsValue → (ℕ → SurroundingsValue → RowReading SurroundingsValue) → FoundLexemeValue → Option PlacedScanFault → RowReading SurroundingsValue
taken at k' more found before = reading_or_fault (lexeme_of at found) no_surroundings (after_lexeme at found (new_row k') (λ skip. more skip k') found.down) (option_or before found.fault)

with_one : (xs : List LexemeValue) (x : LexemeValue) (r : RowReading SurroundingsValue) → reading_with_lexemes xs (with_lexeme x r) ≡ reading_with_lexemes (xs ++ x ∷ []) r
with_one xs x r = ap (λ ys. record { lexemes = ys; comment = r.comment; fault = r.fault; down = r.down; column = r.column; behind = r.behind }) (sym (append_assoc xs (x ∷ []) r.lexemes))

module _ (tab : Option ℕ) (first : Bool) (at : ℕ) (k : SurroundingsValue) (more : ℕ → SurroundingsValue → RowReading SurroundingsValue) (before : Option PlacedScanFault) (same : before ≡ place_fault tab first at (context_of k)) where
  took_taken : (found : FoundLexemeValue) (k' : SurroundingsValue) → k' ≡ surroundings_behind (past_lexeme at first (context_of k) found.kind) k → lexeme_reading_by tab first at k more found ≡ taken at k' more found before
  took_taken found k' e =
      ap (λ b. taken at (surroundings_behind (past_lexeme at first (context_of k) found.kind) k) more found b) (sym same) ∙ ap (λ k'. taken at k' more found before) (sym e)

  scalar_opens : (style : Style) (r : ScalarOutcomeValue) (k' : SurroundingsValue) → k' ≡ surroundings_behind (past_lexeme at first (context_of k) (Scalar style)) k → before ≡ None
      → lexeme_reading_by tab first at k more (scalar_found style at r) ≡ (let f = scalar_found style at r in reading_or_fault (lexeme_of at f) no_surroundings (after_lexeme at f (new_row k') (λ skip. more skip k') f.down) f.fault)
  scalar_opens style (Whole e) k' h none = took_taken (scalar_found style at (Whole e)) k' h ∙ ap (taken at k' more (scalar_found style at (Whole e))) none
  scalar_opens style (Refused fault down column) k' h none =
      took_taken (scalar_found style at (Refused fault down column)) k' h ∙ ap (taken at k' more (scalar_found style at (Refused fault down column))) none

  scalar_stops : (style : Style) (r : ScalarOutcomeValue) (f : PlacedScanFault) → before ≡ Some f → lexeme_reading_by tab first at k more (scalar_found style at r) ≡ fault_reading f no_surroundings
  scalar_stops style (Whole e) f h =
      took_taken (scalar_found style at (Whole e)) _ refl ∙ ap (taken at _ more (scalar_found style at (Whole e))) h
  scalar_stops style (Refused fault down column) f h =
      took_taken (scalar_found style at (Refused fault down column)) _ refl ∙ ap (taken at _ more (scalar_found style at (Refused fault down column))) h

  pub open_goes : (rows : List (List ℕ)) (style : Style) (m : ScalarReaderValue) (k' : SurroundingsValue) → k' ≡ surroundings_behind (past_lexeme at first (context_of k) (Scalar style)) k → before ≡ None
      → lexeme_reading_by tab first at k more (open_found style at m rows) ≡ open_scalar_reading rows style at m k' (λ skip. more skip k')
  open_goes rows style m k' h none = scalar_opens style (outcome_of_lines reader_step reader_finish m rows) k' h none

  pub open_stops : (rows : List (List ℕ)) (style : Style) (m : ScalarReaderValue) (f : PlacedScanFault) → before ≡ Some f → lexeme_reading_by tab first at k more (open_found style at m rows) ≡ fault_reading f no_surroundings
  open_stops rows style m f h = scalar_stops style (outcome_of_lines reader_step reader_finish m rows) f h

  pub ended_goes : (xs : List LexemeValue) (kind : Kind) (column : ℕ) (value : List ℕ) (fault : Option PlacedScanFault) (k' : SurroundingsValue) (skip : ℕ)
      → k' ≡ surroundings_behind (past_lexeme at first (context_of k) kind) k → option_or before fault ≡ None → skip ≡ column - at - 1
      → reading_with_lexemes xs (lexeme_reading_by tab first at k more (found_in_row kind column value fault)) ≡ reading_with_lexemes (xs ++ lexeme_of at (found_in_row kind column value fault) ∷ []) (more skip k')
  ended_goes xs kind column value fault k' skip h none s =
      ap (reading_with_lexemes xs) (took_taken (found_in_row kind column value fault) k' h
      ∙ ap (reading_or_fault (lexeme_of at (found_in_row kind column value fault)) no_surroundings (more (column - at - 1) k')) none
      ∙ ap (λ n. with_lexeme (lexeme_of at (found_in_row kind column value fault)) (more n k')) (sym s))
      ∙ with_one xs (lexeme_of at (found_in_row kind column value fault)) (more skip k')

  pub ended_stops : (xs : List LexemeValue) (kind : Kind) (column : ℕ) (value : List ℕ) (fault : Option PlacedScanFault) (f : PlacedScanFault)
      → option_or before fault ≡ Some f → ends_document kind ≡ false
      → reading_with_lexemes xs (lexeme_reading_by tab first at k more (found_in_row kind column value fault)) ≡ reading_with_lexemes xs (fault_reading f no_surroundings)
  ended_stops xs kind column value fault f h e =
      ap (reading_with_lexemes xs) (took_taken (found_in_row kind column value fault) _ refl
      ∙ ap (reading_or_fault (lexeme_of at (found_in_row kind column value fault)) no_surroundings _) h
      ∙ ap (λ b. cond b (with_lexeme (lexeme_of at (found_in_row kind column value fault)) (fault_reading f no_surroundings)) (fault_reading f no_surroundings)) e)

  pub ended_document : (xs : List LexemeValue) (kind : Kind) (column : ℕ) (value : List ℕ) (fault : Option PlacedScanFault) (f : PlacedScanFault)
      → option_or before fault ≡ Some f → ends_document kind ≡ true
      → reading_with_lexemes xs (lexeme_reading_by tab first at k more (found_in_row kind column value fault)) ≡ reading_with_lexemes (xs ++ lexeme_of at (found_in_row kind column value fault) ∷ []) (fault_reading f no_surroundings)
  ended_document xs kind column value fault f h e =
      ap (reading_with_lexemes xs) (took_taken (found_in_row kind column value fault) _ refl
      ∙ ap (reading_or_fault (lexeme_of at (found_in_row kind column value fault)) no_surroundings _) h
      ∙ ap (λ b. cond b (with_lexeme (lexeme_of at (found_in_row kind column value fault)) (fault_reading f no_surroundings)) (fault_reading f no_surroundings)) e)
      ∙ with_one xs (lexeme_of at (found_in_row kind column value fault)) (fault_reading f no_surroundings)
