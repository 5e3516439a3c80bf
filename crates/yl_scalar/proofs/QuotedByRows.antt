-- A quoted scalar read line by line is what the rows that it takes make of it.
use Rattle.std.proofs.Common.{◌≡◌, ℕ, suc, ◌+◌, Bool, true, false, cond, List, [], ◌∷◌, ◌++◌, take, drop, refl, ap, sym, ◌∙◌, append_assoc, arith, eqb, one-add, zero-add, ne_eqb}
use Rattle.std.specs.Prelude.{Option, Some, None, option_map}
use Rattle.std.specs.List.{prefix_len}
use Rattle.std.specs.Option.{option_map_or}
use Rattle.std.proofs.lemmas.Bool.{eqb-true}
use Rattle.yl_text.specs.Character.{is_white, is_blank, is_marker, without_front}
use Rattle.yl_scalar.specs.Reading.{ScalarOutcomeValue, Whole, Refused, outcome_of_step, outcome_of_lines}
use Rattle.yl_scalar.specs.Folding.{joint}
use Rattle.yl_scalar.specs.QuotedSteps.{QuotedReaderValue, quoted_start, with_break, quoted_begin, quoted_step, quoted_finish}
use Rattle.yl_scalar.specs.declared.answer.ScalarFault.TheVariants.{UnclosedQuote, MarkerInQuote, BadEscape}
use Rattle.yl_scalar.specs.QuotedRows.{Stop, Closed, Faulted, Glyph, glyphs, row_glyphs, stop_in, row_stop, stops_in, rows_passed, text_before, row_text, backslash_in, row_backslash, folded, stopped, last_backslash, unclosed, stopped_below, below_first, of_rows, QuotedRowsLaw}
use Rattle.yl_scalar.proofs.PlainRead.{blank_front}
use Rattle.yl_scalar.proofs.QuotedGlyphs.{stepped, row_steps}

-- the backslash that ends the row above, if no blank row stands between
abbrev open_backslash : ℕ → Option ℕ → Option ℕ
open_backslash blanks backslash = cond (eqb blanks 0) backslash None

-- what the rows make of it, where it passes so many of them
abbrev left : QuotedReaderValue → ℕ → List (List ℕ) → ScalarOutcomeValue
left s n rows = stopped_below s.double s.opening (s.down + s.blanks + n + 1) (λ last. s.value ++ folded s.double s.backslash s.blanks (take n rows) last)
    (last_backslash s.double (s.down + s.blanks) (open_backslash s.blanks s.backslash) (take n rows)) (drop n rows)

abbrev reading : QuotedReaderValue → List (List ℕ) → ScalarOutcomeValue
reading = outcome_of_lines quoted_step quoted_finish

abbrev Agrees : QuotedReaderValue → List (List ℕ) → Type 0
Agrees s rows = reading s rows ≡ left s (rows_passed s.double rows) rows

-- at the text's end
finished : (s : QuotedReaderValue) (b : Option ℕ) (x : Bool) → eqb s.blanks 0 ≡ x
    → option_map_or (λ column. Refused BadEscape s.down column) (cond x b None) (Refused UnclosedQuote 0 s.opening) ≡ unclosed s.opening (option_map (λ column. (s.down + s.blanks, column)) (cond x b None))
finished s None true h = refl
finished s None false h = refl
finished s (Some column) false h = refl
finished s (Some column) true h =
    let none : s.blanks ≡ 0 = eqb-true s.blanks 0 h in
    let place : s.down ≡ s.down + s.blanks = omega arith in
    ap (λ down. Refused BadEscape down column) place

not_zero : (n : ℕ) → eqb (n + 1) 0 ≡ false
not_zero n = ne_eqb (n + 1) 0 (λ e. omega arith)

module _ (s : QuotedReaderValue) (row : List ℕ) (more : List (List ℕ)) where
  abbrev n : ℕ
  n = rows_passed s.double more

  abbrev passed : List (List ℕ)
  passed = take n more

  abbrev later : QuotedReaderValue
  later = record s { blanks = s.blanks + 1 }

  abbrev gs : List Glyph
  gs = row_glyphs s.double row

  abbrev value : List ℕ
  value = s.value ++ joint s.backslash s.blanks

  abbrev behind : QuotedReaderValue
  behind = record s { down = s.down + s.blanks + 1; blanks = 0; value = value ++ row_text gs; backslash = row_backslash s.double row }

  goes_by : stops_in s.double row ≡ false → rows_passed s.double (row ∷ more) ≡ suc n
  goes_by h = rw h (one-add n)

  stays : stops_in s.double row ≡ true → rows_passed s.double (row ∷ more) ≡ 0
  stays h = rw h refl

  -- in which row the scalar stops, by how many it passes, and the row above
  abbrev below : ℕ → (List ℕ → List ℕ) → ℕ → Option ℕ → ScalarOutcomeValue
  below down above up backslash = stopped_below s.double s.opening down above (last_backslash s.double up backslash passed) (drop n more)

  blank : is_blank row ≡ true → Agrees later more → reading later more ≡ left s (suc n) (row ∷ more)
  blank h ih =
      let low : s.down + (s.blanks + 1) + n + 1 ≡ s.down + s.blanks + suc n + 1 = omega arith in
      let up : s.down + (s.blanks + 1) ≡ s.down + s.blanks + 1 = omega arith in
      let none : open_backslash (s.blanks + 1) s.backslash ≡ row_backslash s.double row = rw (not_zero s.blanks, blank_front row h) refl in
      let same : (λ last. s.value ++ folded s.double s.backslash (s.blanks + 1) passed last) ≡ (λ last. s.value ++ folded s.double s.backslash s.blanks (row ∷ passed) last) = rw h refl in
      ih
      ∙ ap (λ k. below k (λ last. s.value ++ folded s.double s.backslash (s.blanks + 1) passed last) (s.down + (s.blanks + 1)) (open_backslash (s.blanks + 1) s.backslash)) low
      ∙ ap (λ k. below (s.down + s.blanks + suc n + 1) (λ last. s.value ++ folded s.double s.backslash (s.blanks + 1) passed last) k (open_backslash (s.blanks + 1) s.backslash)) up
      ∙ ap (λ b. below (s.down + s.blanks + suc n + 1) (λ last. s.value ++ folded s.double s.backslash (s.blanks + 1) passed last) (s.down + s.blanks + 1) b) none
      ∙ ap (λ f. below (s.down + s.blanks + suc n + 1) f (s.down + s.blanks + 1) (row_backslash s.double row)) same

  joined : (last : List ℕ) → value ++ row_text gs ++ last ≡ s.value ++ (joint s.backslash s.blanks ++ row_text gs ++ last)
  joined last = simp append_assoc

  text : is_blank row ≡ false → Agrees behind more → reading behind more ≡ left s (suc n) (row ∷ more)
  text h ih =
      let low : s.down + s.blanks + 1 + 0 + n + 1 ≡ s.down + s.blanks + suc n + 1 = omega arith in
      let up : s.down + s.blanks + 1 + 0 ≡ s.down + s.blanks + 1 = omega arith in
      let same : (λ last. s.value ++ (joint s.backslash s.blanks ++ row_text gs ++ folded s.double (row_backslash s.double row) 0 passed last)) ≡ (λ last. s.value ++ folded s.double s.backslash s.blanks (row ∷ passed) last) = rw h refl in
      ih
      ∙ ap (λ k. below k (λ last. value ++ row_text gs ++ folded s.double (row_backslash s.double row) 0 passed last) (s.down + s.blanks + 1 + 0) (row_backslash s.double row)) low
      ∙ ap (λ k. below (s.down + s.blanks + suc n + 1) (λ last. value ++ row_text gs ++ folded s.double (row_backslash s.double row) 0 passed last) k (row_backslash s.double row)) up
      ∙ ap (λ f. below (s.down + s.blanks + suc n + 1) f (s.down + s.blanks + 1) (row_backslash s.double row)) (λ i last. joined (folded s.double (row_backslash s.double row) 0 passed last) i)
      ∙ ap (λ f. below (s.down + s.blanks + suc n + 1) f (s.down + s.blanks + 1) (row_backslash s.double row)) same

  -- a row with which the scalar may stop
  by_stop : is_marker row ≡ false → is_blank row ≡ false → (stop : Option (ℕ × Stop)) → row_stop s.double row ≡ stop → Agrees behind more →
      outcome_of_step (λ s. reading s more) (stepped (with_break s) (value ++ row_text gs) (value ++ text_before gs) stop (row_backslash s.double row))
      ≡ left s (rows_passed s.double (row ∷ more)) (row ∷ more)
  by_stop m b None e ih = text b ih ∙ ap (λ k. left s k (row ∷ more)) (sym (goes_by (rw (m, e) refl)))
  by_stop m b (Some (column, Closed)) e ih =
      let low : s.down + s.blanks + 1 ≡ s.down + s.blanks + 0 + 1 = omega arith in
      let here : left s 0 (row ∷ more) ≡ Whole (record { down = s.down + s.blanks + 0 + 1; column = column + 1; value = s.value ++ (joint s.backslash s.blanks ++ text_before gs) }) = rw (m, e) refl in
      ap (λ v. Whole (record { down = s.down + s.blanks + 1; column = column + 1; value = v })) (append_assoc s.value (joint s.backslash s.blanks) (text_before gs))
      ∙ ap (λ k. Whole (record { down = k; column = column + 1; value = s.value ++ (joint s.backslash s.blanks ++ text_before gs) })) low
      ∙ sym here ∙ ap (λ k. left s k (row ∷ more)) (sym (stays (rw (m, e) refl)))
  by_stop m b (Some (column, Faulted fault)) e ih =
      let low : s.down + s.blanks + 1 ≡ s.down + s.blanks + 0 + 1 = omega arith in
      let here : left s 0 (row ∷ more) ≡ Refused fault (s.down + s.blanks + 0 + 1) column = rw (m, e) refl in
      ap (λ k. Refused fault k column) low ∙ sym here ∙ ap (λ k. left s k (row ∷ more)) (sym (stays (rw (m, e) refl)))

  any : (m : Bool) → is_marker row ≡ m → (b : Bool) → is_blank row ≡ b → Agrees later more → Agrees behind more → Agrees s (row ∷ more)
  any true m b hb blank_ih text_ih =
      let low : s.down + s.blanks + 1 ≡ s.down + s.blanks + 0 + 1 = omega arith in
      let here : left s 0 (row ∷ more) ≡ Refused MarkerInQuote (s.down + s.blanks + 0 + 1) 0 = rw m refl in
      let there : reading s (row ∷ more) ≡ Refused MarkerInQuote (s.down + s.blanks + 1) 0 = rw m refl in
      there ∙ ap (λ k. Refused MarkerInQuote k 0) low ∙ sym here ∙ ap (λ k. left s k (row ∷ more)) (sym (stays (rw m refl)))
  any false m true hb blank_ih text_ih =
      let there : reading s (row ∷ more) ≡ reading later more = rw (m, hb) refl in
      there ∙ blank hb blank_ih ∙ ap (λ k. left s k (row ∷ more)) (sym (goes_by (rw (m, blank_front row hb) refl)))
  any false m false hb blank_ih text_ih =
      let there : reading s (row ∷ more) ≡ outcome_of_step (λ s. reading s more) (stepped (with_break s) (value ++ row_text gs) (value ++ text_before gs) (row_stop s.double row) (row_backslash s.double row)) =
      rw (m, hb) (ap (outcome_of_step (λ s. reading s more)) (row_steps (with_break s) (prefix_len is_white row) (without_front row) value)) in
      there ∙ by_stop m hb (row_stop s.double row) refl text_ih

agrees : (rows : List (List ℕ)) (s : QuotedReaderValue) → Agrees s rows
agrees [] s = finished s s.backslash (eqb s.blanks 0) refl
agrees (row ∷ more) s = any s row more (is_marker row) refl (is_blank row) refl (agrees more (later s row more)) (agrees more (behind s row more))

module _ (double : Bool) (opening : ℕ) (first : List ℕ) (rows : List (List ℕ)) where
  abbrev first_glyphs : List Glyph
  first_glyphs = glyphs double 0 first

  by_first : (stop : Option (ℕ × Stop)) →
      outcome_of_step (λ s. reading s rows) (stepped (quoted_start double opening) (row_text first_glyphs) (text_before first_glyphs) stop (backslash_in (opening + 1) first_glyphs))
      ≡ stopped 0 (text_before first_glyphs) stop (below_first double opening first_glyphs (rows_passed double rows) rows)
  by_first None =
      agrees rows (record { double = double; opening = opening; down = 0; blanks = 0; value = row_text first_glyphs; backslash = backslash_in (opening + 1) first_glyphs })
      ∙ ap (λ k. stopped_below double opening (k + 1) (λ last. row_text first_glyphs ++ folded double (backslash_in (opening + 1) first_glyphs) 0 (take (rows_passed double rows) rows) last)
      (last_backslash double 0 (backslash_in (opening + 1) first_glyphs) (take (rows_passed double rows) rows)) (drop (rows_passed double rows) rows)) (zero-add (rows_passed double rows))
  by_first (Some (column, Closed)) = refl
  by_first (Some (column, Faulted fault)) = refl

  law : outcome_of_step (λ s. reading s rows) (quoted_begin double opening first) ≡ of_rows double opening first rows
  law = ap (outcome_of_step (λ s. reading s rows)) (row_steps (quoted_start double opening) (opening + 1) first []) ∙ by_first (stop_in (opening + 1) first_glyphs)

pub quoted_rows_law : QuotedRowsLaw
quoted_rows_law = law
