-- Whether a row is sound, its state and what the rows above it consist of depend on the rows down to it alone.
use Rattle.std.proofs.Common.{◌≡◌, ℕ, zero, suc, ◌≤◌, inl, inr, Bool, true, false, cond, not, ◌||◌, List, [], ◌∷◌, ◌++◌, length, take, Option, Some, None, refl, ap, sym, subst, ◌∙◌, arith}
use Rattle.yl_text.specs.Character.{is_blank}
use Rattle.yl_row.specs.declared.fault.PlacedScanFault.{PlacedScanFault}
use Rattle.yl_row.specs.Fault.{is_unclosed}
use Rattle.yl_row.specs.Step.{first_tab}
use Rattle.yl_lexeme.specs.Known.{SurroundingsValue, context_of, no_surroundings}
use Rattle.yl_row.specs.Entries.{RowEntry, LineStateValue, Stopped, RowReading, state_of, entry_of, entries_below, stopped_rows, entries}
use Rattle.yl_row.specs.Run.{row_reading_by, entries_by}
use Rattle.yl_row.proofs.Agree.{run-entries}
use Rattle.yl_scan.specs.Restart.{state_at}
use Rattle.yl_scan.proofs.Covered.{FaultCovers, SameOrCovers, read_same}

-- the row at a line is sound in both, with the same state, or in none; if it is sound, the rows above are the same
abbrev pub Agrees : ℕ → List RowEntry → List RowEntry → Type 0
Agrees n es es' = (state_at es n ≡ state_at es' n) × ((s : LineStateValue) → state_at es n ≡ Some s → take n es ≡ take n es')

one_more : (n : ℕ) (e : RowEntry) (es es' : List RowEntry) → Agrees n es es' → Agrees (suc n) (e ∷ es) (e ∷ es')
one_more n e es es' h = (h.0, λ s p. ap (λ es. e ∷ es) (h.1 s p))

not_sound : (n : ℕ) (es es' : List RowEntry) → state_at es n ≡ None → state_at es' n ≡ None → Agrees n es es'
not_sound n es es' p q = (p ∙ sym q, λ s h. let no : None ≡ Some s = sym p ∙ h in cc)

-- ---- rows that are not sound

none_down : (n down column : ℕ) (k : SurroundingsValue) (rows : List (List ℕ)) → suc n ≤ down → state_at (entries_by false down column k rows) n ≡ None
none_down n down column k [] h = refl
none_down n zero column k (row ∷ rows) h = absurd (omega arith)
none_down zero (suc zero) column k (row ∷ rows) h = refl
none_down (suc n) (suc zero) column k (row ∷ rows) h = absurd (omega arith)
none_down zero (suc (suc down)) column k (row ∷ rows) h = refl
none_down (suc n) (suc (suc down)) column k (row ∷ rows) h = none_down n (suc down) column k rows (omega (arith, h))

none_to_end : (n down : ℕ) (rows : List (List ℕ)) → state_at (stopped_rows true down rows) n ≡ None
none_to_end n down [] = refl
none_to_end zero zero (row ∷ rows) = by_case (is_blank row)
  where
    by_case : (b : Bool) → cond (b || true) None (Some Stopped) ≡ None
    by_case true = refl
    by_case false = refl
none_to_end (suc n) zero (row ∷ rows) = none_to_end n 0 rows
none_to_end zero (suc down) (row ∷ rows) = refl
none_to_end (suc n) (suc down) (row ∷ rows) = none_to_end n down rows

none_reached : (to_end : Bool) (n down : ℕ) (rows : List (List ℕ)) → suc n ≤ down → state_at (stopped_rows to_end down rows) n ≡ None
none_reached to_end n down [] h = refl
none_reached to_end n zero (row ∷ rows) h = absurd (omega arith)
none_reached to_end zero (suc down) (row ∷ rows) h = refl
none_reached to_end (suc n) (suc down) (row ∷ rows) h = none_reached to_end n down rows (omega (arith, h))

abbrev rest : List (List ℕ) → RowReading SurroundingsValue → Option PlacedScanFault → List RowEntry
rest rows r f = entries_below (λ down column k. entries_by false down column k rows) rows r f

none_covered : (n : ℕ) (rows : List (List ℕ)) (r : RowReading SurroundingsValue) (f : Option PlacedScanFault) → FaultCovers (suc n) r.down f → state_at (rest rows r f) n ≡ None
none_covered n rows r None h = none_down n r.down r.column r.behind rows h
none_covered n rows r (Some f) (inl h) = ap (λ b. state_at (stopped_rows b f.down rows) n) h ∙ none_to_end n f.down rows
none_covered n rows r (Some f) (inr h) = none_reached (is_unclosed f.fault) n f.down rows h

-- a blank row below the first one
module _ (row : List ℕ) (rows : List (List ℕ)) (blank : is_blank row ≡ true) where
  none_stopped : (to_end : Bool) (down : ℕ) (above : List (List ℕ)) → state_at (stopped_rows to_end down (above ++ row ∷ rows)) (length above) ≡ None
  none_stopped to_end zero [] = ap (λ b. cond (b || to_end) None (Some Stopped)) blank
  none_stopped to_end (suc down) [] = refl
  none_stopped to_end zero (x ∷ above) = none_stopped to_end 0 above
  none_stopped to_end (suc down) (x ∷ above) = none_stopped to_end down above

  none_rest : (above : List (List ℕ)) (r : RowReading SurroundingsValue) (f : Option PlacedScanFault) → ((down column : ℕ) (k : SurroundingsValue) → state_at (entries_by false down column k (above ++ row ∷ rows)) (length above) ≡ None)
      → state_at (rest (above ++ row ∷ rows) r f) (length above) ≡ None
  none_rest above r None h = h r.down r.column r.behind
  none_rest above r (Some f) h = none_stopped (is_unclosed f.fault) f.down above

  none_blank : (above : List (List ℕ)) (down column : ℕ) (k : SurroundingsValue) → state_at (entries_by false down column k (above ++ row ∷ rows)) (length above) ≡ None
  none_blank [] zero column k = ap (λ b. cond (not b) (Some (state_of (context_of k))) None) blank
  none_blank [] (suc zero) column k = refl
  none_blank [] (suc (suc down)) column k = refl
  none_blank (x ∷ above) zero column k =
      let r = row_reading_by (above ++ row ∷ rows) (first_tab false x) 0 true true 0 k x in
      none_rest above r r.fault (λ down column k. none_blank above down column k)
  none_blank (x ∷ above) (suc zero) column k =
      let r = row_reading_by (above ++ row ∷ rows) (first_tab true x) column false false 0 k x in
      none_rest above r r.fault (λ down column k. none_blank above down column k)
  none_blank (x ∷ above) (suc (suc down)) column k = none_blank above (suc down) column k

-- ---- all rows

module _ (row : List ℕ) (rows rows' : List (List ℕ)) where
  stopped_agrees : (to_end : Bool) (down : ℕ) (above : List (List ℕ)) → Agrees (length above) (stopped_rows to_end down (above ++ row ∷ rows)) (stopped_rows to_end down (above ++ row ∷ rows'))
  stopped_agrees to_end zero [] = (refl, λ s h. refl)
  stopped_agrees to_end (suc down) [] = (refl, λ s h. refl)
  stopped_agrees to_end zero (x ∷ above) = one_more (length above) _ _ _ (stopped_agrees to_end 0 above)
  stopped_agrees to_end (suc down) (x ∷ above) = one_more (length above) _ _ _ (stopped_agrees to_end down above)

  rest_agrees : (above : List (List ℕ)) (r : RowReading SurroundingsValue) (f : Option PlacedScanFault)
      → ((down column : ℕ) (k : SurroundingsValue) → Agrees (length above) (entries_by false down column k (above ++ row ∷ rows)) (entries_by false down column k (above ++ row ∷ rows')))
      → Agrees (length above) (rest (above ++ row ∷ rows) r f) (rest (above ++ row ∷ rows') r f)
  rest_agrees above r None h = h r.down r.column r.behind
  rest_agrees above r (Some f) h = stopped_agrees (is_unclosed f.fault) f.down above

  row_agrees : (above : List (List ℕ)) (state : Option LineStateValue) (r r' : RowReading SurroundingsValue)
      → ((down column : ℕ) (k : SurroundingsValue) → Agrees (length above) (entries_by false down column k (above ++ row ∷ rows)) (entries_by false down column k (above ++ row ∷ rows')))
      → SameOrCovers (suc (length above)) r r'
      → Agrees (suc (length above)) (entry_of state r ∷ rest (above ++ row ∷ rows) r r.fault) (entry_of state r' ∷ rest (above ++ row ∷ rows') r' r'.fault)
  row_agrees above state r r' h (inl e) =
      subst (λ x. Agrees (suc (length above)) (entry_of state r ∷ rest (above ++ row ∷ rows) r r.fault) (entry_of state x ∷ rest (above ++ row ∷ rows') x x.fault)) e
      (one_more (length above) (entry_of state r) _ _ (rest_agrees above r r.fault h))
  row_agrees above state r r' h (inr c) =
      not_sound (suc (length above)) (entry_of state r ∷ rest (above ++ row ∷ rows) r r.fault) (entry_of state r' ∷ rest (above ++ row ∷ rows') r' r'.fault)
      (none_covered (length above) (above ++ row ∷ rows) r r.fault c.0) (none_covered (length above) (above ++ row ∷ rows') r' r'.fault c.1)

  module _ (text : is_blank row ≡ false) where
    text_agrees : (above : List (List ℕ)) (start : Bool) (down column : ℕ) (k : SurroundingsValue)
        → Agrees (length above) (entries_by start down column k (above ++ row ∷ rows)) (entries_by start down column k (above ++ row ∷ rows'))
    text_agrees [] start zero column k = (refl, λ s h. refl)
    text_agrees [] start (suc zero) column k = (refl, λ s h. refl)
    text_agrees [] start (suc (suc down)) column k = (refl, λ s h. refl)
    text_agrees (x ∷ above) start zero column k =
        row_agrees above _ _ _ (λ down column k. text_agrees above false down column k)
        (read_same above row rows rows' text (suc (length above)) (omega arith) (first_tab false x) 0 true true 0 k x)
    text_agrees (x ∷ above) start (suc zero) column k =
        row_agrees above _ _ _ (λ down column k. text_agrees above false down column k)
        (read_same above row rows rows' text (suc (length above)) (omega arith) (first_tab true x) column false false 0 k x)
    text_agrees (x ∷ above) start (suc (suc down)) column k = one_more (length above) _ _ _ (text_agrees above false (suc down) column k)

  first_agrees : (start : Bool) (down column : ℕ) (k : SurroundingsValue) → Agrees 0 (entries_by start down column k (row ∷ rows)) (entries_by start down column k (row ∷ rows'))
  first_agrees start zero column k = (refl, λ s h. refl)
  first_agrees start (suc zero) column k = (refl, λ s h. refl)
  first_agrees start (suc (suc down)) column k = (refl, λ s h. refl)

  -- below the first row a blank one is not sound
  blank_agrees : (above : List (List ℕ)) → is_blank row ≡ true → Agrees (length above) (entries_by true 0 0 no_surroundings (above ++ row ∷ rows)) (entries_by true 0 0 no_surroundings (above ++ row ∷ rows'))
  blank_agrees [] b = first_agrees true 0 0 no_surroundings
  blank_agrees (x ∷ above) b =
      let r = row_reading_by (above ++ row ∷ rows) (first_tab false x) 0 true true 0 no_surroundings x in
      let r' = row_reading_by (above ++ row ∷ rows') (first_tab false x) 0 true true 0 no_surroundings x in
      not_sound (suc (length above)) (entries_by true 0 0 no_surroundings (x ∷ above ++ row ∷ rows)) (entries_by true 0 0 no_surroundings (x ∷ above ++ row ∷ rows'))
      (none_rest row rows b above r r.fault (λ down column k. none_blank row rows b above down column k))
      (none_rest row rows' b above r' r'.fault (λ down column k. none_blank row rows' b above down column k))

  by_row : (b : Bool) → is_blank row ≡ b → (above : List (List ℕ)) → Agrees (length above) (entries_by true 0 0 no_surroundings (above ++ row ∷ rows)) (entries_by true 0 0 no_surroundings (above ++ row ∷ rows'))
  by_row true e above = blank_agrees above e
  by_row false e above = text_agrees e above true 0 0 no_surroundings

  pub entries_agree : (above : List (List ℕ)) → Agrees (length above) (entries (above ++ row ∷ rows)) (entries (above ++ row ∷ rows'))
  entries_agree above =
      subst (λ es. Agrees (length above) es (entries (above ++ row ∷ rows'))) (run-entries (above ++ row ∷ rows))
      (subst (λ es. Agrees (length above) (entries_by true 0 0 no_surroundings (above ++ row ∷ rows)) es) (run-entries (above ++ row ∷ rows')) (by_row (is_blank row) refl above))
