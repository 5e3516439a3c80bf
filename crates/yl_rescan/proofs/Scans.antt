-- Scanning rows again.
use Rattle.std.proofs.Common.{◌≡◌, ℕ, zero, suc, ◌+◌, ◌-◌, ◌<◌, ◌≤◌, true, false, List, [], ◌∷◌, ◌++◌, length, map, take, drop, Option, Some, None, refl, ap, sym, ◌∙◌, subst, arith, inl, inr, length-append}
use Rattle.std.specs.Prelude.{slice_get, IsSome}
use Rattle.std.specs.Str.{chars}
use Rattle.std.proofs.lemmas.Bool.{cases_lt}
use Rattle.std.proofs.lemmas.List.{drop-map, length-map, length-drop}
use Rattle.std.proofs.Math.ListN.{drop_of_length-le}
use Rattle.std.proofs.lemmas.Option.{slice_get_within, get_or_from_slice_get}
use Rattle.std.proofs.Math.Seq.{drop-cons, take-length}
use Rattle.std.proofs.Common.{add-one}
use Rattle.yl_text.specs.Character.{indentation}
use Rattle.yl_text.specs.Lines.{RowValue}
use Rattle.yl_lexeme.specs.Known.{SurroundingsValue}
use Rattle.yl_lexeme.specs.Lexeme.{LexemeValue}
use Rattle.yl_row.specs.declared.fault.PlacedScanFault.{PlacedScanFault}
use Rattle.yl_row.specs.Fault.{is_unclosed}
use Rattle.yl_row.specs.Step.{FoundLexemeValue}
use Rattle.yl_row.specs.ScalarReader.{open_found}
use Rattle.yl_row.specs.Entries.{RowEntry, LineStateValue, lexeme_of, stopped_rows}
use Rattle.yl_row.specs.Run.{entries_by}
use Rattle.yl_scan.specs.Remaining.{PhaseValue, Fresh, Within, Halted, rows_to}
use Rattle.yl_scan.specs.Restart.{state_at}
use Rattle.yl_scan.specs.Settled.{with_last}
use Rattle.yl_record.specs.Parts.{entries_in, indentations_in, with_fault_in}
use Rattle.yl_record.specs.Records.{RecordValue, characters_in, records, records_with}
use Rattle.yl_record.specs.Recorded.{records_from}
use Rattle.yl_record.specs.Recorded.{RecorderValue, entries_with_scalar, entries_with_rest, if_wanted, recorded}
use Rattle.yl_rescan.specs.Agree.{state_of_row, BeginsAt, GoesOn}
use Rattle.yl_rescan.proofs.Rows.{records_length, sound_behind, state_behind}

-- ---- what is put into records late leaves their states alone

last_state : (n : ℕ) (x : LexemeValue) (es : List RowEntry) (i : ℕ) → state_at (with_last n x es) i ≡ state_at es i
last_state zero x [] i = refl
last_state (suc n) x [] i = refl
last_state zero x (e ∷ es) zero = refl
last_state zero x (e ∷ es) (suc i) = refl
last_state (suc n) x (e ∷ es) zero = refl
last_state (suc n) x (e ∷ es) (suc i) = last_state n x es i

fault_state : (n : ℕ) (f : PlacedScanFault) (es : List RowEntry) (i : ℕ) → state_at (with_fault_in n f es) i ≡ state_at es i
fault_state zero f [] i = refl
fault_state (suc n) f [] i = refl
fault_state zero f (e ∷ es) zero = refl
fault_state zero f (e ∷ es) (suc i) = refl
fault_state (suc n) f (e ∷ es) zero = refl
fault_state (suc n) f (e ∷ es) (suc i) = fault_state n f es i

last_length : (n : ℕ) (x : LexemeValue) (es : List RowEntry) → length (with_last n x es) ≡ length es
last_length zero x [] = refl
last_length (suc n) x [] = refl
last_length zero x (e ∷ es) = refl
last_length (suc n) x (e ∷ es) = ap suc (last_length n x es)

fault_length : (n : ℕ) (f : PlacedScanFault) (es : List RowEntry) → length (with_fault_in n f es) ≡ length es
fault_length zero f [] = refl
fault_length (suc n) f [] = refl
fault_length zero f (e ∷ es) = refl
fault_length (suc n) f (e ∷ es) = ap suc (fault_length n f es)

front_state : (es fs : List RowEntry) (i : ℕ) → i < length es → state_at (es ++ fs) i ≡ state_at es i
front_state [] fs i l = absurd (omega (arith, l))
front_state (e ∷ es) fs zero l = refl
front_state (e ∷ es) fs (suc i) l = front_state es fs i (omega (arith, l))

entry_state : (rs : List RecordValue) (i : ℕ) → state_at (entries_in rs) i ≡ state_of_row rs i
entry_state [] i = refl
entry_state (r ∷ rs) zero = refl
entry_state (r ∷ rs) (suc i) = entry_state rs i

scalar_state : (told : List RowEntry) (line begun taken at i : ℕ) (f : FoundLexemeValue) (k : SurroundingsValue) (rows : List (List ℕ)) (g : Option PlacedScanFault) → i < length told
    → state_at (entries_with_scalar told line begun taken at f k rows g) i ≡ state_at told i
scalar_state told line begun taken at i f k rows None l =
    let x = lexeme_of at f in
    front_state (with_last (begun - taken) x told) (entries_by false (rows_to line begun f.down) f.column k rows) i (omega (arith, l, last_length (begun - taken) x told)) ∙ last_state (begun - taken) x told i
scalar_state told line begun taken at i f k rows (Some g) l =
    front_state (with_fault_in (begun - taken) g told) (stopped_rows (is_unclosed g.fault) (rows_to line begun g.down) rows) i (omega (arith, l, fault_length (begun - taken) g told)) ∙ fault_state (begun - taken) g told i

rest_state : (told : List RowEntry) (taken : ℕ) (stand : PhaseValue) (rows : List (List ℕ)) (i : ℕ) → i < length told → state_at (entries_with_rest told taken stand rows) i ≡ state_at told i
rest_state told taken (Fresh start k) rows i l = front_state told (entries_by start 0 0 k rows) i l
rest_state told taken (Within begun style at m k) rows i l = let f = open_found style at m rows in scalar_state told (taken + length told) begun taken at i f k rows f.fault l
rest_state told taken (Halted to_end down) rows i l = front_state told (stopped_rows to_end down rows) i l

kept_state : (i : ℕ) (ns : List ℕ) (es : List RowEntry) → i < length ns → state_of_row (records_with ns es) i ≡ state_at es i
kept_state i [] es l = absurd (omega (arith, l))
kept_state i (n ∷ ns) [] l = refl
kept_state zero (n ∷ ns) (e ∷ es) l = refl
kept_state (suc i) (n ∷ ns) (e ∷ es) l = kept_state i ns es (omega (arith, l))

-- the state of a row that a recorder was fed is that of its record
recorded_state : (v : RecorderValue) (rows : List (List ℕ)) (i : ℕ) → v.states ≡ true → i < length v.records → state_of_row (recorded v rows) i ≡ state_of_row v.records i
recorded_state v rows i wanted l =
    let ns = indentations_in v.records ++ map indentation rows in
    let es = entries_with_rest (entries_in v.records) v.taken v.stand rows in
    ap (λ b. state_of_row (records_with ns (if_wanted b es)) i) wanted
    ∙ (kept_state i ns es (omega (arith, l, length-append (indentations_in v.records) (map indentation rows), length-map v.records (λ r. r.indentation)))
    ∙ (rest_state (entries_in v.records) v.taken v.stand rows i (omega (arith, l, length-map v.records (λ r. r.entry)))
    ∙ entry_state v.records i))

-- ---- rows

rows_at : (rows : List RowValue) (i : ℕ) (row : RowValue) → slice_get rows i ≡ Some row → drop i rows ≡ row ∷ drop (i + 1) rows
rows_at rows i row e =
    let l : i < length rows = slice_get_within rows i row e in
    rw (add-one i, drop-cons rows i row, get_or_from_slice_get rows i row row e)

pub characters_dropped : (i : ℕ) (rows : List RowValue) → characters_in (drop i rows) ≡ drop i (characters_in rows)
characters_dropped i rows = sym (drop-map (λ (row : RowValue). chars row.text) i rows)

-- where scanning begins
pub begins_told : (rows : List RowValue) (told : List (List ℕ) → List RecordValue) (row : ℕ) (state : Option LineStateValue) → BeginsAt (records (characters_in rows)) row state
    → (state ≡ None → (qs : List (List ℕ)) → told qs ≡ records qs) → ((s : LineStateValue) → state ≡ Some s → (qs : List (List ℕ)) → told qs ≡ records_from s qs)
    → told (characters_in (drop row rows)) ≡ drop row (records (characters_in rows))
begins_told rows told row None begins start resume = rw begins (start refl (characters_in rows))
begins_told rows told row (Some s) begins start resume =
    resume s refl (characters_in (drop row rows)) ∙ (ap (λ (qs : List (List ℕ)). records_from s qs) (characters_dropped row rows) ∙ sym (sound_behind (characters_in rows) row s begins))

-- a row more
pub told_next : (old new : List (List ℕ) → List RecordValue) (rows : List RowValue) (i : ℕ) (row : RowValue) (text : List ℕ) (total : List RecordValue)
    → slice_get rows i ≡ Some row → text ≡ row.text → ((rest : List (List ℕ)) → new rest ≡ old (chars text ∷ rest))
    → old (characters_in (drop i rows)) ≡ total → new (characters_in (drop (i + 1) rows)) ≡ total
told_next old new rows i row text total at is told whole =
    told (characters_in (drop (i + 1) rows))
    ∙ (ap (λ (t : List ℕ). old (chars t ∷ characters_in (drop (i + 1) rows))) is
    ∙ (ap (λ (rs : List RowValue). old (characters_in rs)) (sym (rows_at rows i row at)) ∙ whole))

-- its state
pub state_told : (v : RecorderValue) (rest : List (List ℕ)) (total : List RecordValue) (r i : ℕ) (state : Option LineStateValue) → r ≤ i → v.states ≡ true → length v.records ≡ i - r + 1 → recorded v rest ≡ drop r total
    → state ≡ state_of_row v.records (length v.records - 1) → state ≡ state_of_row total i
state_told v rest total r i state l wanted fed whole is =
    let last : length v.records - 1 ≡ i - r = omega (arith, fed) in
    is ∙ (ap (λ n. state_of_row v.records n) last
    ∙ (sym (recorded_state v rest (i - r) wanted (omega (arith, fed)))
    ∙ (ap (λ (rs : List RecordValue). state_of_row rs (i - r)) whole ∙ state_behind total r i l)))

-- the records up to a row
pub cut_told : (v : RecorderValue) (rest : List (List ℕ)) (items total : List RecordValue) (r i : ℕ) → length v.records ≡ i - r + 1 → recorded v rest ≡ drop r total
    → ((qs : List (List ℕ)) → items ≡ take (length v.records - 1) (recorded v qs)) → items ≡ take (i - r) (drop r total)
cut_told v rest items total r i fed whole told =
    let n : length v.records - 1 ≡ i - r = omega (arith, fed) in
    told rest ∙ (ap (λ k. take k (recorded v rest)) n ∙ ap (λ es. take (i - r) es) whole)

-- scanning goes on over one row more
pub on_over : (old total : List RecordValue) (cut : Option ℕ) (stop b i : ℕ) → ((j : ℕ) → stop ≤ j → j < i → GoesOn old cut (j - stop + b) (state_of_row total j))
    → (stop ≤ i → GoesOn old cut (i - stop + b) (state_of_row total i)) → (j : ℕ) → stop ≤ j → j < i + 1 → GoesOn old cut (j - stop + b) (state_of_row total j)
on_over old total cut stop b i below here j s l = elim (cases_lt j i) [
  | inl k ↦ below j s k
  | inr k ↦
      let same : i ≡ j = omega (arith, k, l) in
      subst (λ n. GoesOn old cut (n - stop + b) (state_of_row total n)) same (here (omega (arith, s, same)))
]

pub characters_length : (rows : List RowValue) → length (characters_in rows) ≡ length rows
characters_length rows = length-map rows (λ (row : RowValue). chars row.text)

-- the records to the text's end
pub all_told : (v : RecorderValue) (rows : List RowValue) (r end i : ℕ) → end ≡ length rows → i ≡ length rows → recorded v (characters_in (drop i rows)) ≡ drop r (records (characters_in rows))
    → recorded v [] ≡ take (end - r) (drop r (records (characters_in rows)))
all_told v rows r end i at ended whole =
    let all = records (characters_in rows) in
    let n : end - r ≡ length (drop r all) = omega (arith, at, length-drop r all, records_length (characters_in rows), characters_length rows) in
    ap (λ (qs : List RowValue). recorded v (characters_in qs)) (sym (drop_of_length-le rows {i = i} (omega (arith, ended))))
    ∙ (whole ∙ (sym (take-length (drop r all)) ∙ ap (λ k. take k (drop r all)) (sym n)))

pub some_end : {X : Type 0} (o : Option X) (x : X) → o ≡ Some x → IsSome o
some_end o x h = subst IsSome (sym h) refl
