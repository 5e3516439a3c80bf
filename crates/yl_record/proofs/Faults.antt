-- At most one row has a fault, and it is told with its line.
use Rattle.std.proofs.Common.{◌≡◌, ℕ, zero, suc, ◌+◌, ◌-◌, ◌≤◌, ◌<◌, ◌⊎◌, inl, inr, Bool, true, false, List, [], ◌∷◌, ◌++◌, length, map, Option, Some, None, refl, ap, sym, subst, ◌∙◌, arith}
use Rattle.yl_lexeme.specs.Known.{SurroundingsValue, context_of}
use Rattle.yl_lexeme.specs.Lexeme.{LexemeValue}
use Rattle.yl_row.specs.declared.fault.PlacedScanFault.{PlacedScanFault}
use Rattle.yl_row.specs.Fault.{is_unclosed}
use Rattle.yl_row.specs.Step.{FoundLexemeValue, first_tab}
use Rattle.yl_row.specs.ScalarReader.{open_found}
use Rattle.yl_row.specs.Entries.{RowEntry, RowReading, LineStateValue, lexeme_of, entry_of, entries_below, sound_state, stopped_rows}
use Rattle.yl_row.specs.Run.{row_reading_by, entries_by}
use Rattle.yl_scan.specs.Output.{ScanOutput, first_fault, fault_in, output_of_entries}
use Rattle.yl_scan.specs.Remaining.{PhaseValue, Fresh, Within, Halted, rows_to, output_of_scalar, remaining_output}
use Rattle.yl_scan.specs.Scanner.{is_halted}
use Rattle.yl_scan.specs.Settled.{BeginsFrom, with_last, stored_row}
use Rattle.yl_scan.proofs.Settling.{tells}
use Rattle.yl_record.specs.Parts.{with_fault_in}
use Rattle.yl_record.specs.Recorded.{entries_with_scalar, entries_with_rest}
use Rattle.yl_record.specs.Recorder.{AreFaultless, FailsOnce}

pub both_faultless : (xs ys : List RowEntry) → AreFaultless xs → AreFaultless ys → AreFaultless (xs ++ ys)
both_faultless [] ys h k = k
both_faultless (x ∷ xs) ys h k = (h.0, both_faultless xs ys h.1 k)

pub faultless_once : (es : List RowEntry) → AreFaultless es → FailsOnce es
faultless_once [] h = tt
faultless_once (e ∷ es) h = inl h.1

pub then_once : (xs ys : List RowEntry) → AreFaultless xs → FailsOnce ys → FailsOnce (xs ++ ys)
then_once [] ys h k = k
then_once (x ∷ xs) ys h k = inr (h.0, then_once xs ys h.1 k)

pub once_then : (xs ys : List RowEntry) → FailsOnce xs → AreFaultless ys → FailsOnce (xs ++ ys)
once_then [] ys h k = faultless_once ys k
once_then (x ∷ xs) ys (inl h) k = inl (both_faultless xs ys h k)
once_then (x ∷ xs) ys (inr h) k = inr (h.0, once_then xs ys h.1 k)

pub last_faultless : (n : ℕ) (x : LexemeValue) (es : List RowEntry) → AreFaultless es → AreFaultless (with_last n x es)
last_faultless zero x [] h = tt
last_faultless (suc n) x [] h = tt
last_faultless zero x (e ∷ es) h = (h.0, h.1)
last_faultless (suc n) x (e ∷ es) h = (h.0, last_faultless n x es h.1)

pub last_once : (n : ℕ) (x : LexemeValue) (es : List RowEntry) → FailsOnce es → FailsOnce (with_last n x es)
last_once zero x [] h = tt
last_once (suc n) x [] h = tt
last_once zero x (e ∷ es) (inl h) = inl h
last_once zero x (e ∷ es) (inr h) = inr (h.0, h.1)
last_once (suc n) x (e ∷ es) (inl h) = inl (last_faultless n x es h)
last_once (suc n) x (e ∷ es) (inr h) = inr (h.0, last_once n x es h.1)

pub fault_once : (n : ℕ) (f : PlacedScanFault) (es ys : List RowEntry) → AreFaultless es → AreFaultless ys → FailsOnce (with_fault_in n f es ++ ys)
fault_once zero f [] ys h k = faultless_once ys k
fault_once (suc n) f [] ys h k = faultless_once ys k
fault_once zero f (e ∷ es) ys h k = inl (both_faultless es ys h.1 k)
fault_once (suc n) f (e ∷ es) ys h k = inr (h.0, fault_once n f es ys h.1 k)

pub stopped_faultless : (to_end : Bool) (down : ℕ) (rows : List (List ℕ)) → AreFaultless (stopped_rows to_end down rows)
stopped_faultless to_end zero [] = tt
stopped_faultless to_end (suc down) [] = tt
stopped_faultless to_end zero (row ∷ rows) = (refl, stopped_faultless to_end zero rows)
stopped_faultless to_end (suc down) (row ∷ rows) = (refl, stopped_faultless to_end down rows)

below_once : (s : Option LineStateValue) (r : RowReading SurroundingsValue) (rows : List (List ℕ)) (more : ℕ → ℕ → SurroundingsValue → List RowEntry) (g : Option PlacedScanFault) → r.fault ≡ g
    → ((down column : ℕ) (k : SurroundingsValue) → FailsOnce (more down column k)) → FailsOnce (entry_of s r ∷ entries_below more rows r g)
below_once s r rows more None e h = inr (e, h r.down r.column r.behind)
below_once s r rows more (Some f) e h = inl (stopped_faultless (is_unclosed f.fault) f.down rows)

pub run_once : (start : Bool) (down column : ℕ) (k : SurroundingsValue) (rows : List (List ℕ)) → FailsOnce (entries_by start down column k rows)
run_once start zero column k [] = tt
run_once start (suc zero) column k [] = tt
run_once start (suc (suc down)) column k [] = tt
run_once start (suc zero) column k (row ∷ rows) =
    let r = row_reading_by rows (first_tab true row) column false false 0 k row in
    below_once None r rows (λ down column k. entries_by false down column k rows) r.fault refl (λ down column k. run_once false down column k rows)
run_once start (suc (suc down)) column k (row ∷ rows) = inr (refl, run_once false (suc down) column k rows)
run_once start zero column k (row ∷ rows) =
    let r = row_reading_by rows (first_tab false row) 0 true true 0 k row in
    below_once (sound_state start row (context_of k)) r rows (λ down column k. entries_by false down column k rows) r.fault refl (λ down column k. run_once false down column k rows)

scalar_once : (told : List RowEntry) (line begun taken at : ℕ) (f : FoundLexemeValue) (k : SurroundingsValue) (rows : List (List ℕ)) (g : Option PlacedScanFault) → AreFaultless told
    → FailsOnce (entries_with_scalar told line begun taken at f k rows g)
scalar_once told line begun taken at f k rows None none = then_once (with_last (begun - taken) (lexeme_of at f) told) _ (last_faultless (begun - taken) (lexeme_of at f) told none) (run_once false (rows_to line begun f.down) f.column k rows)
scalar_once told line begun taken at f k rows (Some g) none = fault_once (begun - taken) g told _ none (stopped_faultless (is_unclosed g.fault) (rows_to line begun g.down) rows)

-- the rows told so far and those that follow
pub rest_once : (told : List RowEntry) (taken : ℕ) (stand : PhaseValue) (rows : List (List ℕ)) → FailsOnce told → (is_halted stand ≡ false → AreFaultless told) → FailsOnce (entries_with_rest told taken stand rows)
rest_once told taken (Fresh start k) rows once none = then_once told _ (none refl) (run_once start 0 0 k rows)
rest_once told taken (Within begun style at m k) rows once none = let f = open_found style at m rows in scalar_once told (taken + length told) begun taken at f k rows f.fault (none refl)
rest_once told taken (Halted to_end down) rows once none = once_then told _ once (stopped_faultless to_end down rows)

-- ---- what is told of a fault

abbrev pub FaultFrom : ℕ → Option (ℕ × PlacedScanFault) → Type 0
FaultFrom n None = Unit {0}
FaultFrom n (Some p) = n ≤ p.0

first_from : (n line : ℕ) (f : Option PlacedScanFault) (rest : Option (ℕ × PlacedScanFault)) → n ≤ line → FaultFrom n rest → FaultFrom n (first_fault (fault_in line f) rest)
first_from n line None rest le h = h
first_from n line (Some f) rest le h = le

pub fault_from : (n line : ℕ) (es : List RowEntry) → n ≤ line → FaultFrom n (output_of_entries line es).fault
fault_from n line [] le = tt
fault_from n line (e ∷ es) le = first_from n line e.fault (output_of_entries (line + 1) es).fault le (fault_from n (line + 1) es (omega (arith, le)))

scalar_fault_from : (n line begun at : ℕ) (f : FoundLexemeValue) (k : SurroundingsValue) (rows : List (List ℕ)) (g : Option PlacedScanFault) → n ≤ line → n ≤ begun → FaultFrom n (output_of_scalar line begun at f k rows g).fault
scalar_fault_from n line begun at f k rows None le from = fault_from n line (entries_by false (rows_to line begun f.down) f.column k rows) le
scalar_fault_from n line begun at f k rows (Some g) le from = from

pub left_fault_from : (n line : ℕ) (stand : PhaseValue) (rows : List (List ℕ)) → n ≤ line → BeginsFrom n stand → FaultFrom n (remaining_output line stand rows).fault
left_fault_from n line (Fresh start k) rows le from = fault_from n line (entries_by start 0 0 k rows) le
left_fault_from n line (Within begun style at m k) rows le from = let f = open_found style at m rows in scalar_fault_from n line begun at f k rows f.fault le from
left_fault_from n line (Halted to_end down) rows le from = fault_from n line (stopped_rows to_end down rows) le

pub no_fault : (line : ℕ) (es : List RowEntry) → AreFaultless es → (output_of_entries line es).fault ≡ None
no_fault line [] h = refl
no_fault line (e ∷ es) h = ap (λ f. first_fault (fault_in line f) (output_of_entries (line + 1) es).fault) h.0 ∙ no_fault (line + 1) es h.1

-- ---- what was told says what the rows are

same_rows : (es fs : List RowEntry) → map stored_row es ≡ map stored_row fs → AreFaultless es → AreFaultless fs → es ≡ fs
same_rows [] [] h p q = refl
same_rows [] (f ∷ fs) h p q = cc
same_rows (e ∷ es) [] h p q = cc
same_rows (e ∷ es) (f ∷ fs) h p q =
    let here : stored_row e ≡ stored_row f = cc in
    let below : map stored_row es ≡ map stored_row fs = cc in
    let fault : e.fault ≡ f.fault = p.0 ∙ sym q.0 in
    let more = same_rows es fs below p.1 q.1 in
    λ i. record { state = (here i).state; lexemes = (here i).lexemes; comment = (here i).comment; fault = fault i } ∷ more i

-- behind a fault none stands
behind_it : (e : RowEntry) (es : List RowEntry) (f : PlacedScanFault) → e.fault ≡ Some f → FailsOnce (e ∷ es) → AreFaultless es
behind_it e es f is (inl h) = h
behind_it e es f is (inr h) = let none : e.fault ≡ None = h.0 in cc

further : (e : RowEntry) (es : List RowEntry) → FailsOnce (e ∷ es) → FailsOnce es
further e es (inl h) = faultless_once es h
further e es (inr h) = h.1

same_entry : (e f : RowEntry) → stored_row e ≡ stored_row f → e.fault ≡ f.fault → e ≡ f
same_entry e f here fault = λ i. record { state = (here i).state; lexemes = (here i).lexemes; comment = (here i).comment; fault = fault i }

faults_tell : (line : ℕ) (es fs : List RowEntry) → map stored_row es ≡ map stored_row fs → FailsOnce es → FailsOnce fs → (output_of_entries line es).fault ≡ (output_of_entries line fs).fault → es ≡ fs
faults_tell line [] [] h p q k = refl
faults_tell line [] (f ∷ fs) h p q k = cc
faults_tell line (e ∷ es) [] h p q k = cc
faults_tell line (e ∷ es) (f ∷ fs) h p q k = by_faults e.fault f.fault refl refl k (λ m. faults_tell (line + 1) es fs below (further e es p) (further f fs q) m)
  where
    here : stored_row e ≡ stored_row f
    here = cc

    below : map stored_row es ≡ map stored_row fs
    below = cc

    by_faults : (a b : Option PlacedScanFault) → e.fault ≡ a → f.fault ≡ b
        → first_fault (fault_in line a) (output_of_entries (line + 1) es).fault ≡ first_fault (fault_in line b) (output_of_entries (line + 1) fs).fault
        → ((output_of_entries (line + 1) es).fault ≡ (output_of_entries (line + 1) fs).fault → es ≡ fs) → e ∷ es ≡ f ∷ fs
    by_faults None None x y m ih = let head = same_entry e f here (x ∙ sym y) in let tail = ih m in λ i. head i ∷ tail i
    by_faults None (Some b) x y m ih = let no = subst (FaultFrom (line + 1)) m (fault_from (line + 1) (line + 1) es (omega arith)) in absurd (omega (arith, no))
    by_faults (Some a) None x y m ih = let no = subst (FaultFrom (line + 1)) (sym m) (fault_from (line + 1) (line + 1) fs (omega arith)) in absurd (omega (arith, no))
    by_faults (Some a) (Some b) x y m ih =
        let pair : ◌≡◌ {A = ℕ × PlacedScanFault} (line, a) (line, b) = cc in
        let fault : a ≡ b = ap (λ (p : ℕ × PlacedScanFault). p.1) pair in
        let head = same_entry e f here (x ∙ ap Some fault ∙ sym y) in
        let tail = same_rows es fs below (behind_it e es a x p) (behind_it f fs b y q) in
        λ i. head i ∷ tail i

-- rows of which one at most has a fault, and which tell the same, are the same
pub told_once : (line : ℕ) (es fs : List RowEntry) → FailsOnce es → FailsOnce fs → output_of_entries line es ≡ output_of_entries line fs → es ≡ fs
told_once line es fs p q h = faults_tell line es fs (tells line es fs h) p q (ap (λ (o : ScanOutput). o.fault) h)
