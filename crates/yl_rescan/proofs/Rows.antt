-- Records of rows, taken and dropped.
use Rattle.std.proofs.Common.{◌≡◌, ℕ, zero, suc, Bool, true, false, List, [], ◌∷◌, length, map, take, drop, Option, Some, None, ◌+◌, ◌-◌, ◌<◌, ◌≤◌, ◌||◌, cond, zero-add, refl, ap, sym, ◌∙◌, arith}
use Rattle.std.proofs.lemmas.List.{length-map, drop-map, take-map}
use Rattle.yl_text.specs.Character.{indentation, is_blank}
use Rattle.yl_row.specs.declared.fault.PlacedScanFault.{PlacedScanFault}
use Rattle.yl_row.specs.Fault.{is_unclosed}
use Rattle.yl_row.specs.Step.{first_tab}
use Rattle.yl_lexeme.specs.Past.{PastLexeme}
use Rattle.yl_row.specs.Entries.{RowEntry, RowReading, LineStateValue, Stopped, Stands, entries, entries_from, entries_below, stopped_rows, row_reading}
use Rattle.yl_lexeme.specs.Known.{row_start}
use Rattle.yl_scan.specs.Restart.{state_at}
use Rattle.yl_scan.specs.Resume.{from_state}
use Rattle.yl_scan.proofs.Resumed.{resumed}
use Rattle.yl_record.specs.Records.{RecordValue, records, records_with}
use Rattle.yl_record.specs.Recorded.{records_from}
use Rattle.yl_sections.proofs.Last.{run_count}
use Rattle.yl_rescan.specs.Agree.{state_of_row}

-- ---- an entry a row

stopped_length : (to_end : Bool) (down : ℕ) (rows : List (List ℕ)) → length (stopped_rows to_end down rows) ≡ length rows
stopped_length to_end down [] = refl
stopped_length to_end zero (row ∷ rows) = ap suc (stopped_length to_end 0 rows)
stopped_length to_end (suc down) (row ∷ rows) = ap suc (stopped_length to_end down rows)

below_length : {S : Type 0} (more : ℕ → ℕ → S → List RowEntry) (rows : List (List ℕ)) (r : RowReading S) (f : Option PlacedScanFault) → ((down column : ℕ) (s : S) → length (more down column s) ≡ length rows)
    → length (entries_below more rows r f) ≡ length rows
below_length more rows r None h = h r.down r.column r.behind
below_length more rows r (Some f) h = stopped_length (is_unclosed f.fault) f.down rows

from_length : (start : Bool) (down column : ℕ) (older : List PastLexeme) (rows : List (List ℕ)) → length (entries_from start down column older rows) ≡ length rows
from_length start down column older [] = refl
from_length start zero column older (row ∷ rows) =
    let r = row_reading rows (first_tab false row) 0 true true 0 [] older row in
    ap suc (below_length (λ down column older. entries_from false down column older rows) rows r r.fault (λ down column older. from_length false down column older rows))
from_length start (suc zero) column older (row ∷ rows) =
    let r = row_reading rows (first_tab true row) column false false 0 [] older row in
    ap suc (below_length (λ down column older. entries_from false down column older rows) rows r r.fault (λ down column older. from_length false down column older rows))
from_length start (suc (suc down)) column older (row ∷ rows) = ap suc (from_length false (suc down) column older rows)

pub each_row : (t : List (List ℕ)) → length (entries t) ≡ length t
each_row t = from_length true 0 0 [] t

-- ---- records

with_nil : (ns : List ℕ) → records_with ns [] ≡ []
with_nil [] = refl
with_nil (n ∷ ns) = refl

with_length : (ns : List ℕ) (es : List RowEntry) → length ns ≡ length es → length (records_with ns es) ≡ length ns
with_length [] es h = refl
with_length (n ∷ ns) [] h = absurd (omega (arith, h))
with_length (n ∷ ns) (e ∷ es) h = ap suc (with_length ns es (omega (arith, h)))

pub with_take : (k : ℕ) (ns : List ℕ) (es : List RowEntry) → take k (records_with ns es) ≡ records_with (take k ns) (take k es)
with_take zero ns es = refl
with_take (suc k) [] es = refl
with_take (suc k) (n ∷ ns) [] = refl
with_take (suc k) (n ∷ ns) (e ∷ es) = ap (λ (rs : List RecordValue). record { indentation = n; entry = e } ∷ rs) (with_take k ns es)

pub with_drop : (k : ℕ) (ns : List ℕ) (es : List RowEntry) → drop k (records_with ns es) ≡ records_with (drop k ns) (drop k es)
with_drop zero ns es = refl
with_drop (suc k) [] es = refl
with_drop (suc k) (n ∷ ns) [] = sym (with_nil (drop k ns))
with_drop (suc k) (n ∷ ns) (e ∷ es) = with_drop k ns es

pub with_state : (i : ℕ) (ns : List ℕ) (es : List RowEntry) → length ns ≡ length es → state_of_row (records_with ns es) i ≡ state_at es i
with_state i [] [] h = refl
with_state i [] (e ∷ es) h = absurd (omega (arith, h))
with_state i (n ∷ ns) [] h = absurd (omega (arith, h))
with_state zero (n ∷ ns) (e ∷ es) h = refl
with_state (suc i) (n ∷ ns) (e ∷ es) h = with_state i ns es (omega (arith, h))

indents : (t : List (List ℕ)) → length (map indentation t) ≡ length (entries t)
indents t = length-map t indentation ∙ sym (each_row t)

pub records_length : (t : List (List ℕ)) → length (records t) ≡ length t
records_length t = with_length (map indentation t) (entries t) (indents t) ∙ length-map t indentation

-- the state of a record
pub records_state : (t : List (List ℕ)) (i : ℕ) → state_of_row (records t) i ≡ state_at (entries t) i
records_state t i = with_state i (map indentation t) (entries t) (indents t)

pub same_front : (t u : List (List ℕ)) (k : ℕ) → take k t ≡ take k u → take k (entries t) ≡ take k (entries u) → take k (records t) ≡ take k (records u)
same_front t u k rows es =
    let ns : take k (map indentation t) ≡ take k (map indentation u) = take-map indentation k t ∙ (ap (map indentation) rows ∙ sym (take-map indentation k u)) in
    with_take k (map indentation t) (entries t) ∙ (ap (λ (ms : List ℕ). records_with ms (take k (entries t))) ns
    ∙ (ap (λ (fs : List RowEntry). records_with (take k (map indentation u)) fs) es ∙ sym (with_take k (map indentation u) (entries u))))

pub same_back : (t u : List (List ℕ)) (i j : ℕ) → drop i t ≡ drop j u → drop i (entries t) ≡ drop j (entries u) → drop i (records t) ≡ drop j (records u)
same_back t u i j rows es =
    let ns : drop i (map indentation t) ≡ drop j (map indentation u) = drop-map indentation i t ∙ (ap (map indentation) rows ∙ sym (drop-map indentation j u)) in
    with_drop i (map indentation t) (entries t) ∙ (ap (λ (ms : List ℕ). records_with ms (drop i (entries t))) ns
    ∙ (ap (λ (fs : List RowEntry). records_with (drop j (map indentation u)) fs) es ∙ sym (with_drop j (map indentation u) (entries u))))

-- the rows from a sound one on
pub sound_behind : (t : List (List ℕ)) (i : ℕ) (s : LineStateValue) → state_of_row (records t) i ≡ Some s → drop i (records t) ≡ records_from s (drop i t)
sound_behind t i s h =
    with_drop i (map indentation t) (entries t)
    ∙ (ap (λ (es : List RowEntry). records_with (drop i (map indentation t)) es) (resumed t i s (sym (records_state t i) ∙ h))
    ∙ ap (λ (ns : List ℕ). records_with ns (from_state s (drop i t))) (drop-map indentation i t))

from_state_length : (s : LineStateValue) (rows : List (List ℕ)) → length (from_state s rows) ≡ length rows
from_state_length Stopped rows = stopped_length false 0 rows
from_state_length (Stands levels brackets last) rows = run_count true 0 0 (row_start levels brackets last) rows

pub records_from_length : (s : LineStateValue) (rows : List (List ℕ)) → length (records_from s rows) ≡ length rows
records_from_length s rows =
    let n : length (map indentation rows) ≡ length rows = length-map rows indentation in
    with_length (map indentation rows) (from_state s rows) (n ∙ sym (from_state_length s rows)) ∙ n

-- ---- states

-- row i, from row r on
pub state_behind : (rs : List RecordValue) (r i : ℕ) → r ≤ i → state_of_row (drop r rs) (i - r) ≡ state_of_row rs i
state_behind rs zero i l = let e : i - 0 ≡ i = omega arith in ap (λ n. state_of_row rs n) e
state_behind [] (suc r) i l = refl
state_behind (e ∷ es) (suc r) zero l = absurd (omega (arith, l))
state_behind (e ∷ es) (suc r) (suc i) l = let n : suc i - suc r ≡ i - r = omega arith in ap (λ k. state_of_row (drop r es) k) n ∙ state_behind es r i (omega (arith, l))

pub state_first : (rs : List RecordValue) (c : ℕ) → state_of_row (drop c rs) 0 ≡ state_of_row rs c
state_first rs zero = refl
state_first [] (suc c) = refl
state_first (r ∷ rs) (suc c) = state_first rs c

state_taken : (rs : List RecordValue) (n i : ℕ) → i < n → state_of_row (take n rs) i ≡ state_of_row rs i
state_taken rs zero i l = absurd (omega (arith, l))
state_taken [] (suc n) i l = refl
state_taken (r ∷ rs) (suc n) zero l = refl
state_taken (r ∷ rs) (suc n) (suc i) l = state_taken rs n i (omega (arith, l))

pub state_in_front : (xs ys : List RecordValue) (n i : ℕ) → take n xs ≡ take n ys → i < n → state_of_row xs i ≡ state_of_row ys i
state_in_front xs ys n i e l = sym (state_taken xs n i l) ∙ (ap (λ (rs : List RecordValue). state_of_row rs i) e ∙ state_taken ys n i l)

state_dropped : (es : List RowEntry) (c i : ℕ) → state_at (drop c es) i ≡ state_at es (c + i)
state_dropped es zero i = ap (λ k. state_at es k) (sym (zero-add i))
state_dropped [] (suc c) i = refl
state_dropped (e ∷ es) (suc c) i = let n : suc c + i ≡ suc (c + i) = omega arith in state_dropped es c i ∙ ap (λ k. state_at (e ∷ es) k) (sym n)

stopped_or : (b : Bool) (s : LineStateValue) → cond b None (Some Stopped) ≡ Some s → s ≡ Stopped
stopped_or true s h = cc
stopped_or false s h = cc

stopped_state : (to_end : Bool) (down : ℕ) (rows : List (List ℕ)) (i : ℕ) (s : LineStateValue) → state_at (stopped_rows to_end down rows) i ≡ Some s → s ≡ Stopped
stopped_state to_end down [] i s h = cc
stopped_state to_end zero (row ∷ rows) zero s h = stopped_or (is_blank row || to_end) s h
stopped_state to_end zero (row ∷ rows) (suc i) s h = stopped_state to_end 0 rows i s h
stopped_state to_end (suc down) (row ∷ rows) zero s h = cc
stopped_state to_end (suc down) (row ∷ rows) (suc i) s h = stopped_state to_end down rows i s h

-- below a row at which reading has stopped it has
pub stopped_below : (t : List (List ℕ)) (c i : ℕ) (s : LineStateValue) → state_at (entries t) c ≡ Some Stopped → c ≤ i → state_at (entries t) i ≡ Some s → s ≡ Stopped
stopped_below t c i s at l h =
    let n : c + (i - c) ≡ i = omega (arith, l) in
    stopped_state false 0 (drop c t) (i - c) s
    (ap (λ (es : List RowEntry). state_at es (i - c)) (sym (resumed t c Stopped at)) ∙ (state_dropped (entries t) c (i - c) ∙ (ap (λ k. state_at (entries t) k) n ∙ h)))
