-- The rows above the one in which the scalar in progress began.
use Rattle.std.proofs.Common.{◌≡◌, ℕ, zero, suc, ◌+◌, ◌-◌, ◌≤◌, ◌<◌, ◌⊎◌, inl, inr, Bool, true, false, List, [], ◌∷◌, ◌++◌, length, map, take, drop, Option, Some, None, refl, ap, sym, subst, ◌∙◌, arith}
use Rattle.std.specs.Prelude.{slice_get}
use Rattle.std.specs.List.{AllByRecursion}
use Rattle.std.proofs.lemmas.List.{drop-append-le, drop-drop, drop-map, length-drop, take-append-le}
use Rattle.yl_lexeme.specs.Known.{SurroundingsValue}
use Rattle.yl_lexeme.specs.Lexeme.{LexemeValue}
use Rattle.yl_row.specs.declared.fault.PlacedScanFault.{PlacedScanFault}
use Rattle.yl_row.specs.Fault.{is_unclosed}
use Rattle.yl_row.specs.Step.{FoundLexemeValue}
use Rattle.yl_row.specs.ScalarReader.{open_found}
use Rattle.yl_row.specs.Entries.{RowEntry, lexeme_of, stopped_rows}
use Rattle.yl_row.specs.Run.{entries_by}
use Rattle.yl_scan.specs.Remaining.{PhaseValue, Fresh, Within, Halted, rows_to}
use Rattle.yl_scan.specs.Scanner.{begun_at, is_halted}
use Rattle.yl_scan.specs.Settled.{with_last}
use Rattle.yl_record.specs.Parts.{entries_in, with_fault_in}
use Rattle.yl_record.specs.Records.{RecordValue}
use Rattle.yl_record.specs.Recorded.{entries_with_scalar, entries_with_rest, without_state, if_wanted}
use Rattle.yl_record.specs.Recorder.{AreFaultless, FailsOnce, IsInside, IsOpenSince, IsRecording, complete_before, state_in}
use Rattle.yl_record.proofs.Assembled.{last_length, fault_length}

-- ---- above the row that is changed

take_last : (k n : ℕ) (x : LexemeValue) (es : List RowEntry) → k ≤ n → take k (with_last n x es) ≡ take k es
take_last zero n x es le = refl
take_last (suc k) zero x es le = absurd (omega (arith, le))
take_last (suc k) (suc n) x [] le = refl
take_last (suc k) (suc n) x (e ∷ es) le = ap (λ ys. e ∷ ys) (take_last k n x es (omega (arith, le)))

take_fault : (k n : ℕ) (f : PlacedScanFault) (es : List RowEntry) → k ≤ n → take k (with_fault_in n f es) ≡ take k es
take_fault zero n f es le = refl
take_fault (suc k) zero f es le = absurd (omega (arith, le))
take_fault (suc k) (suc n) f [] le = refl
take_fault (suc k) (suc n) f (e ∷ es) le = ap (λ ys. e ∷ ys) (take_fault k n f es (omega (arith, le)))

last_nil : (n : ℕ) (x : LexemeValue) → with_last n x [] ≡ []
last_nil zero x = refl
last_nil (suc n) x = refl

fault_nil : (n : ℕ) (f : PlacedScanFault) → with_fault_in n f [] ≡ []
fault_nil zero f = refl
fault_nil (suc n) f = refl

drop_last : (k n m : ℕ) (x : LexemeValue) (es : List RowEntry) → n ≡ k + m → drop k (with_last n x es) ≡ with_last m x (drop k es)
drop_last zero n m x es e = let same : n ≡ m = omega (arith, e) in ap (λ i. with_last i x es) same
drop_last (suc k) zero m x es e = absurd (omega (arith, e))
drop_last (suc k) (suc n) m x [] e = sym (last_nil m x)
drop_last (suc k) (suc n) m x (y ∷ es) e = drop_last k n m x es (omega (arith, e))

drop_fault : (k n m : ℕ) (f : PlacedScanFault) (es : List RowEntry) → n ≡ k + m → drop k (with_fault_in n f es) ≡ with_fault_in m f (drop k es)
drop_fault zero n m f es e = let same : n ≡ m = omega (arith, e) in ap (λ i. with_fault_in i f es) same
drop_fault (suc k) zero m f es e = absurd (omega (arith, e))
drop_fault (suc k) (suc n) m f [] e = sym (fault_nil m f)
drop_fault (suc k) (suc n) m f (y ∷ es) e = drop_fault k n m f es (omega (arith, e))

-- ---- what is complete stays

-- k rows are complete
abbrev pub AreComplete : ℕ → List RowEntry → ℕ → PhaseValue → Type 0
AreComplete k told taken stand = (k ≤ length told) × ((b : ℕ) → begun_at stand ≡ Some b → taken + k ≤ b)

scalar_taken : (told : List RowEntry) (line begun taken at k : ℕ) (f : FoundLexemeValue) (s : SurroundingsValue) (rows : List (List ℕ)) (g : Option PlacedScanFault) → k ≤ length told → taken + k ≤ begun
    → take k (entries_with_scalar told line begun taken at f s rows g) ≡ take k told
scalar_taken told line begun taken at k f s rows None le least =
    let x = lexeme_of at f in
    take-append-le k (with_last (begun - taken) x told) _ (omega (arith, le, last_length (begun - taken) x told)) ∙ take_last k (begun - taken) x told (omega (arith, least))
scalar_taken told line begun taken at k f s rows (Some g) le least =
    take-append-le k (with_fault_in (begun - taken) g told) _ (omega (arith, le, fault_length (begun - taken) g told)) ∙ take_fault k (begun - taken) g told (omega (arith, least))

pub rest_taken : (k : ℕ) (told : List RowEntry) (taken : ℕ) (stand : PhaseValue) (rows : List (List ℕ)) → AreComplete k told taken stand → take k (entries_with_rest told taken stand rows) ≡ take k told
rest_taken k told taken (Fresh start s) rows h = take-append-le k told (entries_by start 0 0 s rows) h.0
rest_taken k told taken (Within begun style at m s) rows h = let f = open_found style at m rows in scalar_taken told (taken + length told) begun taken at k f s rows f.fault h.0 (h.1 begun refl)
rest_taken k told taken (Halted to_end down) rows h = take-append-le k told (stopped_rows to_end down rows) h.0

-- ---- and may go

scalar_dropped : (told : List RowEntry) (line begun taken at k : ℕ) (f : FoundLexemeValue) (s : SurroundingsValue) (rows : List (List ℕ)) (g : Option PlacedScanFault) → k ≤ length told → taken + k ≤ begun
    → drop k (entries_with_scalar told line begun taken at f s rows g) ≡ entries_with_scalar (drop k told) line begun (taken + k) at f s rows g
scalar_dropped told line begun taken at k f s rows None le least =
    let x = lexeme_of at f in
    drop-append-le k (with_last (begun - taken) x told) (entries_by false (rows_to line begun f.down) f.column s rows) (omega (arith, le, last_length (begun - taken) x told))
    ∙ ap (λ ys. ys ++ entries_by false (rows_to line begun f.down) f.column s rows) (drop_last k (begun - taken) (begun - (taken + k)) x told (omega (arith, least)))
scalar_dropped told line begun taken at k f s rows (Some g) le least =
    drop-append-le k (with_fault_in (begun - taken) g told) (stopped_rows (is_unclosed g.fault) (rows_to line begun g.down) rows) (omega (arith, le, fault_length (begun - taken) g told))
    ∙ ap (λ ys. ys ++ stopped_rows (is_unclosed g.fault) (rows_to line begun g.down) rows) (drop_fault k (begun - taken) (begun - (taken + k)) g told (omega (arith, least)))

pub rest_dropped : (k : ℕ) (told : List RowEntry) (taken : ℕ) (stand : PhaseValue) (rows : List (List ℕ)) → AreComplete k told taken stand
    → drop k (entries_with_rest told taken stand rows) ≡ entries_with_rest (drop k told) (taken + k) stand rows
rest_dropped k told taken (Fresh start s) rows h = drop-append-le k told (entries_by start 0 0 s rows) h.0
rest_dropped k told taken (Within begun style at m s) rows h =
    let f = open_found style at m rows in
    let line : taken + length told ≡ taken + k + length (drop k told) = omega (arith, h.0, length-drop k told) in
    scalar_dropped told (taken + length told) begun taken at k f s rows f.fault h.0 (h.1 begun refl)
    ∙ ap (λ n. entries_with_scalar (drop k told) n begun (taken + k) at f s rows f.fault) line
rest_dropped k told taken (Halted to_end down) rows h = drop-append-le k told (stopped_rows to_end down rows) h.0

faultless_dropped : (k : ℕ) (es : List RowEntry) → AreFaultless es → AreFaultless (drop k es)
faultless_dropped zero es h = h
faultless_dropped (suc k) [] h = tt
faultless_dropped (suc k) (e ∷ es) h = faultless_dropped k es h.1

faultless_fails : (es : List RowEntry) → AreFaultless es → FailsOnce es
faultless_fails [] h = tt
faultless_fails (e ∷ es) h = inl h.1

once_dropped : (k : ℕ) (es : List RowEntry) → FailsOnce es → FailsOnce (drop k es)
once_dropped zero es h = h
once_dropped (suc k) [] h = tt
once_dropped (suc k) (e ∷ es) (inl h) = faultless_fails (drop k es) (faultless_dropped k es h)
once_dropped (suc k) (e ∷ es) (inr h) = once_dropped k es h.1

wanted_dropped : (k : ℕ) (states : Bool) (es : List RowEntry) → if_wanted states es ≡ es → if_wanted states (drop k es) ≡ drop k es
wanted_dropped k true es h = refl
wanted_dropped k false es h = sym (drop-map without_state k es) ∙ ap (drop k) h

pub if_wanted_dropped : (k : ℕ) (states : Bool) (es : List RowEntry) → drop k (if_wanted states es) ≡ if_wanted states (drop k es)
if_wanted_dropped k true es = refl
if_wanted_dropped k false es = drop-map without_state k es

pub kept_dropped : (k : ℕ) (told : List RowEntry) (taken : ℕ) (states : Bool) (stand : PhaseValue) → AreComplete k told taken stand → IsRecording told taken states stand → IsRecording (drop k told) (taken + k) states stand
kept_dropped k told taken states stand complete r =
    record {
      open_since = λ b is. record {
        least = complete.1 b is;
        most = let most = (r.open_since b is).most in omega (arith, most, complete.0, length-drop k told);
        inside =
            let least = complete.1 b is in
            let further : k + suc (b - (taken + k)) ≡ suc (b - taken) = omega (arith, least) in
            subst (AllByRecursion IsInside) (sym (drop-drop (suc (b - (taken + k))) k told ∙ ap (λ n. drop n told) further)) (r.open_since b is).inside;
      };
      once = once_dropped k told r.once;
      faultless = λ h. faultless_dropped k told (r.faultless h);
      wanted = wanted_dropped k states told r.wanted;
    }

-- those that are counted so are complete
pub count_complete : (k : ℕ) (told : List RowEntry) (taken : ℕ) (states : Bool) (stand : PhaseValue) → IsRecording told taken states stand → k ≤ complete_before (length told) taken (begun_at stand) → AreComplete k told taken stand
count_complete k told taken states stand r le = by_case (begun_at stand) refl
  where
    by_case : (o : Option ℕ) → begun_at stand ≡ o → AreComplete k told taken stand
    by_case None is = let all : k ≤ length told = subst (λ o. k ≤ complete_before (length told) taken o) is le in (all, λ b other. cc)
    by_case (Some b) is =
        let since = r.open_since b is in
        let above : k ≤ b - taken = subst (λ o. k ≤ complete_before (length told) taken o) is le in
        let least = since.least in
        let most = since.most in
        (omega (arith, above, least, most), λ c other. let same : ◌≡◌ {A = Option ℕ} (Some b) (Some c) = sym is ∙ other in let at : b ≡ c = cc in omega (arith, above, least, at))

-- ---- the last row is sound

pub inside_at : (m i : ℕ) (rs : List RecordValue) → AllByRecursion IsInside (drop m (entries_in rs)) → m ≤ i → state_in (slice_get rs i) ≡ None
inside_at m i [] h le = refl
inside_at zero zero (r ∷ rs) h le = h.0.1
inside_at zero (suc i) (r ∷ rs) h le = inside_at zero i rs h.1 (omega arith)
inside_at (suc m) zero (r ∷ rs) h le = absurd (omega (arith, le))
inside_at (suc m) (suc i) (r ∷ rs) h le = inside_at m i rs h (omega (arith, le))
