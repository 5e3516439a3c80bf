-- What the rows from a sound row on consist of depends on its state alone.
use Rattle.std.proofs.Common.{◌≡◌, ℕ, zero, suc, ◌+◌, ◌-◌, Bool, true, false, cond, ◌&&◌, ◌||◌, not, List, [], ◌∷◌, drop, Option, Some, None, refl, ap, sym, subst, ◌∙◌, eqb, ltb}
use Rattle.std.specs.List.{AllByRecursion}
use Rattle.std.specs.Option.{option_or}
use Rattle.yl_text.specs.Character.{is_white, is_blank}
use Rattle.yl_row.specs.declared.fault.PlacedScanFault.{PlacedScanFault}
use Rattle.yl_row.specs.Fault.{is_unclosed}
use Rattle.yl_lexeme.specs.Lexeme.{LexemeValue, CommentValue}
use Rattle.yl_row.specs.Step.{FoundLexemeValue, found_at, place_fault, bad_in, first_tab}
use Rattle.yl_lexeme.specs.Past.{Context, past_lexeme}
use Rattle.yl_lexeme.specs.Known.{SurroundingsValue, context_of, new_row, surroundings_at, surroundings_behind, no_surroundings}
use Rattle.yl_row.specs.Entries.{RowEntry, LineStateValue, Stopped, RowReading, state_of, entry_of, entries_below, fault_reading, with_lexeme, reading_or_fault, comment_or, comment_of, lexeme_of, after_lexeme, ends_document, stopped_rows, entries}
use Rattle.yl_row.specs.Run.{row_reading_by, entries_by}
use Rattle.yl_row.proofs.Agree.{run-entries}
use Rattle.yl_scan.specs.Restart.{state_at, IsQuiet}
use Rattle.yl_scan.specs.Resume.{from_state}

-- ---- behind a row, a new one begins

abbrev pub FreshBehind : RowReading SurroundingsValue → Type 0
FreshBehind r = new_row r.behind ≡ r.behind

fresh_if : (b : Bool) (x y : RowReading SurroundingsValue) → FreshBehind x → FreshBehind y → FreshBehind (cond b x y)
fresh_if true x y p q = p
fresh_if false x y p q = q

fresh_comment : (c : CommentValue) (k : SurroundingsValue) (f : Option PlacedScanFault) → FreshBehind (comment_or c (new_row k) no_surroundings f)
fresh_comment c k None = refl
fresh_comment c k (Some f) = refl

fresh_chosen : (x : LexemeValue) (more : RowReading SurroundingsValue) (f : Option PlacedScanFault) → FreshBehind more → FreshBehind (reading_or_fault x no_surroundings more f)
fresh_chosen x more None h = h
fresh_chosen x more (Some f) h = fresh_if (ends_document x.kind) (with_lexeme x (fault_reading f no_surroundings)) (fault_reading f no_surroundings) refl refl

fresh_after : (at : ℕ) (found : FoundLexemeValue) (k : SurroundingsValue) (more : ℕ → RowReading SurroundingsValue) (down : ℕ) → ((skip : ℕ) → FreshBehind (more skip)) → FreshBehind (after_lexeme at found (new_row k) more down)
fresh_after at found k more zero h = h (found.column - at - 1)
fresh_after at found k more (suc down) h = refl

pub read_fresh : (rows : List (List ℕ)) (tab : Option ℕ) (skip : ℕ) (bs first : Bool) (at : ℕ) (k : SurroundingsValue) (cs : List ℕ) → FreshBehind (row_reading_by rows tab skip bs first at k cs)
read_fresh rows tab skip bs first at k [] = refl
read_fresh rows tab skip bs first at k (c ∷ cs) =
    let k0 = surroundings_at first at k in
    let found = found_at rows tab first at (context_of k0) c cs in
    let k' = surroundings_behind (past_lexeme at first (context_of k0) found.kind) k0 in
    fresh_if (ltb 0 skip) _ _ (read_fresh rows tab (skip - 1) false first (at + 1) k cs)
    (fresh_if (is_white c) _ _ (read_fresh rows tab 0 true first (at + 1) k cs)
    (fresh_if (eqb c 35 && bs) _ _ (fresh_comment (comment_of at (c ∷ cs)) k (bad_in at (c ∷ cs)))
    (fresh_chosen (lexeme_of at found) _ (option_or (place_fault tab first at (context_of k0)) found.fault)
    (fresh_after at found k' (λ skip. row_reading_by rows tab skip false false (at + 1) k' cs) found.down (λ skip. read_fresh rows tab skip false false (at + 1) k' cs)))))

-- ---- behind a fault

sound_stopped : (b to_end : Bool) (s : LineStateValue) → cond (b || to_end) None (Some Stopped) ≡ Some s → (to_end ≡ false) × (s ≡ Stopped)
sound_stopped true to_end s h = cc
sound_stopped false true s h = cc
sound_stopped false false s h = (refl, cc)

pub stopped_resumed : (to_end : Bool) (down : ℕ) (rows : List (List ℕ)) (i : ℕ) (s : LineStateValue) → state_at (stopped_rows to_end down rows) i ≡ Some s
    → drop i (stopped_rows to_end down rows) ≡ from_state s (drop i rows)
stopped_resumed to_end down [] i s h = cc
stopped_resumed to_end zero (row ∷ rows) zero s h =
    let e = sound_stopped (is_blank row) to_end s h in
    ap (λ b. stopped_rows b 0 (row ∷ rows)) e.0 ∙ ap (λ s. from_state s (row ∷ rows)) (sym e.1)
stopped_resumed to_end zero (row ∷ rows) (suc i) s h = stopped_resumed to_end 0 rows i s h
stopped_resumed to_end (suc down) (row ∷ rows) zero s h = cc
stopped_resumed to_end (suc down) (row ∷ rows) (suc i) s h = stopped_resumed to_end down rows i s h

pub stopped_quiet : (to_end : Bool) (down : ℕ) (rows : List (List ℕ)) → AllByRecursion IsQuiet (stopped_rows to_end down rows)
stopped_quiet to_end down [] = tt
stopped_quiet to_end zero (row ∷ rows) = (record { lexemes = refl; comment = refl; fault = refl }, stopped_quiet to_end 0 rows)
stopped_quiet to_end (suc down) (row ∷ rows) = (record { lexemes = refl; comment = refl; fault = refl }, stopped_quiet to_end down rows)

-- ---- rows

is_sound : (b : Bool) (a : Context) (s : LineStateValue) → cond b (Some (state_of a)) None ≡ Some s → state_of a ≡ s
is_sound true a s h = cc
is_sound false a s h = cc

abbrev Resumes : List RowEntry → List (List ℕ) → Type 0
Resumes es rows = (i : ℕ) (s : LineStateValue) → state_at es i ≡ Some s → drop i es ≡ from_state s (drop i rows)

below_resumed : (rows : List (List ℕ)) (r : RowReading SurroundingsValue) (f : Option PlacedScanFault) → FreshBehind r
    → ((down column : ℕ) (k : SurroundingsValue) → new_row k ≡ k → Resumes (entries_by false down column k rows) rows)
    → Resumes (entries_below (λ down column k. entries_by false down column k rows) rows r f) rows
below_resumed rows r None fresh more = more r.down r.column r.behind fresh
below_resumed rows r (Some f) fresh more = stopped_resumed (is_unclosed f.fault) f.down rows

pub run_resumed : (start : Bool) (down column : ℕ) (k : SurroundingsValue) (rows : List (List ℕ)) → new_row k ≡ k → Resumes (entries_by start down column k rows) rows
run_resumed start down column k [] fresh i s h = cc
run_resumed start zero column k (row ∷ rows) fresh zero s h =
    let r = row_reading_by rows (first_tab false row) 0 true true 0 k row in
    let es = entries_below (λ down column k. entries_by false down column k rows) rows r r.fault in
    let e = is_sound (start || not (is_blank row)) (context_of k) s h in
    ap (λ st. entry_of st r ∷ es) (h ∙ ap Some (sym e))
    ∙ ap (λ k. entries_by true 0 0 k (row ∷ rows)) (sym fresh)
    ∙ ap (λ s. from_state s (row ∷ rows)) e
run_resumed start zero column k (row ∷ rows) fresh (suc i) s h =
    let r = row_reading_by rows (first_tab false row) 0 true true 0 k row in
    below_resumed rows r r.fault (read_fresh rows (first_tab false row) 0 true true 0 k row) (λ down column k. run_resumed false down column k rows) i s h
run_resumed start (suc zero) column k (row ∷ rows) fresh zero s h = cc
run_resumed start (suc zero) column k (row ∷ rows) fresh (suc i) s h =
    let r = row_reading_by rows (first_tab true row) column false false 0 k row in
    below_resumed rows r r.fault (read_fresh rows (first_tab true row) column false false 0 k row) (λ down column k. run_resumed false down column k rows) i s h
run_resumed start (suc (suc down)) column k (row ∷ rows) fresh zero s h = cc
run_resumed start (suc (suc down)) column k (row ∷ rows) fresh (suc i) s h = run_resumed false (suc down) column k rows fresh i s h

pub resumed : (t : List (List ℕ)) (i : ℕ) (s : LineStateValue) → state_at (entries t) i ≡ Some s → drop i (entries t) ≡ from_state s (drop i t)
resumed t = subst (λ es. Resumes es t) (run-entries t) (run_resumed true 0 0 no_surroundings t refl)
