-- The state of a sound row holds the kind of the last lexeme above it; behind a fault there is no lexeme.
use Rattle.std.proofs.Common.{◌≡◌, ◌≤◌, ℕ, zero, suc, ◌+◌, ◌-◌, Bool, true, false, cond, ◌&&◌, ◌||◌, not, List, [], ◌∷◌, length, map, take, drop, Option, Some, None, refl, ap, sym, subst, ◌∙◌, eqb, ltb, arith}
use Rattle.std.specs.List.{AllByRecursion}
use Rattle.std.specs.Option.{option_or}
use Rattle.std.proofs.lemmas.List.{length-map}
use Rattle.yl_text.specs.Character.{is_white, is_blank, indentation}
use Rattle.yl_row.specs.declared.fault.PlacedScanFault.{PlacedScanFault}
use Rattle.yl_row.specs.Fault.{is_unclosed}
use Rattle.yl_lexeme.specs.declared.lexeme.Kind.{Kind}
use Rattle.yl_lexeme.specs.Lexeme.{LexemeValue, CommentValue}
use Rattle.yl_row.specs.Step.{FoundLexemeValue, found_at, place_fault, bad_in, first_tab}
use Rattle.yl_lexeme.specs.Past.{Context, past_lexeme}
use Rattle.yl_lexeme.specs.Known.{SurroundingsValue, context_of, new_row, row_start, surroundings_at, surroundings_behind, no_surroundings}
use Rattle.yl_row.specs.Entries.{RowEntry, LineStateValue, Stopped, Stands, RowReading, state_of, entry_of, entries_below, fault_reading, with_lexeme, reading_or_fault, comment_or, comment_of, lexeme_of, after_lexeme, ends_document, lexemes_up_to_fault, stopped_rows, entries}
use Rattle.yl_row.specs.Run.{row_reading_by, entries_by}
use Rattle.yl_row.proofs.Agree.{run-entries}
use Rattle.yl_scan.specs.Restart.{state_at, IsQuiet}
use Rattle.yl_scan.specs.Resume.{from_state}
use Rattle.yl_scan.proofs.Restarts.{shift}
use Rattle.yl_record.specs.Records.{records_with}
use Rattle.yl_record.specs.Recorded.{records_from}
use Rattle.yl_sections.specs.Sections.{last_kind_from}
use Rattle.yl_sections.specs.Local.{kind_after}
use Rattle.yl_sections.specs.Last.{HasNoLexeme, LastLaw, StoppedLaw}

-- ---- a row

-- what is known behind a row that no fault stops holds the kind of its last lexeme, or of the last one before
abbrev HoldsLast : Option Kind → RowReading SurroundingsValue → Type 0
HoldsLast last r = r.fault ≡ None → r.behind.last ≡ last_kind_from last r.lexemes

holds_if : (last : Option Kind) (b : Bool) (x y : RowReading SurroundingsValue) → HoldsLast last x → HoldsLast last y → HoldsLast last (cond b x y)
holds_if last true x y p q = p
holds_if last false x y p q = q

holds_comment : (c : CommentValue) (k : SurroundingsValue) (f : Option PlacedScanFault) → HoldsLast k.last (comment_or c (new_row k) no_surroundings f)
holds_comment c k None h = refl
holds_comment c k (Some f) h = cc

holds_fault : (last : Option Kind) (b : Bool) (x : LexemeValue) (f : PlacedScanFault) → HoldsLast last (cond b (with_lexeme x (fault_reading f no_surroundings)) (fault_reading f no_surroundings))
holds_fault last true x f h = cc
holds_fault last false x f h = cc

holds_chosen : (last : Option Kind) (x : LexemeValue) (more : RowReading SurroundingsValue) (f : Option PlacedScanFault) → HoldsLast (Some x.kind) more → HoldsLast last (reading_or_fault x no_surroundings more f)
holds_chosen last x more None h = h
holds_chosen last x more (Some f) h = holds_fault last (ends_document x.kind) x f

holds_after : (at : ℕ) (found : FoundLexemeValue) (k : SurroundingsValue) (more : ℕ → RowReading SurroundingsValue) (down : ℕ) → ((skip : ℕ) → HoldsLast k.last (more skip)) → HoldsLast k.last (after_lexeme at found (new_row k) more down)
holds_after at found k more zero h = h (found.column - at - 1)
holds_after at found k more (suc down) h = λ p. refl

read_holds : (rows : List (List ℕ)) (tab : Option ℕ) (skip : ℕ) (bs first : Bool) (at : ℕ) (k : SurroundingsValue) (cs : List ℕ) → HoldsLast k.last (row_reading_by rows tab skip bs first at k cs)
read_holds rows tab skip bs first at k [] = λ p. refl
read_holds rows tab skip bs first at k (c ∷ cs) =
    let k0 = surroundings_at first at k in
    let found = found_at rows tab first at (context_of k0) c cs in
    let k' = surroundings_behind (past_lexeme at first (context_of k0) found.kind) k0 in
    holds_if k.last (ltb 0 skip) _ _ (read_holds rows tab (skip - 1) false first (at + 1) k cs)
    (holds_if k.last (is_white c) _ _ (read_holds rows tab 0 true first (at + 1) k cs)
    (holds_if k.last (eqb c 35 && bs) _ _ (holds_comment (comment_of at (c ∷ cs)) k (bad_in at (c ∷ cs)))
    (holds_chosen k.last (lexeme_of at found) _ (option_or (place_fault tab first at (context_of k0)) found.fault)
    (holds_after at found k' (λ skip. row_reading_by rows tab skip false false (at + 1) k' cs) found.down (λ skip. read_holds rows tab skip false false (at + 1) k' cs)))))

-- ---- rows

-- the kind of the last lexeme, after what these rows hold too
abbrev kind_below : Option Kind → List RowEntry → Option Kind
kind_below last [] = last
kind_below last (e ∷ es) = kind_below (last_kind_from last e.lexemes) es

-- a sound row that no fault stands before has the last kind in its state
abbrev KeepLast : Option Kind → List RowEntry → Type 0
KeepLast last es = (i : ℕ) (levels : List ℕ) (brackets : List Kind) (z : Option Kind) → state_at es i ≡ Some (Stands levels brackets z) → kind_below last (take i es) ≡ z

stands_sound : (b : Bool) (a : Context) (levels : List ℕ) (brackets : List Kind) (z : Option Kind) → cond b (Some (state_of a)) None ≡ Some (Stands levels brackets z) → a.last ≡ z
stands_sound true a levels brackets z h = cc
stands_sound false a levels brackets z h = cc

pub none_stands : (b : Bool) (levels : List ℕ) (brackets : List Kind) (z : Option Kind) (P : Type 0) → cond b None (Some Stopped) ≡ Some (Stands levels brackets z) → P
none_stands true levels brackets z P h = cc
none_stands false levels brackets z P h = cc

-- behind a fault no row's state has one
stopped_keep : (last : Option Kind) (to_end : Bool) (down : ℕ) (rows : List (List ℕ)) → KeepLast last (stopped_rows to_end down rows)
stopped_keep last to_end down [] i levels brackets z h = cc
stopped_keep last to_end zero (row ∷ rows) zero levels brackets z h = none_stands (is_blank row || to_end) levels brackets z (last ≡ z) h
stopped_keep last to_end zero (row ∷ rows) (suc i) levels brackets z h = stopped_keep last to_end 0 rows i levels brackets z h
stopped_keep last to_end (suc down) (row ∷ rows) zero levels brackets z h = cc
stopped_keep last to_end (suc down) (row ∷ rows) (suc i) levels brackets z h = stopped_keep last to_end down rows i levels brackets z h

abbrev rows_below : List (List ℕ) → RowReading SurroundingsValue → Option PlacedScanFault → List RowEntry
rows_below rows r f = entries_below (λ down column k. entries_by false down column k rows) rows r f

below_keep : (last : Option Kind) (rows : List (List ℕ)) (r : RowReading SurroundingsValue) (state : Option LineStateValue) (f : Option PlacedScanFault) → r.fault ≡ f → HoldsLast last r
    → ((down column : ℕ) (k : SurroundingsValue) → KeepLast k.last (entries_by false down column k rows)) → KeepLast (last_kind_from last (entry_of state r).lexemes) (rows_below rows r f)
below_keep last rows r state None e held more i levels brackets z h =
    let lexemes : last_kind_from last (lexemes_up_to_fault r.fault r.lexemes) ≡ r.behind.last = ap (λ f. last_kind_from last (lexemes_up_to_fault f r.lexemes)) e ∙ sym (held e) in
    ap (λ k. kind_below k (take i (entries_by false r.down r.column r.behind rows))) lexemes ∙ more r.down r.column r.behind i levels brackets z h
below_keep last rows r state (Some f) e held more i levels brackets z h = stopped_keep (last_kind_from last (entry_of state r).lexemes) (is_unclosed f.fault) f.down rows i levels brackets z h

run_keep : (start : Bool) (down column : ℕ) (k : SurroundingsValue) (rows : List (List ℕ)) → KeepLast k.last (entries_by start down column k rows)
run_keep start down column k [] i levels brackets z h = cc
run_keep start zero column k (row ∷ rows) zero levels brackets z h = stands_sound (start || not (is_blank row)) (context_of k) levels brackets z h
run_keep start zero column k (row ∷ rows) (suc i) levels brackets z h =
    let r = row_reading_by rows (first_tab false row) 0 true true 0 k row in
    below_keep k.last rows r None r.fault refl (read_holds rows (first_tab false row) 0 true true 0 k row) (λ down column k. run_keep false down column k rows) i levels brackets z h
run_keep start (suc zero) column k (row ∷ rows) zero levels brackets z h = cc
run_keep start (suc zero) column k (row ∷ rows) (suc i) levels brackets z h =
    let r = row_reading_by rows (first_tab true row) column false false 0 k row in
    below_keep k.last rows r None r.fault refl (read_holds rows (first_tab true row) column false false 0 k row) (λ down column k. run_keep false down column k rows) i levels brackets z h
run_keep start (suc (suc down)) column k (row ∷ rows) zero levels brackets z h = cc
run_keep start (suc (suc down)) column k (row ∷ rows) (suc i) levels brackets z h = run_keep false (suc down) column k rows i levels brackets z h

-- ---- as many as rows

pub stopped_count : (to_end : Bool) (down : ℕ) (rows : List (List ℕ)) → length (stopped_rows to_end down rows) ≡ length rows
stopped_count to_end down [] = refl
stopped_count to_end zero (row ∷ rows) = ap suc (stopped_count to_end 0 rows)
stopped_count to_end (suc down) (row ∷ rows) = ap suc (stopped_count to_end down rows)

below_count : (rows : List (List ℕ)) (r : RowReading SurroundingsValue) (f : Option PlacedScanFault) → ((down column : ℕ) (k : SurroundingsValue) → length (entries_by false down column k rows) ≡ length rows)
    → length (rows_below rows r f) ≡ length rows
below_count rows r None more = more r.down r.column r.behind
below_count rows r (Some f) more = stopped_count (is_unclosed f.fault) f.down rows

pub run_count : (start : Bool) (down column : ℕ) (k : SurroundingsValue) (rows : List (List ℕ)) → length (entries_by start down column k rows) ≡ length rows
run_count start down column k [] = refl
run_count start zero column k (row ∷ rows) =
    let r = row_reading_by rows (first_tab false row) 0 true true 0 k row in
    ap suc (below_count rows r r.fault (λ down column k. run_count false down column k rows))
run_count start (suc zero) column k (row ∷ rows) =
    let r = row_reading_by rows (first_tab true row) column false false 0 k row in
    ap suc (below_count rows r r.fault (λ down column k. run_count false down column k rows))
run_count start (suc (suc down)) column k (row ∷ rows) = ap suc (run_count false (suc down) column k rows)

-- ---- records

kind_of_records : (last : Option Kind) (i : ℕ) (ns : List ℕ) (es : List RowEntry) → length es ≤ length ns → kind_after last (take i (records_with ns es)) ≡ kind_below last (take i es)
kind_of_records last zero ns es h = refl
kind_of_records last (suc i) [] [] h = refl
kind_of_records last (suc i) [] (e ∷ es) h = absurd (omega (arith, h))
kind_of_records last (suc i) (n ∷ ns) [] h = refl
kind_of_records last (suc i) (n ∷ ns) (e ∷ es) h = kind_of_records (last_kind_from last e.lexemes) i ns es (omega (arith, h))

pub last_kept : LastLaw
last_kept t i levels brackets last h =
    let many : length (entries t) ≡ length (map indentation t) = sym (ap length (run-entries t)) ∙ run_count true 0 0 no_surroundings t ∙ sym (length-map t indentation) in
    kind_of_records None i (map indentation t) (entries t) (omega (arith, many))
    ∙ subst (KeepLast None) (run-entries t) (run_keep true 0 0 no_surroundings t) i levels brackets last h

quiet_records : (i : ℕ) (ns : List ℕ) (es : List RowEntry) → AllByRecursion IsQuiet (drop i es) → AllByRecursion HasNoLexeme (drop i (records_with ns es))
quiet_records zero [] es h = tt
quiet_records zero (n ∷ ns) [] h = tt
quiet_records zero (n ∷ ns) (e ∷ es) h = (h.0.lexemes, quiet_records 0 ns es h.1)
quiet_records (suc i) [] es h = tt
quiet_records (suc i) (n ∷ ns) [] h = tt
quiet_records (suc i) (n ∷ ns) (e ∷ es) h = quiet_records i ns es h

pub stopped_empty : StoppedLaw
stopped_empty t i h = quiet_records i (map indentation t) (entries t) ((shift t t i i Stopped h h refl).quiet refl)

-- the same for the rows from one on that stands so
pub last_from : (levels : List ℕ) (brackets : List Kind) (last : Option Kind) (rows : List (List ℕ)) (i : ℕ) (levels' : List ℕ) (brackets' : List Kind) (z : Option Kind)
    → state_at (from_state (Stands levels brackets last) rows) i ≡ Some (Stands levels' brackets' z) → kind_after last (take i (records_from (Stands levels brackets last) rows)) ≡ z
last_from levels brackets last rows i levels' brackets' z h =
    let k = row_start levels brackets last in
    let many : length (entries_by true 0 0 k rows) ≡ length (map indentation rows) = run_count true 0 0 k rows ∙ sym (length-map rows indentation) in
    kind_of_records last i (map indentation rows) (entries_by true 0 0 k rows) (omega (arith, many)) ∙ run_keep true 0 0 k rows i levels' brackets' z h
