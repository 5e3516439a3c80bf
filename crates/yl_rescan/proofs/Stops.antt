-- Above a row at which reading has stopped stands a scan fault, and from it on nothing is read.
use Rattle.std.proofs.Common.{◌≡◌, ◌⊎◌, ◌<◌, ◌≤◌, ◌++◌, ◌+◌, ℕ, zero, suc, Bool, true, false, cond, ◌||◌, not, List, [], ◌∷◌, map, length, take, drop, refl, ap, sym, subst, ◌∙◌, Option, Some, None, arith, inl, inr}
use Rattle.std.specs.Prelude.{IsSome, slice_get}
use Rattle.std.specs.List.{AllByRecursion}
use Rattle.std.proofs.lemmas.List.{length-map}
use Rattle.std.specs.Option.{option_map, option_or}
use Rattle.yl_text.specs.Character.{is_blank, indentation}
use Rattle.yl_lexeme.specs.Lexeme.{LexemeValue}
use Rattle.yl_lexeme.specs.Past.{Context}
use Rattle.yl_lexeme.specs.Known.{SurroundingsValue, context_of, no_surroundings}
use Rattle.yl_row.specs.declared.fault.PlacedScanFault.{PlacedScanFault}
use Rattle.yl_row.specs.Step.{first_tab}
use Rattle.yl_row.specs.Entries.{RowEntry, LineStateValue, Stopped, RowReading, state_of, entries_below, entries}
use Rattle.yl_row.specs.Run.{row_reading_by, entries_by}
use Rattle.yl_row.proofs.Agree.{run-entries}
use Rattle.yl_scan.specs.Restart.{state_at, IsQuiet}
use Rattle.yl_scan.proofs.Restarts.{shift}
use Rattle.yl_record.specs.Records.{RecordValue, records, records_with}
use Rattle.yl_record.specs.Recorder.{state_in}
use Rattle.yl_events.specs.declared.fault.PlacedParseFault.{PlacedParseFault}
use Rattle.yl_events.specs.Faults as parse
use Rattle.yl_config.specs.declared.config.Config.{Config}
use Rattle.yl_sections.specs.Sections.{lexemes_of}
use Rattle.yl_sections.specs.Local.{all_rows}
use Rattle.yl_sections.specs.Kept.{KeptValue, SectionFaultValue, Here, Behind, scan_fault_from, section_fault, scan_fault_at}
use Rattle.yl_sections.specs.Judge.{document_of, kept_of_section}
use Rattle.yl_sections.specs.Last.{HasNoLexeme}
use Rattle.yl_sections.proofs.Last.{run_count}
use Rattle.yl_rescan.specs.Agree.{state_of_row}
use Rattle.yl_sections.proofs.Quiet.{IsQuietRow}

-- ---- above it

-- a scan fault begins in one of these rows
abbrev FailsIn : List RowEntry → Type 0
FailsIn [] = ⊥
FailsIn (e ∷ es) = IsSome e.fault ⊎ FailsIn es

-- where reading has stopped at a row, it did so by a fault above
abbrev StopsByFault : List RowEntry → Type 0
StopsByFault es = (i : ℕ) → state_at es i ≡ Some Stopped → FailsIn (take i es)

never_stopped : (b : Bool) (a : Context) (P : Type 0) → cond b (Some (state_of a)) None ≡ Some Stopped → P
never_stopped true a P h = cc
never_stopped false a P h = cc

abbrev rows_below : List (List ℕ) → RowReading SurroundingsValue → Option PlacedScanFault → List RowEntry
rows_below rows r f = entries_below (λ down column k. entries_by false down column k rows) rows r f

stops_below : (i : ℕ) (rows : List (List ℕ)) (r : RowReading SurroundingsValue) (f : Option PlacedScanFault) → r.fault ≡ f → ((down column : ℕ) (k : SurroundingsValue) → StopsByFault (entries_by false down column k rows))
    → state_at (rows_below rows r f) i ≡ Some Stopped → IsSome r.fault ⊎ FailsIn (take i (rows_below rows r f))
stops_below i rows r None e more h = inr (more r.down r.column r.behind i h)
stops_below i rows r (Some f) e more h = inl (subst (λ (o : Option PlacedScanFault). IsSome o) (sym e) refl)

run_stops : (start : Bool) (down column : ℕ) (k : SurroundingsValue) (rows : List (List ℕ)) → StopsByFault (entries_by start down column k rows)
run_stops start down column k [] i h = cc
run_stops start zero column k (row ∷ rows) zero h = never_stopped (start || not (is_blank row)) (context_of k) _ h
run_stops start zero column k (row ∷ rows) (suc i) h =
    let r = row_reading_by rows (first_tab false row) 0 true true 0 k row in
    stops_below i rows r r.fault refl (λ down column k. run_stops false down column k rows) h
run_stops start (suc zero) column k (row ∷ rows) zero h = cc
run_stops start (suc zero) column k (row ∷ rows) (suc i) h =
    let r = row_reading_by rows (first_tab true row) column false false 0 k row in
    stops_below i rows r r.fault refl (λ down column k. run_stops false down column k rows) h
run_stops start (suc (suc down)) column k (row ∷ rows) zero h = cc
run_stops start (suc (suc down)) column k (row ∷ rows) (suc i) h = inr (run_stops false (suc down) column k rows i h)

-- ---- records

-- a scan fault begins in one of these rows
abbrev pub Fails : List RecordValue → Type 0
Fails [] = ⊥
Fails (r ∷ rs) = IsSome r.entry.fault ⊎ Fails rs

fails_records : (i : ℕ) (ns : List ℕ) (es : List RowEntry) → length es ≤ length ns → FailsIn (take i es) → Fails (take i (records_with ns es))
fails_records zero ns es l h = h
fails_records (suc i) [] [] l h = h
fails_records (suc i) [] (e ∷ es) l h = absurd (omega (arith, l))
fails_records (suc i) (n ∷ ns) [] l h = h
fails_records (suc i) (n ∷ ns) (e ∷ es) l (inl h) = inl h
fails_records (suc i) (n ∷ ns) (e ∷ es) l (inr h) = inr (fails_records i ns es (omega (arith, l)) h)

pub entry_count : (t : List (List ℕ)) → length (entries t) ≡ length t
entry_count t = sym (ap length (run-entries t)) ∙ run_count true 0 0 no_surroundings t

-- a scan fault begins above a row at which reading has stopped
pub fails_above : (t : List (List ℕ)) (h : ℕ) → state_at (entries t) h ≡ Some Stopped → Fails (take h (records t))
fails_above t h e =
    let many : length (entries t) ≡ length (map indentation t) = entry_count t ∙ sym (length-map t indentation) in
    fails_records h (map indentation t) (entries t) (omega (arith, many)) (subst StopsByFault (run-entries t) (run_stops true 0 0 no_surroundings t) h e)

quiet_records : (i : ℕ) (ns : List ℕ) (es : List RowEntry) → AllByRecursion IsQuiet (drop i es) → AllByRecursion IsQuietRow (drop i (records_with ns es))
quiet_records zero [] es h = tt
quiet_records zero (n ∷ ns) [] h = tt
quiet_records zero (n ∷ ns) (e ∷ es) h = (h.0, quiet_records 0 ns es h.1)
quiet_records (suc i) [] es h = tt
quiet_records (suc i) (n ∷ ns) [] h = tt
quiet_records (suc i) (n ∷ ns) (e ∷ es) h = quiet_records i ns es h

-- from it on nothing is read
pub quiet_below : (t : List (List ℕ)) (h : ℕ) → state_at (entries t) h ≡ Some Stopped → AllByRecursion IsQuietRow (drop h (records t))
quiet_below t h e = quiet_records h (map indentation t) (entries t) ((shift t t h h Stopped e e refl).quiet refl)

pub without_lexemes : (qs : List RecordValue) → AllByRecursion IsQuietRow qs → AllByRecursion HasNoLexeme qs
without_lexemes [] h = tt
without_lexemes (q ∷ qs) h = (h.0.lexemes, without_lexemes qs h.1)

-- the state of a row's record is that of its entry
state_records : (i : ℕ) (ns : List ℕ) (es : List RowEntry) (s : LineStateValue) → state_in (slice_get (records_with ns es) i) ≡ Some s → state_at es i ≡ Some s
state_records i [] es s h = cc
state_records i (n ∷ ns) [] s h = cc
state_records zero (n ∷ ns) (e ∷ es) s h = h
state_records (suc i) (n ∷ ns) (e ∷ es) s h = state_records i ns es s h

pub stopped_at : (t : List (List ℕ)) (h : ℕ) → state_of_row (records t) h ≡ Some Stopped → state_at (entries t) h ≡ Some Stopped
stopped_at t h e = state_records h (map indentation t) (entries t) Stopped e

-- ---- as many as rows

record_count : (ns : List ℕ) (es : List RowEntry) → length ns ≡ length es → length (records_with ns es) ≡ length es
record_count [] [] l = refl
record_count [] (e ∷ es) l = absurd (omega (arith, l))
record_count (n ∷ ns) [] l = refl
record_count (n ∷ ns) (e ∷ es) l = ap suc (record_count ns es (omega (arith, l)))

pub count_records : (t : List (List ℕ)) → length (records t) ≡ length t
count_records t = record_count (map indentation t) (entries t) (length-map t indentation ∙ sym (entry_count t)) ∙ entry_count t

entry_within : (es : List RowEntry) (i : ℕ) (s : LineStateValue) → state_at es i ≡ Some s → i < length es
entry_within [] i s h = cc
entry_within (e ∷ es) zero s h = omega arith
entry_within (e ∷ es) (suc i) s h = omega (arith, entry_within es i s h)

-- a row with a state is there
pub row_within : (t : List (List ℕ)) (h : ℕ) → state_at (entries t) h ≡ Some Stopped → h < length (records t)
row_within t h e = omega (arith, entry_within (entries t) h Stopped e, entry_count t, count_records t)

-- ---- the section that holds it

-- a fault at a place
abbrev pub IsHere : Option SectionFaultValue → Type 0
IsHere None = ⊥
IsHere (Some (Here place text)) = Unit {0}
IsHere (Some (Behind text)) = ⊥

scanned_here : (line : ℕ) (f : Option PlacedScanFault) (later : Option SectionFaultValue) → IsSome f ⊎ IsHere later → IsHere (option_or (option_map (scan_fault_at line) f) later)
scanned_here line None later (inl h) = absurd (cc)
scanned_here line None later (inr h) = h
scanned_here line (Some f) later h = tt

scan_here : (line : ℕ) (rs : List RecordValue) → Fails rs → IsHere (scan_fault_from line rs)
scan_here line [] h = h
scan_here line (r ∷ rs) (inl h) = scanned_here line r.entry.fault (scan_fault_from (line + 1) rs) (inl h)
scan_here line (r ∷ rs) (inr h) = scanned_here line r.entry.fault (scan_fault_from (line + 1) rs) (inr (scan_here (line + 1) rs h))

or_here : (scanned : Option SectionFaultValue) (text : List ℕ) → IsHere scanned → IsHere (option_or scanned (Some (Behind text)))
or_here None text h = absurd h
or_here (Some f) text h = h

parse_here : (o : Option LexemeValue) (text : List ℕ) (scanned : Option SectionFaultValue) → IsHere scanned → IsHere (option_or (option_map (λ (x : LexemeValue). Here x.start text) o) (option_or scanned (Some (Behind text))))
parse_here None text scanned h = or_here scanned text h
parse_here (Some x) text scanned h = tt

-- a section with a scan fault has a fault at a place, and none behind it
pub section_here : (xs : List LexemeValue) (f : Option PlacedParseFault) (scanned : Option SectionFaultValue) → IsHere scanned → IsHere (section_fault xs f scanned)
section_here xs None scanned h = h
section_here xs (Some f) scanned h = parse_here (slice_get xs f.place) (parse.fault_text f.kind) scanned h

pub kept_here : (config : Config) (rs : List RecordValue) → Fails rs → IsHere (kept_of_section config rs).fault
unfolding kept_of_section
kept_here config rs h = section_here (lexemes_of rs) (document_of (lexemes_of rs)).fault (scan_fault_from 0 rs) (scan_here 0 rs h)

not_behind : (o : Option SectionFaultValue) (text : List ℕ) → IsHere o → o ≡ Some (Behind text) → ⊥
not_behind None text h e = h
not_behind (Some (Here place other)) text h e = cc
not_behind (Some (Behind other)) text h e = h

-- one of these sections has a fault at a place
abbrev pub HaveHere : List KeptValue → Type 0
HaveHere [] = ⊥
HaveHere (k ∷ ks) = IsHere k.fault ⊎ HaveHere ks

fails_split : (xs ys : List RecordValue) → Fails (xs ++ ys) → Fails xs ⊎ Fails ys
fails_split [] ys h = inr h
fails_split (x ∷ xs) ys (inl h) = inl (inl h)
fails_split (x ∷ xs) ys (inr h) = by (fails_split xs ys h)
  where
    by : Fails xs ⊎ Fails ys → Fails (x ∷ xs) ⊎ Fails ys
    by (inl g) = inl (inr g)
    by (inr g) = inr g

here_or : (config : Config) (s : List RecordValue) (ks : List KeptValue) (P : Type 0) → (P → HaveHere ks) → Fails s ⊎ P → HaveHere (kept_of_section config s ∷ ks)
here_or config s ks P f (inl g) = inl (kept_here config s g)
here_or config s ks P f (inr g) = inr (f g)

pub sections_here : (config : Config) (ss : List (List RecordValue)) → Fails (all_rows ss) → HaveHere (map (kept_of_section config) ss)
sections_here config [] h = h
sections_here config (s ∷ ss) h =
    here_or config s (map (kept_of_section config) ss) (Fails (all_rows ss)) (λ g. sections_here config ss g) (fails_split s (all_rows ss) h)
