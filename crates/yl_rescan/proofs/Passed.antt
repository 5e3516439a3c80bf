-- Rows that are passed: what their records are, and where records that are kept are cut below them.
use Rattle.std.proofs.Common.{◌≡◌, ℕ, zero, suc, ◌+◌, ◌-◌, ◌<◌, ◌≤◌, ◌||◌, not, Bool, true, false, cond, List, [], ◌∷◌, ◌++◌, length, map, take, drop, Option, Some, None, refl, ap, sym, ◌∙◌, subst, arith, rules}
use Rattle.std.specs.Prelude.{IfSome, slice_get}
use Rattle.std.specs.Str.{chars}
use Rattle.std.specs.List.{AllByRecursion}
use Rattle.std.proofs.lemmas.Bool.{cases_lt}
use Rattle.std.proofs.lemmas.List.{same_lists, places, length-drop, length-map, length-take-le, drop-map}
use Rattle.std.proofs.Common.{append_assoc, append-nil}
use Rattle.yl_text.specs.Character.{indentation, is_blank}
use Rattle.yl_text.specs.Lines.{RowValue}
use Rattle.yl_lexeme.specs.declared.lexeme.Kind.{Kind}
use Rattle.yl_lexeme.specs.Known.{SurroundingsValue, context_of, no_surroundings, row_start}
use Rattle.yl_lexeme.specs.Lexeme.{LexemeValue}
use Rattle.yl_lexeme.specs.Past.{Context}
use Rattle.yl_row.specs.declared.fault.PlacedScanFault.{PlacedScanFault}
use Rattle.yl_row.specs.Fault.{is_unclosed}
use Rattle.yl_row.specs.Entries.{LineStateValue, RowEntry, RowReading, Stands, Stopped, entries, entries_below, quiet, state_of, stopped_rows}
use Rattle.yl_row.specs.Run.{entries_by, row_reading_by}
use Rattle.yl_row.specs.Step.{first_tab}
use Rattle.yl_row.proofs.Agree.{run-entries}
use Rattle.yl_scan.specs.Restart.{state_at}
use Rattle.yl_scan.specs.Resume.{from_state}
use Rattle.yl_scan.proofs.Resumed.{run_resumed, stopped_resumed}
use Rattle.yl_record.specs.Records.{RecordValue, characters_in, records, records_with}
use Rattle.yl_record.specs.Recorded.{records_from}
use Rattle.yl_sections.specs.Last.{HasNoLexeme}
use Rattle.yl_sections.specs.Local.{begins_section, is_start_at, kind_after}
use Rattle.yl_sections.specs.Sections.{last_kind_from}
use Rattle.yl_sections.proofs.Last.{last_from, run_count, stopped_count}
use Rattle.yl_sections.proofs.SectionStarts.{from_row, not_first, starts_after}
use Rattle.yl_sections.proofs.SectionStarts as starts
use Rattle.yl_rescan.specs.Agree.{state_of_row}
use Rattle.yl_rescan.specs.Held.{AreHeld, IsCutAt, last_in}
use Rattle.yl_rescan.proofs.Held.{begins_by, drop_both, take_part}
use Rattle.yl_rescan.proofs.Rows.{records_from_length, records_state, sound_behind, state_behind, with_drop, with_state}
use Rattle.yl_rescan.proofs.Starts.{alone}

differ : (t : Bool) → t ≡ true → t ≡ false → ⊥
differ t x y = cc

-- ---- lists

pub got_behind : {X : Type 0} (xs : List X) (n i : ℕ) → n ≤ i → slice_get (drop n xs) (i - n) ≡ slice_get xs i
got_behind xs zero i o = let e : i - 0 ≡ i = omega arith in ap (λ k. slice_get xs k) e
got_behind [] (suc n) i o = refl
got_behind (x ∷ xs) (suc n) zero o = absurd (omega (arith, o))
got_behind (x ∷ xs) (suc n) (suc i) o = let e : suc i - suc n ≡ i - n = omega arith in ap (λ k. slice_get (drop n xs) k) e ∙ got_behind xs n i (omega (arith, o))

pub row_there : {X : Type 0} (xs : List X) (i : ℕ) → i < length xs → (x : X) × (slice_get xs i ≡ Some x)
row_there [] i l = absurd (omega (arith, l))
row_there (x ∷ xs) zero l = (x, refl)
row_there (x ∷ xs) (suc i) l = row_there xs i (omega (arith, l))

-- two parts of a list, one behind the other
parts_joined : {X : Type 0} (xs : List X) (from end below : ℕ) → from ≤ end → end ≤ below → below ≤ length xs → take (end - from) (drop from xs) ++ take (below - end) (drop end xs) ≡ take (below - from) (drop from xs)
parts_joined xs from end below o p l = same_lists _ _ (search (rules, places)) (λ k d h. grind (arith, places))

-- ---- records behind a fault

abbrev unread : List ℕ → RecordValue
unread row = record { indentation = indentation row; entry = quiet (cond (is_blank row || false) None (Some Stopped)) }

stopped_take : (k : ℕ) (rows : List (List ℕ)) → take k (records_from Stopped rows) ≡ records_from Stopped (take k rows)
stopped_take zero rows = refl
stopped_take (suc k) [] = refl
stopped_take (suc k) (row ∷ rows) = ap (λ (rs : List RecordValue). unread row ∷ rs) (stopped_take k rows)

stopped_drop : (k : ℕ) (rows : List (List ℕ)) → drop k (records_from Stopped rows) ≡ records_from Stopped (drop k rows)
stopped_drop zero rows = refl
stopped_drop (suc k) [] = refl
stopped_drop (suc k) (row ∷ rows) = stopped_drop k rows

pub stopped_append : (xs ys : List (List ℕ)) → records_from Stopped (xs ++ ys) ≡ records_from Stopped xs ++ records_from Stopped ys
stopped_append [] ys = refl
stopped_append (x ∷ xs) ys = ap (λ (rs : List RecordValue). unread x ∷ rs) (stopped_append xs ys)

none_stopped : (rows : List (List ℕ)) → AllByRecursion HasNoLexeme (records_from Stopped rows)
none_stopped [] = tt
none_stopped (row ∷ rows) = (refl, none_stopped rows)

not_blank : (b : Bool) → b ≡ false → cond (b || false) None (Some Stopped) ≡ Some Stopped
not_blank true e = absurd (cc)
not_blank false e = refl

stopped_sound : (rows : List (List ℕ)) (i : ℕ) (row : List ℕ) → slice_get rows i ≡ Some row → is_blank row ≡ false → state_of_row (records_from Stopped rows) i ≡ Some Stopped
stopped_sound [] i row e f = absurd (cc)
stopped_sound (x ∷ rows) zero row e f = let same : x ≡ row = cc in not_blank (is_blank x) (ap (λ (r : List ℕ). is_blank r) same ∙ f)
stopped_sound (x ∷ rows) (suc i) row e f = stopped_sound rows i row e f

-- ---- a sound row is not blank, unless the rows begin with it

abbrev AreFilled : List RowEntry → List (List ℕ) → Type 0
AreFilled es rows = (i : ℕ) (s : LineStateValue) (row : List ℕ) → state_at es i ≡ Some s → slice_get rows i ≡ Some row → is_blank row ≡ false

same_blank : (x row : List ℕ) → Some x ≡ Some row → is_blank x ≡ false → is_blank row ≡ false
same_blank x row e f = let same : x ≡ row = cc in ap (λ (r : List ℕ). is_blank r) (sym same) ∙ f

filled_stopped : (b to_end : Bool) (s : LineStateValue) → cond (b || to_end) None (Some Stopped) ≡ Some s → b ≡ false
filled_stopped true to_end s h = cc
filled_stopped false to_end s h = refl

filled_sound : (b : Bool) (a : Context) (s : LineStateValue) → cond (not b) (Some (state_of a)) None ≡ Some s → b ≡ false
filled_sound true a s h = cc
filled_sound false a s h = refl

stopped_filled : (to_end : Bool) (down : ℕ) (rows : List (List ℕ)) → AreFilled (stopped_rows to_end down rows) rows
stopped_filled to_end down [] i s row h e = absurd (cc)
stopped_filled to_end zero (x ∷ rows) zero s row h e = same_blank x row e (filled_stopped (is_blank x) to_end s h)
stopped_filled to_end zero (x ∷ rows) (suc i) s row h e = stopped_filled to_end 0 rows i s row h e
stopped_filled to_end (suc down) (x ∷ rows) zero s row h e = absurd (cc)
stopped_filled to_end (suc down) (x ∷ rows) (suc i) s row h e = stopped_filled to_end down rows i s row h e

abbrev rows_below : List (List ℕ) → RowReading SurroundingsValue → Option PlacedScanFault → List RowEntry
rows_below rows r f = entries_below (λ down column k. entries_by false down column k rows) rows r f

below_filled : (rows : List (List ℕ)) (r : RowReading SurroundingsValue) (f : Option PlacedScanFault) → ((down column : ℕ) (k : SurroundingsValue) → AreFilled (entries_by false down column k rows) rows)
    → AreFilled (rows_below rows r f) rows
below_filled rows r None more = more r.down r.column r.behind
below_filled rows r (Some f) more = stopped_filled (is_unclosed f.fault) f.down rows

run_filled : (down column : ℕ) (k : SurroundingsValue) (rows : List (List ℕ)) → AreFilled (entries_by false down column k rows) rows
run_filled down column k [] i s row h e = absurd (cc)
run_filled zero column k (x ∷ rows) zero s row h e = same_blank x row e (filled_sound (is_blank x) (context_of k) s h)
run_filled zero column k (x ∷ rows) (suc i) s row h e =
    let r = row_reading_by rows (first_tab false x) 0 true true 0 k x in
    below_filled rows r r.fault (λ down column k. run_filled down column k rows) i s row h e
run_filled (suc zero) column k (x ∷ rows) zero s row h e = absurd (cc)
run_filled (suc zero) column k (x ∷ rows) (suc i) s row h e =
    let r = row_reading_by rows (first_tab true x) column false false 0 k x in
    below_filled rows r r.fault (λ down column k. run_filled down column k rows) i s row h e
run_filled (suc (suc down)) column k (x ∷ rows) zero s row h e = absurd (cc)
run_filled (suc (suc down)) column k (x ∷ rows) (suc i) s row h e = run_filled (suc down) column k rows i s row h e

later_filled : (k : SurroundingsValue) (rows : List (List ℕ)) (i : ℕ) (s : LineStateValue) (row : List ℕ) → state_at (entries_by true 0 0 k rows) (suc i) ≡ Some s → slice_get rows (suc i) ≡ Some row → is_blank row ≡ false
later_filled k [] i s row h e = absurd (cc)
later_filled k (x ∷ rows) i s row h e =
    let r = row_reading_by rows (first_tab false x) 0 true true 0 k x in
    below_filled rows r r.fault (λ down column k. run_filled down column k rows) i s row h e

from_filled : (z : LineStateValue) (rows : List (List ℕ)) (i : ℕ) (s : LineStateValue) (row : List ℕ) → state_at (from_state z rows) (suc i) ≡ Some s → slice_get rows (suc i) ≡ Some row → is_blank row ≡ false
from_filled Stopped rows i s row h e = stopped_filled false 0 rows (suc i) s row h e
from_filled (Stands levels brackets last) rows i s row h e = later_filled (row_start levels brackets last) rows i s row h e

text_filled : (t : List (List ℕ)) (i : ℕ) (s : LineStateValue) (row : List ℕ) → 0 < i → state_of_row (records t) i ≡ Some s → slice_get t i ≡ Some row → is_blank row ≡ false
text_filled t zero s row o h e = absurd (omega (arith, o))
text_filled t (suc i) s row o h e =
    later_filled no_surroundings t i s row (ap (λ (es : List RowEntry). state_at es (suc i)) (run-entries t) ∙ (sym (records_state t (suc i)) ∙ h)) e

-- ---- the rows from a sound one on, where the rows are those from a sound one on

entry_count : (s : LineStateValue) (rows : List (List ℕ)) → length (from_state s rows) ≡ length rows
entry_count Stopped rows = stopped_count false 0 rows
entry_count (Stands levels brackets last) rows = run_count true 0 0 (row_start levels brackets last) rows

state_from : (z : LineStateValue) (rows : List (List ℕ)) (i : ℕ) → state_of_row (records_from z rows) i ≡ state_at (from_state z rows) i
state_from z rows i = with_state i (map indentation rows) (from_state z rows) (length-map rows indentation ∙ sym (entry_count z rows))

entries_resumed : (z : LineStateValue) (rows : List (List ℕ)) (i : ℕ) (s : LineStateValue) → state_at (from_state z rows) i ≡ Some s → drop i (from_state z rows) ≡ from_state s (drop i rows)
entries_resumed Stopped rows i s h = stopped_resumed false 0 rows i s h
entries_resumed (Stands levels brackets last) rows i s h = run_resumed true 0 0 (row_start levels brackets last) rows refl i s h

resumed_from : (z : LineStateValue) (rows : List (List ℕ)) (i : ℕ) (s : LineStateValue) → state_of_row (records_from z rows) i ≡ Some s → drop i (records_from z rows) ≡ records_from s (drop i rows)
resumed_from z rows i s h =
    with_drop i (map indentation rows) (from_state z rows)
    ∙ (ap (λ (es : List RowEntry). records_with (drop i (map indentation rows)) es) (entries_resumed z rows i s (sym (state_from z rows i) ∙ h))
    ∙ ap (λ (ns : List ℕ). records_with ns (from_state s (drop i rows))) (drop-map indentation i rows))

-- ---- the records that are kept, from a row on with which a section begins

-- a section begins with none of these rows
never_begins : (last : Option Kind) (rs : List RecordValue) → AllByRecursion HasNoLexeme rs → begins_section last rs ≡ true → ⊥
never_begins last rs none b = differ _ b (starts.quiet last rs 0 none)

never_stopped : (last : Option Kind) (rs : List RecordValue) (rows : List (List ℕ)) → rs ≡ records_from Stopped rows → begins_section last rs ≡ true → ⊥
never_stopped last rs rows e b = never_begins last (records_from Stopped rows) (none_stopped rows) (ap (λ (es : List RecordValue). begins_section last es) (sym e) ∙ b)

-- the state of a row holds the kind of the last lexeme above it, by the state of one above it
kind_held : (z s : LineStateValue) (rows : List (List ℕ)) (i : ℕ) → state_of_row (records_from z rows) i ≡ Some s → (z ≡ Stopped → ⊥) → (s ≡ Stopped → ⊥) → kind_after (last_in z) (take i (records_from z rows)) ≡ last_in s
kind_held Stopped s rows i h not_z not_s = absurd (not_z refl)
kind_held (Stands levels brackets last) Stopped rows i h not_z not_s = absurd (not_s refl)
kind_held (Stands levels brackets last) (Stands levels' brackets' last') rows i h not_z not_s =
    last_from levels brackets last rows i levels' brackets' last' (sym (state_from (Stands levels brackets last) rows i) ∙ h)

pub record Continues (t : List (List ℕ)) (es : List RecordValue) (j : ℕ) (s : LineStateValue) : Type 0 where
  pub behind : drop j es ≡ records_from s (drop j t)
  pub begins : begins_section (last_in s) (drop j es) ≡ true
  pub filled : (row : List ℕ) → slice_get t j ≡ Some row → is_blank row ≡ false

text_continues : (t : List (List ℕ)) (j : ℕ) (s : LineStateValue) → state_of_row (records t) j ≡ Some s → is_start_at (records t) j ≡ true → Continues t (records t) j s
text_continues t zero s h start = absurd (differ _ start (not_first (records t)))
text_continues t (suc j) s h start = record {
  behind = sound_behind t (suc j) s h;
  begins = begins_by t (suc j) s h start;
  filled = λ row e. text_filled t (suc j) s row (omega arith) h e;
}

module _ (t : List (List ℕ)) (n : ℕ) (es : List RecordValue) (held : IsCutAt t n es) where
  below_zero : 0 < n
  below_zero = by n held.start where
    by : (k : ℕ) → is_start_at es k ≡ true → 0 < k
    by zero start = absurd (differ _ start (not_first es))
    by (suc k) start = omega arith

  cut_continues : (s : LineStateValue) → state_of_row es n ≡ Some s → Continues t es n s
  cut_continues s h =
      let same : held.state ≡ s = let e = sym held.sound ∙ h in cc in
      record {
        behind = held.behind ∙ ap (λ (z : LineStateValue). records_from z (drop n t)) same;
        begins = ap (λ (z : LineStateValue). begins_section (last_in z) (drop n es)) (sym same) ∙ held.begins;
        filled = λ row e. text_filled t n Stopped row below_zero held.stopped e;
      }

  module _ (d : ℕ) (s : LineStateValue) (h : state_of_row es (n + suc d) ≡ Some s) (start : is_start_at es (n + suc d) ≡ true) where
    abbrev later : List (List ℕ)
    later = drop n t

    less : n + suc d - n ≡ suc d
    less = omega arith

    state_later : state_of_row (records_from held.state later) (suc d) ≡ Some s
    state_later =
        ap (λ (rs : List RecordValue). state_of_row rs (suc d)) (sym held.behind)
        ∙ (ap (λ k. state_of_row (drop n es) k) (sym less) ∙ (state_behind es n (n + suc d) (omega arith) ∙ h))

    behind_later : drop (n + suc d) es ≡ records_from s (drop (n + suc d) t)
    behind_later =
        sym (drop_both es n (suc d))
        ∙ (ap (λ (rs : List RecordValue). drop (suc d) rs) held.behind
        ∙ (resumed_from held.state later (suc d) s state_later ∙ ap (λ (qs : List (List ℕ)). records_from s qs) (drop_both t n (suc d))))

    begins_later : starts_after (last_in held.state) (drop n es) (suc d) ≡ true
    begins_later =
        alone (last_in held.state) (drop n es) d held.begins
        ∙ (sym (alone (kind_after None (take n es)) (drop n es) d held.start) ∙ (sym (from_row None es n (suc d)) ∙ start))

    not_stopped : s ≡ Stopped → ⊥
    not_stopped is =
        never_stopped (kind_after None (take (n + suc d) es)) (drop (n + suc d) es) (drop (n + suc d) t)
        (behind_later ∙ ap (λ (z : LineStateValue). records_from z (drop (n + suc d) t)) is) start

    stands : held.state ≡ Stopped → ⊥
    stands is = never_stopped (last_in held.state) (drop n es) later (held.behind ∙ ap (λ (z : LineStateValue). records_from z later) is) held.begins

    kind_later : kind_after (last_in held.state) (take (suc d) (drop n es)) ≡ last_in s
    kind_later =
        ap (λ (rs : List RecordValue). kind_after (last_in held.state) (take (suc d) rs)) held.behind
        ∙ kind_held held.state s later (suc d) state_later stands not_stopped

    later_continues : Continues t es (n + suc d) s
    later_continues = record {
      behind = behind_later;
      begins = ap (λ (k : Option Kind). begins_section k (drop (n + suc d) es)) (sym kind_later)
          ∙ (ap (λ (rs : List RecordValue). begins_section (kind_after (last_in held.state) (take (suc d) (drop n es))) rs) (sym (drop_both es n (suc d))) ∙ begins_later);
      filled = λ row e.
          from_filled held.state later d s row (sym (state_from held.state later (suc d)) ∙ state_later)
          (ap (λ k. slice_get later k) (sym less) ∙ (got_behind t n (n + suc d) (omega arith) ∙ e));
    }

continues_by : (t : List (List ℕ)) (n : ℕ) (es : List RecordValue) → IsCutAt t n es → (j d : ℕ) (s : LineStateValue) → n + d ≡ j → state_of_row es j ≡ Some s → is_start_at es j ≡ true → Continues t es j s
continues_by t n es held j zero s e h start =
    let same : j ≡ n = omega (arith, e) in
    subst (λ k. Continues t es k s) (sym same) (cut_continues t n es held s (ap (λ k. state_of_row es k) (sym same) ∙ h))
continues_by t n es held j (suc d) s e h start =
    subst (λ k. Continues t es k s) e (later_continues t n es held d s (ap (λ k. state_of_row es k) e ∙ h) (ap (λ k. is_start_at es k) e ∙ start))

-- from a sound row on, at or below the cut, with which a section begins, they are what its state and the rows say
pub continues : (t : List (List ℕ)) (cut : Option ℕ) (es : List RecordValue) → AreHeld t cut es → (j : ℕ) (s : LineStateValue) → IfSome cut (λ n. n ≤ j) → state_of_row es j ≡ Some s → is_start_at es j ≡ true → Continues t es j s
continues t None es held j s low h start =
    subst (λ (rs : List RecordValue). Continues t rs j s) (sym held)
    (text_continues t j s (ap (λ (rs : List RecordValue). state_of_row rs j) (sym held) ∙ h) (ap (λ (rs : List RecordValue). is_start_at rs j) (sym held) ∙ start))
continues t (Some n) es held j s low h start = continues_by t n es held j (j - n) s (omega (arith, low)) h start

-- ---- kinds

kind_none : (last : Option Kind) (rs : List RecordValue) (k : ℕ) → AllByRecursion HasNoLexeme rs → kind_after last (take k rs) ≡ last
kind_none last rs zero none = refl
kind_none last [] (suc k) none = refl
kind_none last (r ∷ rs) (suc k) none = ap (λ (xs : List LexemeValue). kind_after (last_kind_from last xs) (take k rs)) none.0 ∙ kind_none last rs k none.1

kind_same : (last : Option Kind) (rs : List RecordValue) (end below : ℕ) → end ≤ below → AllByRecursion HasNoLexeme (drop end rs) → kind_after last (take below rs) ≡ kind_after last (take end rs)
kind_same last rs zero below o none = kind_none last rs below none
kind_same last rs (suc end) zero o none = absurd (omega (arith, o))
kind_same last [] (suc end) (suc below) o none = refl
kind_same last (r ∷ rs) (suc end) (suc below) o none = kind_same (last_kind_from last r.entry.lexemes) rs end below (omega (arith, o)) none

-- ---- the records of a text in which reading has stopped at row `halt`

module _ (u : List (List ℕ)) (halt : ℕ) (stopped : state_of_row (records u) halt ≡ Some Stopped) where
  pub stopped_from : (end : ℕ) → halt ≤ end → drop end (records u) ≡ records_from Stopped (drop end u)
  stopped_from end o =
      let n : halt + (end - halt) ≡ end = omega (arith, o) in
      ap (λ k. drop k (records u)) (sym n) ∙ (sym (drop_both (records u) halt (end - halt))
      ∙ (ap (λ (rs : List RecordValue). drop (end - halt) rs) (sound_behind u halt Stopped stopped)
      ∙ (stopped_drop (end - halt) (drop halt u)
      ∙ ap (λ (qs : List (List ℕ)). records_from Stopped qs) (drop_both u halt (end - halt) ∙ ap (λ k. drop k u) n))))

  -- behind some of its records those of the rows that are passed
  pub passed_told : (from end below : ℕ) (items : List RecordValue) → halt ≤ end → from ≤ end → end ≤ below → below ≤ length (records u) → items ≡ take (end - from) (drop from (records u))
      → items ++ records_from Stopped (drop end (take below u)) ≡ take (below - from) (drop from (records u))
  passed_told from end below items o low p high is =
      ap (λ (rs : List RecordValue). rs ++ records_from Stopped (drop end (take below u))) is
      ∙ (ap (λ (rs : List RecordValue). take (end - from) (drop from (records u)) ++ rs)
      (ap (λ (qs : List (List ℕ)). records_from Stopped qs) (sym (take_part u end below))
      ∙ (sym (stopped_take (below - end) (drop end u)) ∙ ap (λ (rs : List RecordValue). take (below - end) rs) (sym (stopped_from end o))))
      ∙ parts_joined (records u) from end below low p high)

  -- no lexeme stands below
  pub kind_passed : (end below : ℕ) → halt ≤ end → end ≤ below → kind_after None (take below (records u)) ≡ kind_after None (take end (records u))
  kind_passed end below o p = kind_same None (records u) end below p (subst (λ (rs : List RecordValue). AllByRecursion HasNoLexeme rs) (sym (stopped_from end o)) (none_stopped (drop end u)))

  -- reading has stopped at each row below that is not blank
  pub stopped_row : (c : ℕ) (row : List ℕ) → halt ≤ c → slice_get u c ≡ Some row → is_blank row ≡ false → state_of_row (records u) c ≡ Some Stopped
  stopped_row c row o e f =
      sym (state_behind (records u) halt c o)
      ∙ (ap (λ (rs : List RecordValue). state_of_row rs (c - halt)) (sound_behind u halt Stopped stopped)
      ∙ stopped_sound (drop halt u) (c - halt) row (got_behind u halt c o ∙ e) f)

-- ---- one row more

pub none_taken : {X : Type 0} (xs : List X) (k : ℕ) → drop k (take k xs) ≡ []
none_taken xs zero = refl
none_taken [] (suc k) = refl
none_taken (x ∷ xs) (suc k) = none_taken xs k

taken_more : {X : Type 0} (xs : List X) (i : ℕ) (x : X) → slice_get xs i ≡ Some x → take (suc i) xs ≡ take i xs ++ x ∷ []
taken_more [] i x e = absurd (cc)
taken_more (y ∷ ys) zero x e = let same : y ≡ x = cc in ap (λ z. z ∷ []) same
taken_more (y ∷ ys) (suc i) x e = ap (λ zs. y ∷ zs) (taken_more ys i x e)

one_taken : {X : Type 0} (xs : List X) (from i : ℕ) (x : X) → from ≤ i → slice_get xs i ≡ Some x → drop from (take (suc i) xs) ≡ drop from (take i xs) ++ x ∷ []
one_taken xs zero i x o e = taken_more xs i x e
one_taken xs (suc from) zero x o e = absurd (omega (arith, o))
one_taken [] (suc from) (suc i) x o e = absurd (cc)
one_taken (y ∷ ys) (suc from) (suc i) x o e = one_taken ys from i x (omega (arith, o)) e

characters_at : (rows : List RowValue) (i : ℕ) (row : RowValue) → slice_get rows i ≡ Some row → slice_get (characters_in rows) i ≡ Some (chars row.text)
characters_at [] i row e = absurd (cc)
characters_at (x ∷ rows) zero row e = let same : x ≡ row = cc in ap (λ (r : RowValue). Some (chars r.text)) same
characters_at (x ∷ rows) (suc i) row e = characters_at rows i row e

rows_more : (rows : List RowValue) (from i : ℕ) (row : RowValue) (text : List ℕ) → from ≤ i → slice_get rows i ≡ Some row → text ≡ row.text
    → drop from (take (i + 1) (characters_in rows)) ≡ drop from (take i (characters_in rows)) ++ chars text ∷ []
rows_more rows from i row text o at is =
    let one : i + 1 ≡ suc i = omega arith in
    ap (λ k. drop from (take k (characters_in rows))) one
    ∙ (one_taken (characters_in rows) from i (chars row.text) o (characters_at rows i row at) ∙ ap (λ (t : List ℕ). drop from (take i (characters_in rows)) ++ chars t ∷ []) (sym is))

-- a row that is passed
pub pass_more : (rows : List RowValue) (from i : ℕ) (row : RowValue) (text : List ℕ) (r : RecordValue) → from ≤ i → slice_get rows i ≡ Some row → text ≡ row.text
    → records_from Stopped (chars text ∷ []) ≡ r ∷ records_from Stopped []
    → records_from Stopped (drop from (take (i + 1) (characters_in rows))) ≡ records_from Stopped (drop from (take i (characters_in rows))) ++ r ∷ []
pass_more rows from i row text r o at is one =
    ap (λ (qs : List (List ℕ)). records_from Stopped qs) (rows_more rows from i row text o at is)
    ∙ (stopped_append (drop from (take i (characters_in rows))) (chars text ∷ []) ∙ ap (λ (rs : List RecordValue). records_from Stopped (drop from (take i (characters_in rows))) ++ rs) one)

-- a row that is fed
pub feed_more : (rows : List RowValue) (from i : ℕ) (row : RowValue) (text : List ℕ) (rest : List (List ℕ)) → from ≤ i → slice_get rows i ≡ Some row → text ≡ row.text
    → records_from Stopped (drop from (take i (characters_in rows)) ++ (chars text ∷ rest)) ≡ records_from Stopped (drop from (take (i + 1) (characters_in rows)) ++ rest)
feed_more rows from i row text rest o at is =
    ap (λ (qs : List (List ℕ)). records_from Stopped qs)
    (sym (append_assoc (drop from (take i (characters_in rows))) (chars text ∷ []) rest) ∙ ap (λ (qs : List (List ℕ)). qs ++ rest) (sym (rows_more rows from i row text o at is)))

pub passed_length : (qs : List (List ℕ)) (from end : ℕ) → end ≤ length qs → length (records_from Stopped (drop from (take end qs))) ≡ end - from
passed_length qs from end l = omega (arith, records_from_length Stopped (drop from (take end qs)), length-drop from (take end qs), length-take-le end qs l)

-- ---- loops over rows that are passed, and rows that are fed

pub nothing_passed : (xs : List RecordValue) (qs : List (List ℕ)) (k : ℕ) → xs ≡ xs ++ records_from Stopped (drop k (take k qs))
nothing_passed xs qs k = sym (append-nil xs) ∙ ap (λ (ys : List (List ℕ)). xs ++ records_from Stopped ys) (sym (none_taken qs k))

pub one_passed : (xs ys zs : List RecordValue) (rows : List RowValue) (from i : ℕ) (row : RowValue) (text : List ℕ) (r : RecordValue) → zs ≡ ys ++ r ∷ []
    → ys ≡ xs ++ records_from Stopped (drop from (take i (characters_in rows))) → from ≤ i → slice_get rows i ≡ Some row → text ≡ row.text → records_from Stopped (chars text ∷ []) ≡ r ∷ records_from Stopped []
    → zs ≡ xs ++ records_from Stopped (drop from (take (i + 1) (characters_in rows)))
one_passed xs ys zs rows from i row text r e h o at is one =
    e
    ∙ (ap (λ (rs : List RecordValue). rs ++ r ∷ []) h
    ∙ (append_assoc xs (records_from Stopped (drop from (take i (characters_in rows)))) (r ∷ []) ∙ ap (λ (rs : List RecordValue). xs ++ rs) (sym (pass_more rows from i row text r o at is one))))

pub all_passed : (xs ys zs : List RecordValue) (qs : List (List ℕ)) (from i end : ℕ) → ys ≡ xs → i ≡ end → zs ≡ ys ++ records_from Stopped (drop from (take i qs)) → zs ≡ xs ++ records_from Stopped (drop from (take end qs))
all_passed xs ys zs qs from i end same ended h =
    h ∙ (ap (λ (rs : List RecordValue). rs ++ records_from Stopped (drop from (take i qs))) same ∙ ap (λ k. xs ++ records_from Stopped (drop from (take k qs))) ended)

pub nothing_fed : (told : List (List ℕ) → List RecordValue) (qs : List (List ℕ)) (k : ℕ) → ((rest : List (List ℕ)) → told rest ≡ records_from Stopped rest) → (rest : List (List ℕ))
    → told rest ≡ records_from Stopped (drop k (take k qs) ++ rest)
nothing_fed told qs k h rest = h rest ∙ ap (λ (ys : List (List ℕ)). records_from Stopped (ys ++ rest)) (sym (none_taken qs k))

pub all_fed : (told : List (List ℕ) → List RecordValue) (qs : List (List ℕ)) (from i end : ℕ) (items : List RecordValue) → i ≡ end → ((rest : List (List ℕ)) → told rest ≡ records_from Stopped (drop from (take i qs) ++ rest)) → items ≡ told []
    → items ≡ records_from Stopped (drop from (take end qs))
all_fed told qs from i end items ended h is =
    is ∙ (h [] ∙ ap (λ (ys : List (List ℕ)). records_from Stopped ys) (append-nil (drop from (take i qs)) ∙ ap (λ k. drop from (take k qs)) ended))
