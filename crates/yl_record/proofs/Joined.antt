-- Records and their parts.
use Rattle.std.proofs.Common.{◌≡◌, ℕ, zero, suc, ◌+◌, ◌-◌, ◌≤◌, ◌<◌, ◌⊎◌, inl, inr, Bool, true, false, cond, List, [], ◌∷◌, ◌++◌, length, map, take, drop, Option, Some, None, refl, ap, sym, subst, ◌∙◌, append_assoc, arith}
use Rattle.std.specs.Prelude.{slice_get, IsSome}
use Rattle.std.proofs.lemmas.Bool.{cases_lt}
use Rattle.std.proofs.lemmas.List.{append-nil, drop-append-le, drop-map, length-map, take-append-le, take-map}
use Rattle.yl_text.specs.Character.{indentation}
use Rattle.yl_lexeme.specs.Lexeme.{LexemeValue}
use Rattle.yl_lexeme.specs.Known.{no_surroundings}
use Rattle.yl_row.specs.Entries.{RowEntry, LineStateValue, Stopped, Stands, entries}
use Rattle.yl_row.proofs.Agree.{run-entries}
use Rattle.yl_scan.specs.Resume.{from_state, phase_at}
use Rattle.yl_scan.specs.Output.{StepValue}
use Rattle.yl_scan.specs.Remaining.{PhaseValue, Fresh, remaining_output}
use Rattle.yl_scan.specs.Scanner.{begun_at}
use Rattle.yl_scan.specs.Step.{at_end}
use Rattle.yl_record.specs.Parts.{entries_in, indentations_in, entries_with_step, entries_with_end, with_state}
use Rattle.yl_record.specs.Records.{RecordValue, records_with}
use Rattle.yl_record.specs.Recorded.{records_from}
use Rattle.yl_record.specs.Recorded.{RecorderValue, entries_with_rest, if_wanted, recorded, recorded_of}
use Rattle.yl_record.specs.Recorder.{IsOpenSince, IsRecording, state_in}
use Rattle.yl_record.proofs.Steps.{IsStep}
use Rattle.yl_record.proofs.Keeping.{row_told, text_ends}
use Rattle.yl_record.proofs.Cutting.{AreComplete, if_wanted_dropped, inside_at, rest_dropped, rest_taken}

records_again : (rs : List RecordValue) → records_with (indentations_in rs) (entries_in rs) ≡ rs
records_again [] = refl
records_again (r ∷ rs) = ap (λ ys. r ∷ ys) (records_again rs)

take_records : (k : ℕ) (ns : List ℕ) (es : List RowEntry) → take k (records_with ns es) ≡ records_with (take k ns) (take k es)
take_records zero ns es = refl
take_records (suc k) [] es = refl
take_records (suc k) (n ∷ ns) [] = refl
take_records (suc k) (n ∷ ns) (e ∷ es) = ap (λ ys. record { indentation = n; entry = e } ∷ ys) (take_records k ns es)

drop_records : (k : ℕ) (ns : List ℕ) (es : List RowEntry) → drop k (records_with ns es) ≡ records_with (drop k ns) (drop k es)
drop_records zero ns es = refl
drop_records (suc k) [] es = refl
drop_records (suc k) (n ∷ ns) [] = with_none (drop k ns)
  where
    with_none : (ms : List ℕ) → [] ≡ records_with ms []
    with_none [] = refl
    with_none (m ∷ ms) = refl
drop_records (suc k) (n ∷ ns) (e ∷ es) = drop_records k ns es

pub fed_recorded : (rs rs' : List RecordValue) (taken line : ℕ) (states : Bool) (stand stand' : PhaseValue) (row : List ℕ) (t : StepValue) → line ≡ taken + length rs → IsRecording (entries_in rs) taken states stand
    → IsStep line stand stand' row t → entries_in rs' ≡ entries_with_step taken (with_state (cond states t.state None) t) (entries_in rs) → indentations_in rs' ≡ indentations_in rs ++ indentation row ∷ []
    → (rows : List (List ℕ)) → recorded_of rs' taken states stand' rows ≡ recorded_of rs taken states stand (row ∷ rows)
fed_recorded rs rs' taken line states stand stand' row t at r s entries indentations rows =
    ap (λ ns. records_with (ns ++ map indentation rows) (if_wanted states (entries_with_rest (entries_in rs') taken stand' rows))) indentations
    ∙ ap (λ es. records_with ((indentations_in rs ++ indentation row ∷ []) ++ map indentation rows) (if_wanted states (entries_with_rest es taken stand' rows))) entries
    ∙ ap (λ ns. records_with ns (if_wanted states (entries_with_rest (entries_with_step taken (with_state (cond states t.state None) t) (entries_in rs)) taken stand' rows))) (append_assoc (indentations_in rs) (indentation row ∷ []) (map indentation rows))
    ∙ ap (records_with (indentations_in rs ++ map indentation (row ∷ rows))) (row_told (entries_in rs) taken line states stand stand' row t (at ∙ ap (λ n. taken + n) (sym (length-map rs (λ r. r.entry)))) r s rows)

pub ended_recorded : (rs rs' : List RecordValue) (taken line : ℕ) (states : Bool) (stand : PhaseValue) (t : StepValue) → line ≡ taken + length rs → IsRecording (entries_in rs) taken states stand
    → remaining_output line stand [] ≡ at_end t → ((p : ℕ × LexemeValue) → t.above ≡ Some p → begun_at stand ≡ Some p.0)
    → entries_in rs' ≡ entries_with_end taken t (entries_in rs) → indentations_in rs' ≡ indentations_in rs → rs' ≡ recorded_of rs taken states stand []
ended_recorded rs rs' taken line states stand t at r ends above entries indentations =
    sym (records_again rs')
    ∙ ap (λ ns. records_with ns (entries_in rs')) (indentations ∙ sym (append-nil (indentations_in rs)))
    ∙ ap (records_with (indentations_in rs ++ [])) (entries ∙ sym (text_ends (entries_in rs) taken line states stand t (at ∙ ap (λ n. taken + n) (sym (length-map rs (λ r. r.entry)))) r ends above))

-- the records that are complete
pub complete_recorded : (k : ℕ) (rs : List RecordValue) (taken : ℕ) (states : Bool) (stand : PhaseValue) (rows : List (List ℕ)) → AreComplete k (entries_in rs) taken stand → IsRecording (entries_in rs) taken states stand
    → take k rs ≡ take k (recorded_of rs taken states stand rows)
complete_recorded k rs taken states stand rows complete r =
    let told = entries_in rs in
    let le : k ≤ length rs = subst (λ n. k ≤ n) (length-map rs (λ r. r.entry)) complete.0 in
    let inds : take k (indentations_in rs) ≡ take k (indentations_in rs ++ map indentation rows) = sym (take-append-le k (indentations_in rs) (map indentation rows) (subst (λ n. k ≤ n) (sym (length-map rs (λ r. r.indentation))) le)) in
    ap (take k) (sym (records_again rs)) ∙ take_records k (indentations_in rs) told
    ∙ ap (λ ns. records_with ns (take k told)) inds
    ∙ ap (records_with (take k (indentations_in rs ++ map indentation rows))) (shown states refl)
    ∙ sym (take_records k (indentations_in rs ++ map indentation rows) (if_wanted states (entries_with_rest told taken stand rows)))
  where
    shown : (b : Bool) → states ≡ b → take k (entries_in rs) ≡ take k (if_wanted states (entries_with_rest (entries_in rs) taken stand rows))
    shown b is =
        ap (take k) (sym r.wanted) ∙ wanted_taken states (entries_in rs) ∙ ap (if_wanted states) (sym (rest_taken k (entries_in rs) taken stand rows complete)) ∙ sym (wanted_taken states (entries_with_rest (entries_in rs) taken stand rows))
      where
        wanted_taken : (b : Bool) (es : List RowEntry) → take k (if_wanted b es) ≡ if_wanted b (take k es)
        wanted_taken true es = refl
        wanted_taken false es = take-map _ k es

pub gone_recorded : (k : ℕ) (rs : List RecordValue) (taken : ℕ) (states : Bool) (stand : PhaseValue) (rows : List (List ℕ)) → AreComplete k (entries_in rs) taken stand
    → recorded_of (drop k rs) (taken + k) states stand rows ≡ drop k (recorded_of rs taken states stand rows)
gone_recorded k rs taken states stand rows complete =
    let told = entries_in rs in
    let le : k ≤ length rs = subst (λ n. k ≤ n) (length-map rs (λ r. r.entry)) complete.0 in
    ap (λ ns. records_with (ns ++ map indentation rows) (if_wanted states (entries_with_rest (entries_in (drop k rs)) (taken + k) stand rows))) (sym (drop-map (λ (r : RecordValue). r.indentation) k rs))
    ∙ ap (λ es. records_with (drop k (indentations_in rs) ++ map indentation rows) (if_wanted states (entries_with_rest es (taken + k) stand rows))) (sym (drop-map (λ (r : RecordValue). r.entry) k rs))
    ∙ ap (λ ns. records_with ns (if_wanted states (entries_with_rest (drop k told) (taken + k) stand rows))) (sym (drop-append-le k (indentations_in rs) (map indentation rows) (subst (λ n. k ≤ n) (sym (length-map rs (λ r. r.indentation))) le)))
    ∙ ap (λ es. records_with (drop k (indentations_in rs ++ map indentation rows)) (if_wanted states es)) (sym (rest_dropped k told taken stand rows complete))
    ∙ ap (records_with (drop k (indentations_in rs ++ map indentation rows))) (sym (if_wanted_dropped k states (entries_with_rest told taken stand rows)))
    ∙ sym (drop_records k (indentations_in rs ++ map indentation rows) (if_wanted states (entries_with_rest told taken stand rows)))

-- all but the last row are complete, if that is sound
pub sound_complete : (rs : List RecordValue) (taken : ℕ) (states : Bool) (stand : PhaseValue) → IsRecording (entries_in rs) taken states stand → IsSome (state_in (slice_get rs (length rs - 1))) → AreComplete (length rs - 1) (entries_in rs) taken stand
sound_complete rs taken states stand r sound = (omega (arith, same), λ b is. by_order b (r.open_since b is) (cases_lt b (taken + (length rs - 1))))
  where
    same : length (entries_in rs) ≡ length rs
    same = length-map rs (λ r. r.entry)

    by_order : (b : ℕ) → IsOpenSince (entries_in rs) taken b → (b < taken + (length rs - 1)) ⊎ (taken + (length rs - 1) ≤ b) → taken + (length rs - 1) ≤ b
    by_order b since (inr le) = le
    by_order b since (inl lt) =
        let least = since.least in
        let none = inside_at (suc (b - taken)) (length rs - 1) rs since.inside (omega (arith, lt, least)) in
        let no : IsSome {T = LineStateValue} None = subst IsSome none sound in
        cc

-- ---- where a recorder begins

pub start_recorded : (v : RecorderValue) (states : Bool) (stand : PhaseValue) → v ≡ record { records = []; taken = 0; stand = stand; states = states; refused = false } → stand ≡ Fresh true no_surroundings
    → (rows : List (List ℕ)) → recorded v rows ≡ records_with (map indentation rows) (if_wanted states (entries rows))
start_recorded v states stand at fresh rows =
    ap (λ (r : RecorderValue). recorded r rows) at
    ∙ ap (λ s. records_with (map indentation rows) (if_wanted states (entries_with_rest [] 0 s rows))) fresh
    ∙ ap (λ es. records_with (map indentation rows) (if_wanted states es)) (run-entries rows)

from_phase : (state : LineStateValue) (rows : List (List ℕ)) → entries_with_rest [] 0 (phase_at state) rows ≡ from_state state rows
from_phase Stopped rows = refl
from_phase (Stands levels brackets last) rows = refl

pub resumed_recorded : (v : RecorderValue) (state : LineStateValue) → v ≡ record { records = []; taken = 0; stand = phase_at state; states = true; refused = false }
    → (rows : List (List ℕ)) → recorded v rows ≡ records_from state rows
resumed_recorded v state at rows = ap (λ (r : RecorderValue). recorded r rows) at ∙ ap (records_with (map indentation rows)) (from_phase state rows)
