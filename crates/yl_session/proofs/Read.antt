-- Rows that are recorded one after another, and records that move on from a sound row.
use Rattle.std.proofs.Common.{◌≡◌, ℕ, ◌+◌, ◌-◌, ◌<◌, ◌≤◌, true, false, List, [], ◌∷◌, ◌++◌, length, take, drop, Option, Some, None, refl, ap, sym, ◌∙◌, subst, arith, rules}
use Rattle.std.specs.Prelude.{slice_get}
use Rattle.std.specs.Str.{chars}
use Rattle.std.proofs.lemmas.List.{same_lists, places, length-take-le, take-append-drop}
use Rattle.std.proofs.Math.ListN.{drop_of_length-le}
use Rattle.yl_text.specs.Lines.{RowValue}
use Rattle.yl_lexeme.specs.Known.{no_surroundings}
use Rattle.yl_row.specs.Entries.{LineStateValue}
use Rattle.yl_scan.specs.Remaining.{Fresh}
use Rattle.yl_scan.specs.Resume.{phase_at}
use Rattle.yl_record.specs.Records.{RecordValue, characters_in, records}
use Rattle.yl_record.specs.Recorded.{records_from}
use Rattle.yl_record.specs.Recorded.{RecorderValue, recorded}
use Rattle.yl_record.specs.Recorder.{state_in}
use Rattle.yl_rescan.specs.Agree.{state_of_row}
use Rattle.yl_rescan.proofs.Rows.{records_length}
use Rattle.yl_rescan.proofs.Scans.{begins_told, characters_length, cut_told, state_told, told_next}
use Rattle.yl_lint.specs.TextReport.{records_of}
use Rattle.yl_session.specs.Reading.{IsReadTo}

-- ---- lists

two_parts : {X : Type 0} (xs : List X) (m i : ℕ) → m ≤ i → take m xs ++ take (i - m) (drop m xs) ≡ take i xs
two_parts xs m i l = same_lists _ _ (search (rules, places)) (λ k d h. grind (arith, places))

-- ---- rows

pub nothing_read : (rows : List RowValue) (items : List RecordValue) (r : RecorderValue) → items ≡ []
    → r ≡ record { records = []; taken = 0; stand = Fresh true no_surroundings; states = true; refused = false } → ((qs : List (List ℕ)) → recorded r qs ≡ records qs)
    → IsReadTo rows 0 items r
nothing_read rows items r none at told =
    subst (λ (rs : List RecordValue). IsReadTo rows 0 rs r) (sym none)
    (record {
      front = refl;
      told = told (characters_in rows);
      fed = let empty = ap (λ (v : RecorderValue). length v.records) at in omega (arith, empty);
      none = ap (λ (v : RecorderValue). v.taken) at;
      states = ap (λ (v : RecorderValue). v.states) at;
      whole = ap (λ (v : RecorderValue). v.refused) at;
    })

-- a row more was fed
pub row_fed : (rows : List RowValue) (i : ℕ) (items : List RecordValue) (r r' : RecorderValue) (row : RowValue) (text : List ℕ) → IsReadTo rows i items r
    → slice_get rows i ≡ Some row → text ≡ row.text → ((rest : List (List ℕ)) → recorded r' rest ≡ recorded r (chars text ∷ rest))
    → length r'.records ≡ length r.records + 1 → r'.taken ≡ r.taken → r'.states ≡ r.states → r'.refused ≡ false → IsReadTo rows (i + 1) items r'
row_fed rows i items r r' row text h at is told count taken states whole = record {
  front = h.front;
  told = told_next (recorded r) (recorded r') rows i row text (drop (length items) (records_of rows)) at is told h.told;
  fed = let fed = h.fed in omega (arith, fed, count);
  none = taken ∙ h.none;
  states = states ∙ h.states;
  whole = whole;
}

some_record : (rs : List RecordValue) (s : LineStateValue) → state_in (slice_get rs (length rs - 1)) ≡ Some s → 0 < length rs
some_record [] s h = absurd (cc)
some_record (r ∷ rs) s h = omega arith

same_state : (s t : LineStateValue) → ◌≡◌ {A = Option LineStateValue} (Some s) (Some t) → s ≡ t
same_state s t h = cc

no_state : (s : LineStateValue) → ◌≡◌ {A = Option LineStateValue} (Some s) None → ⊥
no_state s h = cc

-- the records above row i, which is sound, moved, and a recorder stands before it
pub moved_to : (rows : List RowValue) (i : ℕ) (items above items' : List RecordValue) (r fresh : RecorderValue) (s : LineStateValue) → i < length rows → IsReadTo rows (i + 1) items r
    → Some s ≡ state_in (slice_get r.records (length r.records - 1))
    → fresh ≡ record { records = []; taken = 0; stand = phase_at s; states = true; refused = false } → ((qs : List (List ℕ)) → recorded fresh qs ≡ records_from s qs)
    → ((qs : List (List ℕ)) → above ≡ take (length r.records - 1) (recorded r qs)) → items' ≡ items ++ above
    → IsReadTo rows i items' fresh
moved_to rows i items above items' r fresh s within h sound at resume cut put =
    let total = records_of rows in
    let m = length items in
    let fed = h.fed in
    let some = some_record r.records s (sym sound) in
    let least : m ≤ i = omega (arith, fed, some) in
    let count : length r.records ≡ i - m + 1 = omega (arith, fed, some) in
    let rest = characters_in (drop (i + 1) rows) in
    let state : Some s ≡ state_of_row total i = state_told r rest total m i (Some s) least h.states count h.told sound in
    let above_is : above ≡ take (i - m) (drop m total) = cut_told r rest above total m i count h.told cut in
    let front : items' ≡ take i total =
    put ∙ (ap (λ (xs : List RecordValue). items ++ xs) above_is ∙ (ap (λ (xs : List RecordValue). xs ++ take (i - m) (drop m total)) h.front ∙ two_parts total m i least)) in
    let rows_of : length total ≡ length rows = records_length (characters_in rows) ∙ characters_length rows in
    let len : length items' ≡ i = ap (λ (xs : List RecordValue). length xs) front ∙ length-take-le i total (omega (arith, rows_of, within)) in
    let told : recorded fresh (characters_in (drop i rows)) ≡ drop i total =
    begins_told rows (recorded fresh) i (Some s) (sym state) (λ e. absurd (no_state s e)) (λ t e qs. resume qs ∙ ap (λ (u : LineStateValue). records_from u qs) (same_state s t e)) in
    record {
      front = front ∙ ap (λ n. take n total) (sym len);
      told = told ∙ ap (λ n. drop n total) (sym len);
      fed = let empty = ap (λ (v : RecorderValue). length v.records) at in omega (arith, len, empty);
      none = ap (λ (v : RecorderValue). v.taken) at;
      states = ap (λ (v : RecorderValue). v.states) at;
      whole = ap (λ (v : RecorderValue). v.refused) at;
    }

-- all rows were read
pub all_read : (rows : List RowValue) (i : ℕ) (items last all : List RecordValue) (r : RecorderValue) → IsReadTo rows i items r → i ≡ length rows → last ≡ recorded r []
    → all ≡ items ++ last → all ≡ records_of rows
all_read rows i items last all r h ended is put =
    let total = records_of rows in
    let n = length items in
    let behind : last ≡ drop n total =
    is ∙ (ap (λ (qs : List RowValue). recorded r (characters_in qs)) (sym (drop_of_length-le rows {i = i} (omega (arith, ended)))) ∙ h.told) in
    put ∙ (ap (λ (xs : List RecordValue). items ++ xs) behind ∙ (ap (λ (xs : List RecordValue). xs ++ drop n total) h.front ∙ take-append-drop n total))
