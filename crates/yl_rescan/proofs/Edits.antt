-- What an edit keeps of a text's records, where scanning begins again, and where it ends at the latest.
use Rattle.std.proofs.Common.{◌≡◌, ℕ, ◌+◌, ◌-◌, ◌<◌, ◌≤◌, ◌⊎◌, ◌^◌, Bool, true, false, List, [], ◌∷◌, ◌++◌, length, map, take, drop, Option, Some, None, refl, ap, sym, ◌∙◌, subst, arith, rules, inl, inr}
use Rattle.std.specs.Prelude.{IsSome}
use Rattle.std.specs.List.{splice}
use Rattle.std.specs.Str.{chars}
use Rattle.std.proofs.lemmas.List.{same_lists, places, length-map, map-append, drop-map, take-map}
use Rattle.std.proofs.lemmas.Bool.{cases_lt}
use Rattle.yl_text.specs.Lines.{RowValue}
use Rattle.yl_text.specs.Store.{AreLines, IsRange}
use Rattle.yl_text.proofs.Fitting.{lines_are_few}
use Rattle.yl_row.specs.Entries.{LineStateValue, entries}
use Rattle.yl_scan.specs.Restart.{state_at}
use Rattle.yl_scan.proofs.States.{states_told}
use Rattle.yl_scan.proofs.Restarts.{prefix, shift}
use Rattle.yl_record.specs.Records.{characters_in, records}
use Rattle.yl_rescan.specs.Agree.{agree, agrees, state_of_row, BeginsAt, BeginsBelow}
use Rattle.yl_rescan.specs.Rescan.{IsAgreement, IsRestart, IsStop}
use Rattle.yl_rescan.proofs.Rows.{records_state, same_back, same_front}
use Rattle.yl_rescan.proofs.Search.{FirstFrom, LastAbove, first_from, last_above}

-- ---- lists

front_kept : {X : Type 0} (xs ns : List X) (a b i : ℕ) → i ≤ a → a ≤ length xs → take i xs ≡ take i (splice xs a b ns)
front_kept xs ns a b i o l = same_lists _ _ (search (rules, places)) (λ k d h. grind (arith, places))

back_kept : {X : Type 0} (xs ns : List X) (a b j : ℕ) → a ≤ b → b ≤ length xs → a + length ns ≤ j → drop (j - (a + length ns) + b) xs ≡ drop j (splice xs a b ns)
back_kept xs ns a b j o l s = same_lists _ _ (search (rules, places)) (λ k d h. grind (arith, places))

pub length-spliced : {X : Type 0} (xs ns : List X) (a b : ℕ) → a ≤ b → b ≤ length xs → length (splice xs a b ns) ≡ a + length ns + (length xs - b)
length-spliced xs ns a b o l = search (rules, places)

pub characters_spliced : (ps ns : List RowValue) (a b : ℕ) → characters_in (splice ps a b ns) ≡ splice (characters_in ps) a b (characters_in ns)
characters_spliced ps ns a b =
    let f = λ (row : RowValue). chars row.text in
    map-append f (take a ps) (ns ++ drop b ps)
    ∙ (ap (λ (xs : List (List ℕ)). xs ++ map f (ns ++ drop b ps)) (sym (take-map f a ps))
    ∙ (ap (λ (xs : List (List ℕ)). take a (map f ps) ++ xs) (map-append f ns (drop b ps))
    ∙ ap (λ (xs : List (List ℕ)). take a (map f ps) ++ (map f ns ++ xs)) (sym (drop-map f b ps))))

-- ---- states

pub both_agree : (o p : Option LineStateValue) → agree o p ≡ true → (s : LineStateValue) × (o ≡ Some s) × (p ≡ Some s)
both_agree (Some s) (Some t) h = (t, ap (λ (u : LineStateValue). Some u) ((states_told s t).0 h), refl)
both_agree (Some s) None h = absurd (cc)
both_agree None p h = absurd (cc)

agree_same : (o p : Option LineStateValue) (s : LineStateValue) → o ≡ Some s → p ≡ Some s → agree o p ≡ true
agree_same o p s h k = ap (λ (x : Option LineStateValue). agree x p) h ∙ (ap (λ (x : Option LineStateValue). agree (Some s) x) k ∙ (states_told s s).1 refl)

pub is_some_of : (o : Option LineStateValue) (s : LineStateValue) → o ≡ Some s → IsSome o
is_some_of o s h = subst IsSome (sym h) refl

differ : (t : Bool) → t ≡ true → t ≡ false → ⊥
differ t x y = cc

-- ---- an edit of a text of the rows ps, which puts the rows ns in place of those from a on, before b

module _ (ps ns : List (List ℕ)) (a b : ℕ) (ordered : a ≤ b) (within : b ≤ length ps) where
  abbrev new : List (List ℕ)
  new = splice ps a b ns

  abbrev stop : ℕ
  stop = a + length ns

  pub grown : length new ≡ a + length ns + (length ps - b)
  grown = length-spliced ps ns a b ordered within

  -- a row before the edit
  pub rows_above : (k : ℕ) → k ≤ a → take k ps ≡ take k new
  rows_above k l = front_kept ps ns a b k l (omega (arith, ordered, within))

  before : (k : ℕ) → k < a → (state_of_row (records ps) k ≡ state_of_row (records new) k) × ((s : LineStateValue) → state_of_row (records ps) k ≡ Some s → take k (records ps) ≡ take k (records new))
  before k l =
      let p = prefix ps new k (rows_above (k + 1) (omega (arith, l))) in (
        records_state ps k ∙ (p.0 ∙ sym (records_state new k)),
        λ s h. same_front ps new k (rows_above k (omega (arith, l))) (p.1 (is_some_of (state_at (entries ps) k) s (sym (records_state ps k) ∙ h))),
      )

  pub state_above : (k : ℕ) → k < a → state_of_row (records ps) k ≡ state_of_row (records new) k
  state_above k l = (before k l).0

  pub records_above : (k : ℕ) (s : LineStateValue) → k < a → state_of_row (records ps) k ≡ Some s → take k (records ps) ≡ take k (records new)
  records_above k s l h = (before k l).1 s h

  -- where scanning begins again
  pub begins_again : (row : ℕ) (state : Option LineStateValue) → BeginsBelow (records ps) a row state → BeginsAt (records new) row state
  begins_again row None h = h
  begins_again row (Some s) h = sym (before row h.0).0 ∙ h.1

  pub front_again : (row : ℕ) (state : Option LineStateValue) → BeginsBelow (records ps) a row state → take row (records ps) ≡ take row (records new)
  front_again row None h = rw h refl
  front_again row (Some s) h = (before row h.0).1 s h.1

  pub row_before : (row : ℕ) (state : Option LineStateValue) → BeginsBelow (records ps) a row state → row ≤ a
  row_before row None h = omega (arith, h)
  row_before row (Some s) h = omega (arith, h.0)

  pub restart_place : (row : ℕ) (state : Option LineStateValue) → BeginsBelow (records ps) a row state → (row ≡ 0) ⊎ ((row < a) × IsSome (state_at (entries new) row))
  restart_place row None h = inl h
  restart_place row (Some s) h = inr (h.0, is_some_of (state_at (entries new) row) s (sym (records_state new row) ∙ (sym (before row h.0).0 ∙ h.1)))

  pub restarted : (row : ℕ) (state : Option LineStateValue) → BeginsBelow (records ps) a row state → ((j : ℕ) → row < j → j < a → state_of_row (records ps) j ≡ None) → IsRestart new a row
  restarted row state h none = record {
    place = restart_place row state h;
    greatest = λ j l m. sym (records_state new j) ∙ (sym (before j m).0 ∙ none j l m);
  }

  -- there is a last sound row above the edit, at a sound row above it or below that
  pub restart_found : (c : ℕ) → c < a → IsSome (state_at (entries new) c) → LastAbove (λ j. state_at (entries new) j) c a
  restart_found c l some = last_above (λ j. state_at (entries new) j) c a l some

  pub is_restart : (c : ℕ) (found : LastAbove (λ j. state_at (entries new) j) c a) → IsRestart new a found.place
  is_restart c found = record { place = inr (found.is.above, found.is.some); greatest = found.is.none }

  -- rows that agree
  pub agreement : (m : ℕ) → agrees (records ps) (records new) stop b m ≡ true → IsAgreement ps new stop b m
  agreement m h =
      let i = m - stop + b in
      let s = both_agree (state_of_row (records ps) i) (state_of_row (records new) m) h in
      record { state = s.0; before = sym (records_state ps i) ∙ s.1; after = sym (records_state new m) ∙ s.2 }

  pub no_agreement : (m : ℕ) → agrees (records ps) (records new) stop b m ≡ false → IsAgreement ps new stop b m → ⊥
  no_agreement m h s =
      let i = m - stop + b in
      differ _ (agree_same (state_of_row (records ps) i) (state_of_row (records new) m) s.state (records_state ps i ∙ s.before) (records_state new m ∙ s.after)) h

  -- the rows behind the edit
  pub rows_behind : (j : ℕ) → stop ≤ j → drop (j - stop + b) ps ≡ drop j new
  rows_behind j o = back_kept ps ns a b j ordered within o

  -- from rows on that agree, the records are the same
  pub same_behind : (j : ℕ) (s : LineStateValue) → stop ≤ j → state_of_row (records ps) (j - stop + b) ≡ Some s → state_of_row (records new) j ≡ Some s → drop (j - stop + b) (records ps) ≡ drop j (records new)
  same_behind j s o p q =
      let i = j - stop + b in
      same_back ps new i j (rows_behind j o) (shift ps new i j s (sym (records_state ps i) ∙ p) (sym (records_state new j) ∙ q) (rows_behind j o)).same

  -- where no row from `stop` on down to row j agrees, the first that does is row j or one below it
  agrees_at : (m : ℕ) → stop ≤ m → (agrees (records ps) (records new) stop b m ≡ true) ⊎ (m ≡ length new - 1) → 0 < length new → ((stop ≤ m) × IsAgreement ps new stop b m) ⊎ (m + 1 ≡ length new)
  agrees_at m o (inl h) some = inl (o, agreement m h)
  agrees_at m o (inr e) some = inr (omega (arith, e, some))

  pub stop_found : (j : ℕ) → stop ≤ j → j < length new → FirstFrom (λ i. agrees (records ps) (records new) stop b i) j (length new - 1)
  stop_found j o l = first_from (λ i. agrees (records ps) (records new) stop b i) (length new - 1 - j) j (length new - 1) (omega (arith, l))

  pub is_stop : (j : ℕ) → stop ≤ j → j < length new → ((i : ℕ) → stop ≤ i → i < j → IsAgreement ps new stop b i → ⊥)
      → (found : FirstFrom (λ i. agrees (records ps) (records new) stop b i) j (length new - 1)) → IsStop ps new stop b found.place
  is_stop j o l none found = record {
    place = let m = found.from in agrees_at found.place (omega (arith, o, m)) found.holds (omega (arith, l));
    least = λ i k m. elim (cases_lt i j) [
      | inl n ↦ none i k n
      | inr n ↦ no_agreement i (found.first i n m)
    ];
  }

  -- or it is the last row
  pub stop_at_end : (j : ℕ) → j + 1 ≡ length new → ((i : ℕ) → stop ≤ i → i < j → IsAgreement ps new stop b i → ⊥) → IsStop ps new stop b j
  stop_at_end j e none = record { place = inr e; least = none }

-- ---- the rows of stores

pub some_lines : (ps : List RowValue) → AreLines ps → 0 < length ps
some_lines [] h = absurd h.lines.ended
some_lines (p ∷ ps) h = omega arith

-- there are as many characters as rows
pub characters_length : (rows : List RowValue) → length (characters_in rows) ≡ length rows
characters_length rows = length-map rows (λ (row : RowValue). chars row.text)

-- the limits
pub few_rows : (ps ns : List RowValue) (a b : ℕ) → IsRange a b (length ps) → AreLines ps → AreLines (splice ps a b ns)
    → (length ps < 2 ^ 32 - 1) × (length ns < 2 ^ 32 - 1) × (length (splice ps a b ns) < 2 ^ 32 - 1) × (a + length ns ≤ length (splice ps a b ns))
few_rows ps ns a b range h k =
    let n = lines_are_few (splice ps a b ns) k in
    let l = length-spliced ps ns a b range.ordered range.within in
    (lines_are_few ps h, omega (arith, n, l), n, omega (arith, l))
