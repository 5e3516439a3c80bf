-- What becomes of the records that are kept, by why scanning ended.
use Rattle.std.proofs.Common.{◌≡◌, ℕ, ◌+◌, ◌-◌, ◌<◌, ◌≤◌, inl, inr, Bool, true, false, List, [], ◌++◌, length, take, drop, Option, Some, None, refl, ap, sym, ◌∙◌, arith, rules}
use Rattle.std.specs.List.{AllByRecursion, splice}
use Rattle.std.proofs.lemmas.Bool.{cases_lt}
use Rattle.std.proofs.lemmas.List.{same_lists, places}
use Rattle.std.proofs.Math.ListN.{drop_of_length-le}
use Rattle.yl_lexeme.specs.declared.lexeme.Kind.{Kind}
use Rattle.yl_row.specs.Entries.{LineStateValue, Stopped, Stands}
use Rattle.yl_record.specs.Records.{RecordValue, records}
use Rattle.yl_record.specs.Recorded.{records_from}
use Rattle.yl_sections.specs.Last.{HasNoLexeme}
use Rattle.yl_sections.specs.Local.{begins_section, is_start_at, kind_after}
use Rattle.yl_sections.proofs.Last.{last_kept, stopped_empty}
use Rattle.yl_sections.specs.Alike.{GoOnAlike}
use Rattle.yl_sections.proofs.SectionStarts.{from_row, quiet, starts_past}
use Rattle.yl_rescan.specs.Agree.{state_of_row}
use Rattle.yl_rescan.specs.Held.{IsCutAt, last_in}
use Rattle.yl_rescan.proofs.Edits.{rows_behind, same_behind}
use Rattle.yl_rescan.proofs.Held.{cut_here, cut_moved, made_behind, made_beyond, made_front, made_whole, true_front, true_state}
use Rattle.yl_rescan.proofs.Passed.{kind_passed}
use Rattle.yl_rescan.proofs.Rows.{records_state, sound_behind, state_behind}
use Rattle.yl_rescan.proofs.Starts.{by_kind, by_start, none_among}

differ : (t : Bool) → t ≡ true → t ≡ false → ⊥
differ t x y = cc

-- the kind of the last lexeme above a row that stands so
kind_at : (t : List (List ℕ)) (i : ℕ) (levels : List ℕ) (brackets : List Kind) (last : Option Kind) → state_of_row (records t) i ≡ Some (Stands levels brackets last) → kind_after None (take i (records t)) ≡ last
kind_at t i levels brackets last h = last_kept t i levels brackets last (sym (records_state t i) ∙ h)

-- at a row at which reading has stopped there is no lexeme
none_at : (t : List (List ℕ)) (i : ℕ) → state_of_row (records t) i ≡ Some Stopped → AllByRecursion HasNoLexeme (drop i (records t))
none_at t i h = stopped_empty t i (sym (records_state t i) ∙ h)

quiet_from : (t : List (List ℕ)) (j e : ℕ) → state_of_row (records t) j ≡ Some Stopped → is_start_at (records t) (j + e) ≡ false
quiet_from t j e h = from_row None (records t) j e ∙ quiet (kind_after None (take j (records t))) (drop j (records t)) e (none_at t j h)

-- sections begin alike where nothing is left
pub nothing_left : (old made : List RecordValue) (i j : ℕ) → length made ≤ j → GoOnAlike old made i j
nothing_left old made i j l e h = let f = starts_past None made (j + e) (omega (arith, l)) in absurd (differ _ h f)

-- ---- an edit of the text ps of which es is kept, and its new records down to row `end`

module _ (ps ns : List (List ℕ)) (a b : ℕ) (ordered : a ≤ b) (within : b ≤ length ps) (es items : List RecordValue) (row end : ℕ)
    (front : take row es ≡ take row (records (splice ps a b ns))) (told : items ≡ take (end - row) (drop row (records (splice ps a b ns)))) (low : row ≤ end) (high : end ≤ length (records (splice ps a b ns)))
    (from : a + length ns ≤ end) where
  abbrev new : List (List ℕ)
  new = splice ps a b ns

  abbrev all : List RecordValue
  all = records new

  -- the old row at the end
  abbrev at : ℕ
  at = end - (a + length ns) + b

  abbrev made : List RecordValue
  made = splice es row at items

  pub behind : drop end made ≡ drop at es
  behind = made_behind es all items row at end front told low high end (omega arith) ∙ ap (λ n. drop n es) (omega arith)

  kinds_made : kind_after None (take end made) ≡ kind_after None (take end all)
  kinds_made = ap (λ (rs : List RecordValue). kind_after None rs) (made_front es all items row at end front told low high end (omega arith))

  -- ---- they agree, and the old records are the old text's

  pub whole_agreed : es ≡ records ps → (s : LineStateValue) → state_of_row es at ≡ Some s → state_of_row all end ≡ Some s → made ≡ all
  whole_agreed is s x y =
      made_whole es all items row at end front told low high
      (ap (λ (rs : List RecordValue). drop at rs) is ∙ same_behind ps ns a b ordered within end s from (ap (λ (rs : List RecordValue). state_of_row rs at) (sym is) ∙ x) y)

  -- where the kinds are the same, or nothing is read any more
  pub alike_by : (s : LineStateValue) → made ≡ all → take at es ≡ take at (records ps) → state_of_row (records ps) at ≡ Some s → state_of_row all end ≡ Some s → GoOnAlike es made at end
  alike_by Stopped is upto x y e h = absurd (differ _ (ap (λ (rs : List RecordValue). is_start_at rs (end + e)) (sym is) ∙ h) (quiet_from new end e y))
  alike_by (Stands levels brackets last) is upto x y e h =
      sym (by_kind es made at end e
      (ap (λ (rs : List RecordValue). kind_after None rs) upto ∙ (kind_at ps at levels brackets last x ∙ (sym (kind_at new end levels brackets last y) ∙ sym kinds_made))) (sym behind))
      ∙ h

  -- ---- they agree at the row at which the old records are cut

  pub whole_cut : IsCutAt ps at es → (s : LineStateValue) → state_of_row es at ≡ Some s → state_of_row all end ≡ Some s → made ≡ all
  whole_cut h s x y =
      let same : h.state ≡ s = let e = sym h.sound ∙ x in cc in
      made_whole es all items row at end front told low high
      (h.behind
      ∙ (ap (λ (z : LineStateValue). records_from z (drop at ps)) same
      ∙ (ap (λ (qs : List (List ℕ)). records_from s qs) (rows_behind ps ns a b ordered within end from) ∙ sym (sound_behind new end s y))))

  pub alike_cut : IsCutAt ps at es → (s : LineStateValue) → state_of_row es at ≡ Some s → state_of_row all end ≡ Some s → made ≡ all → GoOnAlike es made at end
  alike_cut h Stopped x y is e b = absurd (differ _ (ap (λ (rs : List RecordValue). is_start_at rs (end + e)) (sym is) ∙ b) (quiet_from new end e y))
  alike_cut h (Stands levels brackets last) x y is e b =
      let same : h.state ≡ Stands levels brackets last = let f = sym h.sound ∙ x in cc in
      let start : is_start_at made end ≡ true =
      ap (λ (k : Option Kind). begins_section k (drop end made)) (kinds_made ∙ (kind_at new end levels brackets last y ∙ sym (ap last_in same)))
      ∙ (ap (λ (rs : List RecordValue). begins_section (last_in h.state) rs) behind ∙ h.begins) in
      by_start es made at end e (sym behind) h.start start b

  -- ---- they agree above it

  module _ (n : ℕ) (h : IsCutAt ps n es) (above : at < n) (s : LineStateValue) (x : state_of_row es at ≡ Some s) (y : state_of_row all end ≡ Some s) where
    abbrev c : ℕ
    c = n - at + end

    true_at : state_of_row (records ps) at ≡ Some s
    true_at = sym (true_state ps (Some n) es at h above) ∙ x

    same : drop at (records ps) ≡ drop end all
    same = same_behind ps ns a b ordered within end s from true_at y

    upto : take at es ≡ take at (records ps)
    upto = true_front ps (Some n) es at h (omega (arith, above))

    made_upto : take c made ≡ take c all
    made_upto = made_beyond es all items row at end front told low high (records ps) n (omega (arith, above)) h.front same

    stopped : state_of_row all c ≡ Some Stopped
    stopped =
        let k : c - end ≡ n - at = omega arith in
        sym (state_behind all end c (omega arith))
        ∙ (ap (λ (rs : List RecordValue). state_of_row rs (c - end)) (sym same)
        ∙ (ap (λ m. state_of_row (drop at (records ps)) m) k ∙ (state_behind (records ps) at n (omega (arith, above)) ∙ h.stopped)))

    made_back : drop c made ≡ drop n es
    made_back = made_behind es all items row at end front told low high c (omega arith) ∙ ap (λ m. drop m es) (omega (arith, above))

    rows_back : drop n ps ≡ drop c new
    rows_back =
        let m : c - (a + length ns) + b ≡ n = omega (arith, above, from) in
        ap (λ k. drop k ps) (sym m) ∙ rows_behind ps ns a b ordered within c (omega (arith, from))

    pub cut_on : is_start_at made c ≡ true → IsCutAt new c made
    cut_on start = cut_moved ps new es made n c h rows_back stopped made_upto made_back start

    -- where reading has stopped above the edit in both texts, one does
    pub start_under : state_of_row (records ps) row ≡ Some Stopped → state_of_row all row ≡ Some Stopped → row ≤ n → is_start_at made c ≡ true
    start_under x' y' o =
        let kinds : kind_after None (take c made) ≡ kind_after None (take n es) =
        ap (λ (rs : List RecordValue). kind_after None rs) made_upto
        ∙ (kind_passed new row y' row c (omega arith) (omega (arith, low))
        ∙ (ap (λ (rs : List RecordValue). kind_after None rs) (sym front ∙ true_front ps (Some n) es row h o)
        ∙ (sym (kind_passed ps row x' row n (omega arith) o) ∙ ap (λ (rs : List RecordValue). kind_after None rs) (sym h.front)))) in
        ap (λ (k : Option Kind). begins_section k (drop c made)) kinds ∙ (ap (λ (rs : List RecordValue). begins_section (kind_after None (take n es)) rs) made_back ∙ h.start)

    -- if the kinds are the same, a section begins there
    start_by : (z : LineStateValue) → z ≡ s → (z ≡ Stopped → ⊥) → is_start_at made c ≡ true
    start_by Stopped is not = absurd (not refl)
    start_by (Stands levels brackets last) is not =
        let kinds : kind_after None (take at es) ≡ kind_after None (take end made) =
        ap (λ (rs : List RecordValue). kind_after None rs) upto
        ∙ (kind_at ps at levels brackets last (true_at ∙ ap (λ z. Some z) (sym is)) ∙ (sym (kind_at new end levels brackets last (y ∙ ap (λ z. Some z) (sym is))) ∙ sym kinds_made)) in
        let i : end + (n - at) ≡ c = omega arith in
        let j : at + (n - at) ≡ n = omega (arith, above) in
        ap (λ k. is_start_at made k) (sym i) ∙ (by_kind es made at end (n - at) kinds (sym behind) ∙ (ap (λ k. is_start_at es k) j ∙ h.start))

    pub not_kept : (is_start_at made c ≡ true → ⊥) → s ≡ Stopped
    not_kept refused = stopped_or_not s refl where
      stopped_or_not : (z : LineStateValue) → z ≡ s → s ≡ Stopped
      stopped_or_not Stopped is = sym is
      stopped_or_not (Stands levels brackets last) is = absurd (refused (start_by (Stands levels brackets last) is (λ e. absurd (cc))))

    alike_on : (z : LineStateValue) → z ≡ s → is_start_at made c ≡ true → GoOnAlike es made at end
    alike_on (Stands levels brackets last) is start e b =
        let kinds : kind_after None (take at es) ≡ kind_after None (take end made) =
        ap (λ (rs : List RecordValue). kind_after None rs) upto
        ∙ (kind_at ps at levels brackets last (true_at ∙ ap (λ z. Some z) (sym is)) ∙ (sym (kind_at new end levels brackets last (y ∙ ap (λ z. Some z) (sym is))) ∙ sym kinds_made)) in
        sym (by_kind es made at end e kinds (sym behind)) ∙ b
    alike_on Stopped is start e b = elim (cases_lt (end + e) c) [
      | inl l ↦ absurd (differ _ b (none_among made all c end (end + e) made_upto (none_at new end (y ∙ ap (λ z. Some z) (sym is))) (omega arith) l))
      | inr l ↦
          let i : c + (e - (n - at)) ≡ end + e = omega (arith, l) in
          let j : n + (e - (n - at)) ≡ at + e = omega (arith, l, above) in
          ap (λ k. is_start_at es k) (sym j) ∙ by_start es made n c (e - (n - at)) (sym made_back) h.start start (ap (λ k. is_start_at made k) i ∙ b)
    ]

    pub alike_above : is_start_at made c ≡ true → GoOnAlike es made at end
    alike_above start = alike_on s refl start

  -- ---- reading has stopped, and the old records are the old text's

  pub cut_there : es ≡ records ps → (s : LineStateValue) → state_of_row es at ≡ Some s → is_start_at es at ≡ true → state_of_row all end ≡ Some Stopped → is_start_at made end ≡ true → IsCutAt new end made
  cut_there is s x start y begins =
      cut_here ps new made at end s (ap (λ (rs : List RecordValue). state_of_row rs at) (sym is) ∙ x) (ap (λ (rs : List RecordValue). is_start_at rs at) (sym is) ∙ start)
      (rows_behind ps ns a b ordered within end from) y (made_front es all items row at end front told low high end (omega arith))
      (behind ∙ ap (λ (rs : List RecordValue). drop at rs) is) begins

  pub alike_there : is_start_at es at ≡ true → is_start_at made end ≡ true → GoOnAlike es made at end
  alike_there start begins e b = by_start es made at end e (sym behind) start begins b
