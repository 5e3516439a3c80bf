-- What becomes of the records that are kept where rows are passed behind the new ones.
use Rattle.std.proofs.Common.{◌≡◌, ℕ, ◌+◌, ◌-◌, ◌<◌, ◌≤◌, ◌⊎◌, inl, inr, Bool, true, false, List, [], ◌∷◌, ◌++◌, length, take, drop, Option, Some, None, refl, ap, sym, ◌∙◌, subst, arith}
use Rattle.std.specs.Prelude.{IsSome, IfSome, slice_get}
use Rattle.std.specs.List.{splice}
use Rattle.std.proofs.Math.ListN.{drop_of_length-le}
use Rattle.std.proofs.lemmas.List.{length-drop, length-take}
use Rattle.yl_text.specs.Store.{IsRange}
use Rattle.yl_text.specs.Character.{is_blank}
use Rattle.yl_lexeme.specs.declared.lexeme.Kind.{Kind}
use Rattle.yl_row.specs.Entries.{LineStateValue, Stopped}
use Rattle.yl_record.specs.Records.{RecordValue, records}
use Rattle.yl_record.specs.Recorded.{records_from}
use Rattle.yl_sections.specs.Local.{begins_section, is_start_at, kind_after}
use Rattle.yl_sections.specs.Alike.{GoOnAlike}
use Rattle.yl_sections.specs.Holding.{TakesNothing}
use Rattle.yl_rescan.specs.Agree.{StopsPassed, state_of_row}
use Rattle.yl_rescan.specs.Held.{AreHeld, IsCutAt, last_in}
use Rattle.yl_rescan.specs.Made.{HoldsEdit, WasRescanned}
use Rattle.yl_rescan.specs.Rescan.{IsRescan}
use Rattle.yl_rescan.proofs.Edits.{grown, length-spliced, rows_behind}
use Rattle.yl_rescan.proofs.Held.{held_length, made_behind, made_front, made_whole, state_there}
use Rattle.yl_rescan.proofs.Outcomes.{nothing_left}
use Rattle.yl_rescan.proofs.Passed.{Continues, continues, got_behind, kind_passed, passed_told, row_there, stopped_row}
use Rattle.yl_rescan.proofs.Rows.{records_length, state_first}
use Rattle.yl_rescan.proofs.Starts.{by_start}

some_of : {X : Type 0} (o : Option X) → IsSome o → (x : X) × (o ≡ Some x)
some_of None h = absurd (cc)
some_of (Some x) h = (x, refl)

nothing : {X : Type 0} (xs ys : List X) (i j : ℕ) → length xs ≤ i → length ys ≤ j → drop i xs ≡ drop j ys
nothing xs ys i j k l = drop_of_length-le xs {i = i} k ∙ sym (drop_of_length-le ys {i = j} l)

-- where rows are passed to
pub passed_bounds : (es : List RecordValue) (cut : Option ℕ) (kind : Option Kind) (at end old_end below count : ℕ) (next : Option ℕ) → StopsPassed es cut kind at end old_end below count next
    → length es - at + end ≡ count → at ≤ length es → end ≤ count → (end ≤ below) × (below ≤ count) × (old_end ≤ length es) × (at ≤ old_end)
passed_bounds es cut kind at end old_end below count None ends rows within high =
    let o = ends.0 in
    let e = ends.1 in
    (omega (arith, e, high), omega (arith, e), omega (arith, o), omega (arith, o, within))
passed_bounds es cut kind at end old_end below count (Some c) ends rows within high =
    let o = ends.0 in
    let e = ends.2 in
    let s = some_of (state_of_row es old_end) ends.4 in
    let l = state_there es old_end s.0 s.1 in
    (omega (arith, e), omega (arith, e, l, o, rows), omega (arith, l), o)

-- the new records from row `from` on, down to row `end`, above which reading has stopped
pub record AreMade (es : List RecordValue) (qs : List (List ℕ)) (from end : ℕ) (items : List RecordValue) : Type 0 where
  pub front : take from es ≡ take from (records qs)
  pub told : items ≡ take (end - from) (drop from (records qs))
  pub low : from ≤ end
  pub high : end ≤ length qs
  pub halt : ℕ
  pub above : halt ≤ end
  pub stopped : state_of_row (records qs) halt ≡ Some Stopped

-- an edit of the text ps of which es is kept, whose new records are known down to row `end`; behind them stand those of the rows that are
-- passed, down to row `below`, and then the old ones from row `old_end` on
module _ (ps ns : List (List ℕ)) (a b : ℕ) (ordered : a ≤ b) (within : b ≤ length ps) (cut : Option ℕ) (es : List RecordValue) (held : AreHeld ps cut es) (from end : ℕ) (items : List RecordValue)
    (made : AreMade es (splice ps a b ns) from end items) (behind : a + length ns ≤ end) (least : from ≤ end - (a + length ns) + b) (old_end below : ℕ) (above : end ≤ below) (most : below ≤ length (splice ps a b ns))
    (old_most : old_end ≤ length es) (old_least : from ≤ old_end) where
  abbrev new : List (List ℕ)
  new = splice ps a b ns

  abbrev all : List RecordValue
  all = records new

  -- the counterpart of row `end`
  abbrev at : ℕ
  at = end - (a + length ns) + b

  abbrev passed : List RecordValue
  passed = records_from Stopped (drop end (take below new))

  abbrev whole : List RecordValue
  whole = splice es from old_end (items ++ passed)

  low : from ≤ below
  low = omega (arith, made.low, above)

  high : below ≤ length all
  high = omega (arith, most, records_length new)

  told : items ++ passed ≡ take (below - from) (drop from all)
  told = passed_told new made.halt made.stopped from end below items made.above made.low above high made.told

  front : (j : ℕ) → j ≤ below → take j whole ≡ take j all
  front j o = made_front es all (items ++ passed) from old_end below made.front told low high j o

  back : drop below whole ≡ drop old_end es
  back =
      let none : old_end + (below - below) ≡ old_end = omega arith in
      made_behind es all (items ++ passed) from old_end below made.front told low high below (omega arith) ∙ ap (λ k. drop k es) none

  count : below ≡ from + length (items ++ passed)
  count = let l = ap (λ (rs : List RecordValue). length rs) told in omega (arith, l, length-take (below - from) (drop from all), length-drop from all, high, low)

  -- what is made, whatever it is cut at
  made_by : (next : Option ℕ) (n : ℕ) → AreHeld new next whole → GoOnAlike es whole old_end below → TakesNothing es whole from → IfSome next (λ c. below ≤ c) → HoldsEdit a b (length ns) from old_end below
      → IsRescan ps new a b (length ns) from below n → WasRescanned es ps new next a b (length ns) from old_end below n (items ++ passed)
  made_by next n is alike takes lower holds work = record {
    range = record { ordered = old_least; within = old_most };
    held = is;
    before = made.front ∙ sym (front from low);
    behind = sym back;
    within = most;
    some = count;
    alike = alike;
    taken = takes;
    below = lower;
    holds = holds;
    work = work;
  }

  -- ---- to the text's end

  at_end : old_end ≡ length es → below ≡ length new → whole ≡ all
  at_end o e =
      made_whole es all (items ++ passed) from old_end below made.front told low high
      (nothing es all old_end below (omega (arith, o)) (omega (arith, e, records_length new)))

  -- ---- to a row with which a section begins

  module _ (kind : Option Kind) (kind_is : kind ≡ kind_after None (take end (splice es from at items))) (below_is : below ≡ old_end - at + end) (later : at ≤ old_end) (lower : IfSome cut (λ n. n ≤ old_end))
      (s : LineStateValue) (sound : state_of_row es old_end ≡ Some s) (start : is_start_at es old_end ≡ true) (begins : begins_section kind (drop old_end es) ≡ true) where
    is : Continues ps es old_end s
    is = continues ps cut es held old_end s lower sound start

    rows : drop old_end ps ≡ drop below new
    rows =
        let i : below - (a + length ns) + b ≡ old_end = omega (arith, below_is, later, behind) in
        ap (λ k. drop k ps) (sym i) ∙ rows_behind ps ns a b ordered within below (omega (arith, behind, above))

    there : old_end < length ps
    there =
        let l = state_there es old_end s sound in
        omega (arith, l, held_length ps cut es held)

    stops : state_of_row all below ≡ Some Stopped
    stops =
        let row = row_there ps old_end there in
        let none : old_end - old_end ≡ below - below = omega arith in
        let same : slice_get ps old_end ≡ slice_get new below =
        sym (got_behind ps old_end old_end (omega arith))
        ∙ (ap (λ (rs : List (List ℕ)). slice_get rs (old_end - old_end)) rows ∙ (ap (λ k. slice_get (drop below new) k) none ∙ got_behind new below below (omega arith))) in
        stopped_row new made.halt made.stopped below row.0 (omega (arith, made.above, above)) (sym same ∙ row.1) (is.filled row.0 row.1)

    kinds : kind_after None (take below whole) ≡ kind
    kinds =
        ap (λ (rs : List RecordValue). kind_after None rs) (front below (omega arith))
        ∙ (kind_passed new made.halt made.stopped end below made.above above
        ∙ (ap (λ (rs : List RecordValue). kind_after None rs)
        (sym (made_front es all items from at end made.front made.told made.low (omega (arith, made.high, records_length new)) end (omega arith))) ∙ sym kind_is))

    start_here : is_start_at whole below ≡ true
    start_here = ap (λ (k : Option Kind). begins_section k (drop below whole)) kinds ∙ (ap (λ (rs : List RecordValue). begins_section kind rs) back ∙ begins)

    pub cut_passed : IsCutAt new below whole
    cut_passed = record {
      stopped = stops;
      front = front below (omega arith);
      start = start_here;
      state = s;
      sound = sym (state_first whole below) ∙ (ap (λ (rs : List RecordValue). state_of_row rs 0) back ∙ (state_first es old_end ∙ sound));
      behind = back ∙ (is.behind ∙ ap (λ (qs : List (List ℕ)). records_from s qs) rows);
      begins = ap (λ (rs : List RecordValue). begins_section (last_in s) rs) back ∙ is.begins;
    }

    pub alike_passed : GoOnAlike es whole old_end below
    alike_passed e h = by_start es whole old_end below e (sym back) start start_here h

  -- ---- either

  passed_by : (next : Option ℕ) (kind : Option Kind) → kind ≡ kind_after None (take end (splice es from at items)) → StopsPassed es cut kind at end old_end below (length new) next → (n : ℕ)
      → (length whole ≡ length new → take below whole ≡ take below all → TakesNothing es whole from) → HoldsEdit a b (length ns) from old_end below → IsRescan ps new a b (length ns) from below n
      → WasRescanned es ps new next a b (length ns) from old_end below n (items ++ passed)
  passed_by None kind kind_is ends n takes holds work =
      let e = at_end ends.0 ends.1 in
      let len : length whole ≡ length new = ap (λ (rs : List RecordValue). length rs) e ∙ records_length new in
      made_by None n e (nothing_left es whole old_end below (omega (arith, len, ends.1))) (takes len (front below (omega arith))) tt holds work
  passed_by (Some c) kind kind_is ends n takes holds work =
      let s = some_of (state_of_row es old_end) ends.4 in
      let cuts : IsCutAt new below whole = cut_passed kind kind_is ends.2 ends.0 ends.1 s.0 s.1 ends.5 ends.6 in
      made_by (Some c) n (subst (λ k. IsCutAt new k whole) (sym ends.3) cuts) (alike_passed kind kind_is ends.2 ends.0 ends.1 s.0 s.1 ends.5 ends.6) (takes (held_length new (Some below) whole cuts) (front below (omega arith)))
      (omega (arith, ends.3)) holds work

  pub passed_to : (next : Option ℕ) → StopsPassed es cut (kind_after None (take end (splice es from at items))) at end old_end below (length new) next → (n : ℕ)
      → (length whole ≡ length new → take below whole ≡ take below all → TakesNothing es whole from) → HoldsEdit a b (length ns) from old_end below → IsRescan ps new a b (length ns) from below n
      → WasRescanned es ps new next a b (length ns) from old_end below n (items ++ passed)
  passed_to next ends n takes holds work = passed_by next (kind_after None (take end (splice es from at items))) refl ends n takes holds work
