-- What scanning an edited text again makes of the records that are kept.
use Rattle.std.proofs.Common.{◌≡◌, ℕ, zero, suc, ◌∷◌, ◌+◌, ◌-◌, ◌<◌, ◌≤◌, ◌⊎◌, inl, inr, Bool, true, false, ltb, cond, List, [], ◌++◌, length, take, drop, Option, Some, None, refl, ap, sym, ◌∙◌, subst, arith, ltb-true, ltb-false}
use Rattle.std.specs.Prelude.{IsSome, IfSome, slice_get}
use Rattle.std.specs.List.{splice}
use Rattle.std.proofs.lemmas.Bool.{cases_lt}
use Rattle.std.proofs.Math.ListN.{drop_of_length-le}
use Rattle.std.proofs.lemmas.List.{length-drop, length-take}
use Rattle.yl_text.specs.Store.{IsRange}
use Rattle.yl_row.specs.Entries.{LineStateValue, Stopped, entries}
use Rattle.yl_scan.specs.Restart.{state_at}
use Rattle.yl_record.specs.Records.{RecordValue, records}
use Rattle.yl_record.specs.Recorded.{records_from}
use Rattle.yl_sections.specs.Front.{IsFront}
use Rattle.yl_sections.specs.Local.{is_start_at, kind_after}
use Rattle.yl_sections.proofs.Lost.{lost_rows}
use Rattle.yl_sections.specs.Alike.{GoOnAlike}
use Rattle.yl_sections.specs.Holding.{ReadsNothing, TakesNothing}
use Rattle.yl_sections.proofs.SectionStarts.{not_first, same_before}
use Rattle.yl_rescan.specs.Agree.{agree, agrees, counterpart, next_cut, read_beyond, state_of_row, BeginsBelow, EndsAt, GoesOn, MayKeep, StopsAt, StopsPassed}
use Rattle.yl_rescan.specs.Held.{AreHeld, IsCutAt}
use Rattle.yl_rescan.specs.Made.{HoldsEdit, WasRescanned}
use Rattle.yl_rescan.specs.Rescan.{HasStoppedAt, IsAgreement, IsRescan, IsRestart, IsStop}
use Rattle.yl_rescan.proofs.Search.{LastAbove}
use Rattle.yl_rescan.specs.declared.scanning.ScanEnd.{ScanEnd}
use Rattle.yl_rescan.specs.declared.scanning.ScanEnd.TheVariants.{Agreed, Halted, TextEnd}
use Rattle.yl_rescan.proofs.Edits.{both_agree, front_again, grown, is_restart, is_some_of, is_stop, length-spliced, no_agreement, records_above, restart_found, restart_place, restarted, row_before, rows_above, state_above, stop_at_end, stop_found}
use Rattle.yl_rescan.proofs.Held.{held_length, made_front, made_whole, true_front, true_state}
use Rattle.yl_rescan.proofs.Outcomes.{alike_above, alike_by, alike_cut, alike_there, behind, cut_on, cut_there, not_kept, nothing_left, start_under, whole_agreed, whole_cut}
use Rattle.yl_rescan.proofs.Passed.{passed_told}
use Rattle.yl_rescan.proofs.RowsPassed.{passed_bounds, passed_to}
use Rattle.yl_rescan.proofs.Rows.{records_length, records_state, stopped_below}

differ : (t : Bool) → t ≡ true → t ≡ false → ⊥
differ t x y = cc

nothing : {X : Type 0} (xs ys : List X) (i j : ℕ) → length xs ≤ i → length ys ≤ j → drop i xs ≡ drop j ys
nothing xs ys i j k l = drop_of_length-le xs {i = i} k ∙ sym (drop_of_length-le ys {i = j} l)

some_of : {X : Type 0} (o : Option X) → IsSome o → (x : X) × (o ≡ Some x)
some_of None h = absurd (cc)
some_of (Some x) h = (x, refl)

-- ---- bounds that hold where a list is cut

upto : (cut : Option ℕ) (a j : ℕ) → IfSome cut (λ n. a ≤ n) → j ≤ a → IfSome cut (λ n. j ≤ n)
upto None a j h o = tt
upto (Some n) a j h o = omega (arith, h, o)

above : (cut : Option ℕ) (a j : ℕ) → IfSome cut (λ n. a ≤ n) → j < a → IfSome cut (λ n. j < n)
above None a j h o = tt
above (Some n) a j h o = omega (arith, h, o)

-- where scanning begins again
pub begins_true_of : (t : List (List ℕ)) (cut : Option ℕ) (es : List RecordValue) → AreHeld t cut es → (a : ℕ) → IfSome cut (λ n. a ≤ n) → (row : ℕ) (s : Option LineStateValue) → BeginsBelow es a row s → BeginsBelow (records t) a row s
begins_true_of t cut es held a bound row None b = b
begins_true_of t cut es held a bound row (Some s) b = (b.0, sym (true_state t cut es row held (above cut a row bound b.0)) ∙ b.1)

-- ---- rows that do not agree

none_agrees : (ps ns : List (List ℕ)) (a b : ℕ) → a ≤ b → b ≤ length ps → (cut : Option ℕ) (es : List RecordValue) → AreHeld ps cut es → (j : ℕ)
    → GoesOn es cut (j - (a + length ns) + b) (state_of_row (records (splice ps a b ns)) j) → IsAgreement ps (splice ps a b ns) (a + length ns) b j → ⊥
none_agrees ps ns a b o w None es held j g s =
    let i = j - (a + length ns) + b in
    no_agreement ps ns a b o w j (ap (λ (x : Option LineStateValue). agree x (state_of_row (records (splice ps a b ns)) j)) (sym (true_state ps None es i held tt)) ∙ g) s
none_agrees ps ns a b o w (Some n) es held j g s = let i = j - (a + length ns) + b in elim (cases_lt i n) [
  | inl l ↦ no_agreement ps ns a b o w j (ap (λ (x : Option LineStateValue). agree x (state_of_row (records (splice ps a b ns)) j)) (sym (true_state ps (Some n) es i held l)) ∙ g.0 l) s
  | inr l ↦
      let is : s.state ≡ Stopped = stopped_below ps n i s.state (sym (records_state ps n) ∙ held.stopped) l s.before in
      g.1 l (records_state (splice ps a b ns) j ∙ (s.after ∙ ap (λ (z : LineStateValue). Some z) is))
]

-- ---- what is lost

pub got_in_front : (xs ys : List RecordValue) (n i : ℕ) → take n xs ≡ take n ys → i < n → slice_get xs i ≡ slice_get ys i
got_in_front xs ys n i e l = sym (got_taken xs n i l) ∙ (ap (λ (rs : List RecordValue). slice_get rs i) e ∙ got_taken ys n i l) where
  got_taken : (rs : List RecordValue) (n i : ℕ) → i < n → slice_get (take n rs) i ≡ slice_get rs i
  got_taken rs zero i l = absurd (omega (arith, l))
  got_taken [] (suc n) i l = refl
  got_taken (r ∷ rs) (suc n) zero l = refl
  got_taken (r ∷ rs) (suc n) (suc i) l = got_taken rs n i (omega (arith, l))

reads_nothing : (t : List (List ℕ)) (cut : Option ℕ) (es : List RecordValue) (row : ℕ) → AreHeld t cut es → IfSome cut (λ n. row < n) → IsFront row (records t) → ReadsNothing es row
reads_nothing t None es row held l f = record {
  sound = λ i r o g. f.sound i r o (ap (λ (rs : List RecordValue). slice_get rs i) (sym held) ∙ g);
  bare = λ i r o s g. f.bare i r o (ap (λ (rs : List RecordValue). slice_get rs i) (sym held) ∙ g);
}
reads_nothing t (Some n) es row held l f = record {
  sound = λ i r o g. f.sound i r o (sym (got_in_front es (records t) n i held.front (omega (arith, o, l))) ∙ g);
  bare = λ i r o s g. elim (cases_lt i n) [
    | inl k ↦ f.bare i r o (sym (got_in_front es (records t) n i held.front k) ∙ g)
    | inr k ↦ absurd (differ _ held.start (s n l k))
  ];
}

-- ---- what scanning found: es is what was kept of the old text, and the rows qs of the new one were scanned

pub record WasScanned (es : List RecordValue) (qs : List (List ℕ)) (cut : Option ℕ) (a b stop row : ℕ) (state : Option LineStateValue) (why : ScanEnd) (end n : ℕ) (items : List RecordValue) : Type 0 where
  pub begins : BeginsBelow es a row state
  pub none : (j : ℕ) → row < j → j < a → state_of_row es j ≡ None
  pub agreed : why ≡ Agreed → EndsAt stop (length qs) end × (agrees es (records qs) stop b end ≡ true) × IfSome cut (λ c. end - stop + b ≤ c)
  pub halted : why ≡ Halted → EndsAt stop (length qs) end × (state_of_row (records qs) end ≡ Some Stopped) × StopsAt es cut (end - stop + b)
  pub whole : why ≡ TextEnd → end ≡ length qs
  pub low : row ≤ end
  pub high : end ≤ length qs
  pub goes_on : (j : ℕ) → stop ≤ j → j < end → GoesOn es cut (j - stop + b) (state_of_row (records qs) j)
  pub told : items ≡ take (end - row) (drop row (records qs))
  pub counted : n ≡ end - row + read_beyond why

module _ (ps ns : List (List ℕ)) (a b : ℕ) (ordered : a ≤ b) (within : b ≤ length ps) (cut : Option ℕ) (es : List RecordValue) (held : AreHeld ps cut es) (bound : IfSome cut (λ n. a ≤ n))
    (row : ℕ) (state : Option LineStateValue) (why : ScanEnd) (end n : ℕ) (items : List RecordValue)
    (some : 0 < length (splice ps a b ns)) (h : WasScanned es (splice ps a b ns) cut a b (a + length ns) row state why end n items) where
  abbrev new : List (List ℕ)
  new = splice ps a b ns

  abbrev all : List RecordValue
  all = records new

  abbrev stop : ℕ
  stop = a + length ns

  many : length new ≡ a + length ns + (length ps - b)
  many = grown ps ns a b ordered within

  count : length es ≡ length ps
  count = held_length ps cut es held

  high' : end ≤ length all
  high' = omega (arith, h.high, records_length new)

  begins : BeginsBelow (records ps) a row state
  begins = begins_true_of ps cut es held a bound row state h.begins

  pub row_high : row ≤ a
  row_high = row_before ps ns a b ordered within row state begins

  front : take row es ≡ take row all
  front = true_front ps cut es row held (upto cut a row bound row_high) ∙ front_again ps ns a b ordered within row state begins

  restart : IsRestart new a row
  restart = restarted ps ns a b ordered within row state begins (λ j l m. sym (true_state ps cut es j held (above cut a j bound m)) ∙ h.none j l m)

  -- the records that are made anew hold the edited lines
  holds_by : (old_end last : ℕ) → b ≤ old_end → stop ≤ last → HoldsEdit a b (length ns) row old_end last
  holds_by old_end last o l = record {
    above = elim restart.place [ inl z ↦ inr z | inr p ↦ inl p.0 ];
    old_lines = o;
    new_lines = l;
  }

  none_before : (j : ℕ) → stop ≤ j → j < end → IsAgreement ps new stop b j → ⊥
  none_before j o l = none_agrees ps ns a b ordered within cut es held j (h.goes_on j o l)

  fed : end ≡ row + length items
  fed = let l = ap (λ (rs : List RecordValue). length rs) h.told in omega (arith, l, length-take (end - row) (drop row all), length-drop row all, high', h.low)

  -- ---- what is lost above

  takes_by : (s : Option LineStateValue) → BeginsBelow (records ps) a row s → (made : List RecordValue) → length made ≡ length new → (row < a → is_start_at made row ≡ is_start_at all row) → row < length new → TakesNothing es made row
  takes_by None z made len same there = record {
    within = omega (arith, len, there);
    front = λ lost start. absurd (differ _ start (ap (λ k. is_start_at made k) z ∙ not_first made));
  }
  takes_by (Some s) begun made len same there = record {
    within = omega (arith, len, there);
    front = λ lost start.
        let l = begun.0 in
        let old = same_before es (records ps) a row (true_front ps cut es a held bound) l in
        reads_nothing ps cut es row held (above cut a row bound l)
        (lost_rows ps new row (inr (rows_above ps ns a b ordered within (row + 1) (omega (arith, l)))) (in_new (restart_place ps ns a b ordered within row (Some s) begun)) (sym old ∙ lost) (sym (same l) ∙ start));
  } where
    in_new : (row ≡ 0) ⊎ ((row < a) × IsSome (state_at (entries new) row)) → (row ≡ 0) ⊎ IsSome (state_at (entries new) row)
    in_new (inl z) = inl z
    in_new (inr p) = inr p.1

  -- ---- scanning ended before a row

  module _ (from : stop ≤ end) (before : end < length new) (counted : n ≡ end - row + 1) where
    abbrev at : ℕ
    at = end - stop + b

    abbrev made : List RecordValue
    made = splice es row at items

    range : IsRange row at (length es)
    range = record { ordered = omega (arith, row_high, ordered); within = omega (arith, from, before, many, count, within) }

    worked : (e : ℕ) → (e ≡ end) ⊎ (state_of_row all end ≡ Some Stopped) → IsRescan ps new a b (length ns) row e n
    worked e why' =
        let found = stop_found ps ns a b ordered within end from before in
        record {
          r = row;
          m = found.place;
          restart = restart;
          stop = is_stop ps ns a b ordered within end from before none_before found;
          some = omega (arith, counted, from, row_high);
          few = let m = found.from in omega (arith, counted, m);
          above = inl refl;
          below = elim why' [
            | inl is ↦ let m = found.from in inl (omega (arith, is, m))
            | inr s ↦ inr (record { row = end; within = found.from; stopped = sym (records_state new end) ∙ s })
          ];
        }

    same_start : row < a → is_start_at made row ≡ is_start_at all row
    same_start l = same_before made all end row (made_front es all items row at end front h.told h.low high' end (omega arith)) (omega (arith, l, from))

    kept_by : (next : Option ℕ) → AreHeld new next made → GoOnAlike es made at end → IfSome next (λ c. end ≤ c) → WasRescanned es ps new next a b (length ns) row at end n items
    kept_by next is alike low = record {
      range = range;
      held = is;
      before = sym (made_front es all items row at end front h.told h.low high' row h.low ∙ sym front);
      behind = sym (behind ps ns a b ordered within es items row end front h.told h.low high' from);
      within = h.high;
      some = fed;
      alike = alike;
      taken = takes_by state begins made (held_length new next made is) same_start (omega (arith, h.low, before));
      below = low;
      holds = holds_by at end (omega arith) from;
      work = worked end (inl refl);
    }

    -- the rows below it are passed
    passed : state_of_row all end ≡ Some Stopped → (next : Option ℕ) (old_end below : ℕ) → StopsPassed es cut (kind_after None (take end made)) at end old_end below (length new) next
        → WasRescanned es ps new next a b (length ns) row old_end below n (items ++ records_from Stopped (drop end (take below new)))
    passed stopped next old_end below ends =
        let bounds = passed_bounds es cut (kind_after None (take end made)) at end old_end below (length new) next ends (omega (arith, from, before, many, count, within)) range.within (omega (arith, before)) in
        let low : end ≤ below = bounds.0 in
        let least : at ≤ old_end = bounds.3 in
        passed_to ps ns a b ordered within cut es held row end items
        (record { front = front; told = h.told; low = h.low; high = h.high; halt = end; above = omega arith; stopped = stopped })
        from range.ordered old_end below low bounds.1 bounds.2 (omega (arith, least, range.ordered)) next ends n
        (λ len same. takes_by state begins (splice es row old_end (items ++ records_from Stopped (drop end (take below new)))) len
        (λ l. same_before (splice es row old_end (items ++ records_from Stopped (drop end (take below new)))) all below row same (omega (arith, l, from, low))) (omega (arith, h.low, before)))
        (holds_by old_end below (omega (arith, least)) (omega (arith, from, low))) (worked below (inr stopped))

  -- ---- what was found

  abbrev at_of : ScanEnd → ℕ
  at_of w = counterpart w end stop b (length es)

  abbrev Kept : ScanEnd → Option ℕ → Type 0
  Kept w next = WasRescanned es ps new next a b (length ns) row (at_of w) end n items

  abbrev Keeps : ScanEnd → Option ℕ → Type 0
  Keeps w next = MayKeep (splice es row (at_of w) items) w next → Kept w next

  one_more : (w : ScanEnd) → w ≡ why → read_beyond w ≡ 1 → n ≡ end - row + 1
  one_more w e one = omega (arith, h.counted, ap read_beyond e, one)

  held_as : (c : Option ℕ) → c ≡ cut → AreHeld ps c es
  held_as c f = subst (λ (o : Option ℕ). AreHeld ps o es) (sym f) held

  -- they agree, and a cut lies below
  agreed_above : (c : ℕ) → Some c ≡ cut → Agreed ≡ why → (t : Bool) → ltb (at_of Agreed) c ≡ t → Keeps Agreed (cond t (Some (c - at_of Agreed + end)) None)
  agreed_above c f e true l may =
      let g = h.agreed (sym e) in
      let s = both_agree (state_of_row es (at_of Agreed)) (state_of_row all end) g.1 in
      let is = held_as (Some c) f in
      let lower : at_of Agreed < c = ltb-true (at_of Agreed) c l in
      kept_by g.0.0 g.0.1 (one_more Agreed e refl) (Some (c - at_of Agreed + end))
      (cut_on ps ns a b ordered within es items row end front h.told h.low high' g.0.0 c is lower s.0 s.1 s.2 may)
      (alike_above ps ns a b ordered within es items row end front h.told h.low high' g.0.0 c is lower s.0 s.1 s.2 may) (omega arith)
  agreed_above c f e false l may =
      let g = h.agreed (sym e) in
      let s = both_agree (state_of_row es (at_of Agreed)) (state_of_row all end) g.1 in
      let upto : IfSome (Some c) (λ m. at_of Agreed ≤ m) = subst (λ (o : Option ℕ). IfSome o (λ m. at_of Agreed ≤ m)) (sym f) g.2 in
      let same : c ≡ at_of Agreed = omega (arith, upto, ltb-false (at_of Agreed) c l) in
      let is : IsCutAt ps (at_of Agreed) es = subst (λ m. IsCutAt ps m es) same (held_as (Some c) f) in
      let whole = whole_cut ps ns a b ordered within es items row end front h.told h.low high' g.0.0 is s.0 s.1 s.2 in
      kept_by g.0.0 g.0.1 (one_more Agreed e refl) None whole (alike_cut ps ns a b ordered within es items row end front h.told h.low high' g.0.0 is s.0 s.1 s.2 whole) tt

  ended : TextEnd ≡ why → Kept TextEnd None
  ended e =
      let last : end ≡ length new = h.whole (sym e) in
      let none : drop (length es) es ≡ drop end all = nothing es all (length es) end (omega arith) (omega (arith, last, records_length new)) in
      let whole = made_whole es all items row (length es) end front h.told h.low high' none in
      let m : length new - 1 + 1 ≡ length new = omega (arith, some) in
      record {
        range = record { ordered = omega (arith, row_high, ordered, within, count); within = omega arith };
        held = whole;
        before = front ∙ ap (λ (rs : List RecordValue). take row rs) (sym whole);
        behind = none ∙ ap (λ (rs : List RecordValue). drop end rs) (sym whole);
        within = h.high;
        some = fed;
        alike = nothing_left es (splice es row (length es) items) (length es) end (omega (arith, last, ap (λ (rs : List RecordValue). length rs) whole, records_length new));
        taken = takes_by state begins (splice es row (length es) items) (ap (λ (rs : List RecordValue). length rs) whole ∙ records_length new) (λ l. ap (λ (rs : List RecordValue). is_start_at rs row) whole)
            (row_there state begins last);
        below = tt;
        holds = holds_by (length es) end (omega (arith, within, count)) (omega (arith, last, many));
        work = record {
          r = row;
          m = length new - 1;
          restart = restart;
          stop = stop_at_end ps ns a b ordered within (length new - 1) m (λ j o l. none_before j o (omega (arith, l, last)));
          some = omega (arith, h.counted, ap read_beyond e, last, many, row_high);
          few = omega (arith, h.counted, ap read_beyond e, last, some, h.low);
          above = inl refl;
          below = inl (omega (arith, last, some));
        };
      } where
        row_there : (s : Option LineStateValue) → BeginsBelow (records ps) a row s → end ≡ length new → row < length new
        row_there None z last = omega (arith, z, some)
        row_there (Some s) p last = let l = p.0 in omega (arith, l, many)

  kept_if : (w : ScanEnd) (c : Option ℕ) → w ≡ why → c ≡ cut → Keeps w (next_cut w c (at_of w) end)
  kept_if Agreed None e f may =
      let g = h.agreed (sym e) in
      let s = both_agree (state_of_row es (at_of Agreed)) (state_of_row all end) g.1 in
      let is = held_as None f in
      let whole = whole_agreed ps ns a b ordered within es items row end front h.told h.low high' g.0.0 is s.0 s.1 s.2 in
      kept_by g.0.0 g.0.1 (one_more Agreed e refl) None whole
      (alike_by ps ns a b ordered within es items row end front h.told h.low high' g.0.0 s.0 whole (ap (λ (rs : List RecordValue). take (at_of Agreed) rs) is)
      (ap (λ (rs : List RecordValue). state_of_row rs (at_of Agreed)) (sym is) ∙ s.1) s.2) tt
  kept_if Agreed (Some c) e f may = agreed_above c f e (ltb (at_of Agreed) c) refl may
  kept_if Halted None e f may =
      let g = h.halted (sym e) in
      let is = held_as None f in
      let stops : StopsAt es None (at_of Halted) = subst (λ (o : Option ℕ). StopsAt es o (at_of Halted)) (sym f) g.2 in
      let s = some_of (state_of_row es (at_of Halted)) stops.1 in
      kept_by g.0.0 g.0.1 (one_more Halted e refl) (Some end)
      (cut_there ps ns a b ordered within es items row end front h.told h.low high' g.0.0 is s.0 s.1 stops.0 g.1 may)
      (alike_there ps ns a b ordered within es items row end front h.told h.low high' g.0.0 stops.0 may) (omega arith)
  kept_if Halted (Some c) e f may = absurd may
  kept_if TextEnd None e f may = ended e
  kept_if TextEnd (Some c) e f may = ended e

  pub kept : Keeps why (next_cut why cut (at_of why) end)
  kept may = kept_if why cut refl refl may

  -- ---- where scanning began at a row at which reading had stopped, what is kept behind may be

  under_above : (c : ℕ) → Some c ≡ cut → Agreed ≡ why → state_of_row es row ≡ Some Stopped → row < a → (t : Bool) → ltb (at_of Agreed) c ≡ t
      → MayKeep (splice es row (at_of Agreed) items) Agreed (cond t (Some (c - at_of Agreed + end)) None)
  under_above c f e stopped l false less = tt
  under_above c f e stopped l true less =
      let g = h.agreed (sym e) in
      let s = both_agree (state_of_row es (at_of Agreed)) (state_of_row all end) g.1 in
      let is = held_as (Some c) f in
      let upper : at_of Agreed < c = ltb-true (at_of Agreed) c less in
      let old_stopped : state_of_row (records ps) row ≡ Some Stopped = sym (true_state ps (Some c) es row is (omega (arith, upper, l, ordered))) ∙ stopped in
      start_under ps ns a b ordered within es items row end front h.told h.low high' g.0.0 c is upper s.0 s.1 s.2 old_stopped
      (sym (state_above ps ns a b ordered within row l) ∙ old_stopped) (omega (arith, upper, l, ordered))

  under_if : (w : ScanEnd) (c : Option ℕ) → w ≡ why → c ≡ cut → w ≡ Agreed → state_of_row es row ≡ Some Stopped → row < a → MayKeep (splice es row (at_of w) items) w (next_cut w c (at_of w) end)
  under_if Agreed None e f is stopped l = tt
  under_if Agreed (Some c) e f is stopped l = under_above c f e stopped l (ltb (at_of Agreed) c) refl
  under_if Halted c e f is stopped l = absurd (cc)
  under_if TextEnd c e f is stopped l = absurd (cc)

  begun_stopped : (s : Option LineStateValue) → BeginsBelow es a row s → s ≡ Some Stopped → (row < a) × (state_of_row es row ≡ Some Stopped)
  begun_stopped None begun is = absurd (cc)
  begun_stopped (Some s) begun is = (begun.0, begun.1 ∙ is)

  pub kept_under : why ≡ Agreed → state ≡ Some Stopped → MayKeep (splice es row (at_of why) items) why (next_cut why cut (at_of why) end)
  kept_under is stopped = let begun = begun_stopped state h.begins stopped in under_if why cut refl refl is begun.1 begun.0

  -- ---- where it may not be kept, reading has stopped

  record IsHalted (w : ScanEnd) : Type 0 where
    from : stop ≤ end
    before : end < length new
    counted : n ≡ end - row + 1
    stopped : state_of_row all end ≡ Some Stopped
    here : at_of w ≡ end - stop + b

  halted_above : (c : ℕ) → Some c ≡ cut → Agreed ≡ why → (t : Bool) → ltb (at_of Agreed) c ≡ t
      → (MayKeep (splice es row (at_of Agreed) items) Agreed (cond t (Some (c - at_of Agreed + end)) None) → ⊥) → IsHalted Agreed
  halted_above c f e true l refused =
      let g = h.agreed (sym e) in
      let s = both_agree (state_of_row es (at_of Agreed)) (state_of_row all end) g.1 in
      let is = not_kept ps ns a b ordered within es items row end front h.told h.low high' g.0.0 c (held_as (Some c) f) (ltb-true (at_of Agreed) c l) s.0 s.1 s.2 refused in
      record { from = g.0.0; before = g.0.1; counted = one_more Agreed e refl; stopped = s.2 ∙ ap (λ (z : LineStateValue). Some z) is; here = refl }
  halted_above c f e false l refused = absurd (refused tt)

  halted_if : (w : ScanEnd) (c : Option ℕ) → w ≡ why → c ≡ cut → (MayKeep (splice es row (at_of w) items) w (next_cut w c (at_of w) end) → ⊥) → IsHalted w
  halted_if Agreed None e f refused = absurd (refused tt)
  halted_if Agreed (Some c) e f refused = halted_above c f e (ltb (at_of Agreed) c) refl refused
  halted_if Halted c e f refused = let g = h.halted (sym e) in record { from = g.0.0; before = g.0.1; counted = one_more Halted e refl; stopped = g.1; here = refl }
  halted_if TextEnd None e f refused = absurd (refused tt)
  halted_if TextEnd (Some c) e f refused = absurd (refused tt)

  pub not_held : (next : Option ℕ) (old_end below : ℕ) → (MayKeep (splice es row (at_of why) items) why (next_cut why cut (at_of why) end) → ⊥)
      → StopsPassed es cut (kind_after None (take end (splice es row (at_of why) items))) (at_of why) end old_end below (length new) next
      → WasRescanned es ps new next a b (length ns) row old_end below n (items ++ records_from Stopped (drop end (take below new)))
  not_held next old_end below refused ends =
      let s = halted_if why cut refl refl refused in
      passed s.from s.before s.counted s.stopped next old_end below
      (subst (λ k. StopsPassed es cut (kind_after None (take end (splice es row k items))) k end old_end below (length new) next) s.here ends)

-- ---- an edit below the row at which the old records are cut

module _ (ps ns : List (List ℕ)) (a b : ℕ) (ordered : a ≤ b) (within : b ≤ length ps) (cut : ℕ) (es : List RecordValue) (h : IsCutAt ps cut es) (below : cut < a) (some : 0 < length (splice ps a b ns)) where
  abbrev edited : List (List ℕ)
  edited = splice ps a b ns

  abbrev behind_edit : ℕ
  behind_edit = a + length ns

  stays : state_of_row (records edited) cut ≡ Some Stopped
  stays = sym (state_above ps ns a b ordered within cut below) ∙ h.stopped

  many_rows : length edited ≡ a + length ns + (length ps - b)
  many_rows = grown ps ns a b ordered within

  count_rows : length es ≡ length ps
  count_rows = held_length ps (Some cut) es h

  restart_at : LastAbove (λ j. state_at (entries edited) j) cut a
  restart_at = restart_found ps ns a b ordered within cut below (is_some_of (state_at (entries edited) cut) Stopped (sym (records_state edited cut) ∙ stays))

  halts : HasStoppedAt edited cut
  halts = sym (records_state edited cut) ∙ stays

  worked_at : (last m : ℕ) → a + length ns ≤ m + 1 → cut ≤ m → IsStop ps edited (a + length ns) b m → IsRescan ps edited a b (length ns) cut last (length ns)
  worked_at last m enough low stop =
      let r = restart_at.is in
      let under = r.above in
      record {
        r = restart_at.place;
        m = m;
        restart = is_restart ps ns a b ordered within cut restart_at;
        stop = stop;
        some = omega arith;
        few = omega (arith, enough, under);
        above = inr (r.from, halts);
        below = inr (record { row = cut; within = low; stopped = halts });
      }

  work_below : (last : ℕ) → IsRescan ps edited a b (length ns) cut last (length ns)
  work_below last = elim (cases_lt (a + length ns) (length edited)) [
    | inl l ↦
        let found = stop_found ps ns a b ordered within (a + length ns) (omega arith) l in
        let m = found.from in
        worked_at last found.place (omega (arith, m)) (omega (arith, m, below)) (is_stop ps ns a b ordered within (a + length ns) (omega arith) l (λ j o k. absurd (omega (arith, o, k))) found)
    | inr l ↦
        let e : length edited - 1 + 1 ≡ length edited = omega (arith, some) in
        worked_at last (length edited - 1) (omega (arith, e, l, many_rows)) (omega (arith, e, many_rows, below)) (stop_at_end ps ns a b ordered within (length edited - 1) e (λ j o k. absurd (omega (arith, o, k, e, many_rows, l))))
  ]

  -- the records down to the edit's end
  pub told_below : (items more : List RecordValue) → items ≡ [] ++ records_from Stopped (drop cut (take a edited)) → more ≡ items ++ records_from Stopped (drop a (take behind_edit edited))
      → more ≡ take (behind_edit - cut) (drop cut (records edited))
  told_below items more is rest =
      let none : 0 ≡ cut - cut = omega arith in
      let first : items ≡ take (a - cut) (drop cut (records edited)) =
      is ∙ passed_told edited cut stays cut cut a [] (omega arith) (omega arith) (omega (arith, below)) (omega (arith, many_rows, records_length edited)) (ap (λ k. take k (drop cut (records edited))) none) in
      rest ∙ passed_told edited cut stays cut a behind_edit items (omega (arith, below)) (omega (arith, below)) (omega arith) (omega (arith, many_rows, records_length edited)) first

  pub passed_below : (items : List RecordValue) → items ≡ take (behind_edit - cut) (drop cut (records edited)) → (next : Option ℕ) (old_end last : ℕ)
      → StopsPassed es (Some cut) (kind_after None (take behind_edit (splice es cut b items))) b behind_edit old_end last (length edited) next
      → WasRescanned es ps edited next a b (length ns) cut old_end last (length ns) (items ++ records_from Stopped (drop behind_edit (take last edited)))
  passed_below items told next old_end last ends =
      let here : b ≡ behind_edit - behind_edit + b = omega arith in
      let bounds = passed_bounds es (Some cut) (kind_after None (take behind_edit (splice es cut b items))) b behind_edit old_end last (length edited) next ends (omega (arith, many_rows, count_rows, within))
      (omega (arith, count_rows, within)) (omega (arith, many_rows)) in
      let low : behind_edit ≤ last = bounds.0 in
      let least : b ≤ old_end = bounds.3 in
      passed_to ps ns a b ordered within (Some cut) es h cut behind_edit items
      (record {
        front = h.front ∙ records_above ps ns a b ordered within cut Stopped below h.stopped;
        told = told;
        low = omega (arith, below);
        high = omega (arith, many_rows);
        halt = cut;
        above = omega (arith, below);
        stopped = stays;
      })
      (omega arith) (omega (arith, below, ordered)) old_end last low bounds.1 bounds.2 (omega (arith, least, below, ordered)) next
      (subst (λ k. StopsPassed es (Some cut) (kind_after None (take behind_edit (splice es cut k items))) k behind_edit old_end last (length edited) next) here ends) (length ns)
      (λ len same. record { within = omega (arith, len, many_rows, below); front = λ lost start. absurd (differ _ h.start lost) })
      (record { above = inl below; old_lines = least; new_lines = low }) (work_below last)
