-- What is known of two parts of sections, together.
use Rattle.std.proofs.Common.{◌≡◌, ℕ, zero, suc, ◌+◌, ◌-◌, ◌<◌, ◌≤◌, true, false, List, [], ◌∷◌, ◌++◌, length, take, drop, get_or, Option, Some, None, refl, ap, sym, subst, ◌∙◌, arith, rules, append-nil, append_assoc, length-append, ⊎_elim}
use Rattle.std.specs.Prelude.{is_some, nat_lt, ◌||◌}
use Rattle.std.specs.List.{AllByRecursion, slice_get, splice}
use Rattle.std.proofs.lemmas.Bool.{cases_lt, le-ltb, lt-ltb}
use Rattle.std.proofs.lemmas.List.{same_lists, places, take_all, length-take, length-drop, take-append-drop, get_or-drop}
use Rattle.std.proofs.lemmas.List.Folds.{list_any_at}
use Rattle.std.proofs.lemmas.Option.{get_or_from_slice_get, slice_get-get_or, slice_get_cases, slice_get_within}
use Rattle.yl_text.proofs.Every.{all_both, all_drop}
use Rattle.yl_indentation.specs.declared.measure.Measure.{Measure}
use Rattle.yl_indentation.specs.Measures.{and_later, measure_of}
use Rattle.yl_sections.specs.Kept.{KeptValue, rows_kept}
use Rattle.yl_summary.specs.Overview.{AreFew, IsFaulty, IsFirstFault, IsOverviewOf, IsSilencingOf, IsSilent, IsSound, IsStart, has_fault}
use Rattle.yl_summary.specs.declared.overview.Overview.{Overview}
use Rattle.yl_summary.specs.declared.overview.Silencing.{Silencing}
use Rattle.yl_sections.proofs.KeptRows.{rows_front}
use Rattle.yl_summary.proofs.Walks.{measured, measured_both, one_more, rows_both}

take_front : {X : Type 0} (xs ys : List X) (n : ℕ) → n ≤ length xs → take n (xs ++ ys) ≡ take n xs
take_front xs ys n l = same_lists _ _ (search (rules, places)) (λ k d h. grind (arith, places))

take_past : {X : Type 0} (xs ys : List X) (n m : ℕ) → n ≡ length xs + m → take n (xs ++ ys) ≡ xs ++ take m ys
take_past xs ys n m e = same_lists _ _ (search (rules, places)) (λ k d h. grind (arith, places))

drop_past : {X : Type 0} (xs ys : List X) (n m : ℕ) → n ≡ length xs + m → drop n (xs ++ ys) ≡ drop m ys
drop_past xs ys n m e = same_lists _ _ (search (rules, places)) (λ k d h. grind (arith, places))

-- ---- the first with a fault

-- a section that stands in other sections too
pub faulty_as : (xs ys : List KeptValue) (m n : ℕ) → (n < length ys → m < length xs) → (n < length ys → (d : KeptValue) → get_or ys n d ≡ get_or xs m d) → IsFaulty xs m → IsFaulty ys n
faulty_as xs ys m n within same faulty = λ k e.
    let l = slice_get_within ys n k e in
    faulty k (slice_get-get_or xs m k (within l) ∙ ap (λ (x : KeptValue). Some x) (sym (same l k) ∙ get_or_from_slice_get ys n k k e))

-- it stands in the former
pub first_front : (ks ls : List KeptValue) (sound row : ℕ) → sound < length ks → IsFirstFault ks sound row → IsFirstFault (ks ++ ls) sound row
first_front ks ls sound row l first =
    let same = take_front ks ls sound (omega (arith, l)) in record {
      upto = record {
        within = omega (arith, l, length-append ks ls);
        sound = subst (λ (xs : List KeptValue). AllByRecursion IsSound xs) (sym same) first.upto.sound;
      };
      next = faulty_as ks (ks ++ ls) sound sound (λ _. l) (λ _ d. grind (arith, places)) first.next;
      rows = first.rows ∙ ap rows_kept (sym same);
    }

-- it stands in the latter
pub first_back : (ks ls : List KeptValue) (n row m there sound lines : ℕ) → length ks ≤ n → IsFirstFault ks n row → IsFirstFault ls m there → sound ≡ length ks + m → lines ≡ rows_kept ks + there → IsFirstFault (ks ++ ls) sound lines
first_back ks ls n row m there sound lines none first later at below =
    let same = take_past ks ls sound m at in
    let all : AllByRecursion IsSound ks = subst (λ (xs : List KeptValue). AllByRecursion IsSound xs) (take_all n ks none) first.upto.sound in record {
      upto = record {
        within = omega (arith, at, later.upto.within, length-append ks ls);
        sound = subst (λ (xs : List KeptValue). AllByRecursion IsSound xs) (sym same) (all_both IsSound ks (take m ls) all later.upto.sound);
      };
      next = faulty_as ls (ks ++ ls) m sound (λ l. omega (arith, l, at, length-append ks ls)) (λ l d. grind (arith, places)) later.next;
      rows = omega (arith, below, later.rows, rows_both ks (take m ls), ap rows_kept same);
    }

-- whether one has a fault
none_has : (ks : List KeptValue) → AllByRecursion IsSound ks → has_fault ks ≡ false
none_has [] h = refl
none_has (k ∷ ks) h = ap (λ (o : Option _). is_some o || has_fault ks) h.0 ∙ none_has ks h.1

one_has : (ks : List KeptValue) (n row : ℕ) → n < length ks → IsFirstFault ks n row → has_fault ks ≡ true
one_has ks n row l first = ⊎_elim (λ s. there s.0 s.2) (λ s. absurd (omega (arith, l, s.0))) (slice_get_cases ks n).1
  where
    there : (k : KeptValue) → slice_get ks n ≡ Some k → has_fault ks ≡ true
    there k e =
        let is = get_or_from_slice_get ks n k k e in
        list_any_at (λ (x : KeptValue). is_some x.fault) ks n k l (ap (λ (x : KeptValue). is_some x.fault) is ∙ first.next k e)

pub fault_told : (ks : List KeptValue) (n row count : ℕ) → count ≡ length ks → IsFirstFault ks n row → nat_lt n count ≡ has_fault ks
fault_told ks n row count e first =
    ⊎_elim (λ l. lt-ltb n count l ∙ sym (one_has ks n row (omega (arith, l, e)) first))
    (λ l. le-ltb n count l ∙ sym (none_has ks (subst (λ (xs : List KeptValue). AllByRecursion IsSound xs) (take_all n ks (omega (arith, l, e))) first.upto.sound))) (cases_lt n count)

-- none has one
pub none_first : (ks : List KeptValue) (n row : ℕ) → IsFirstFault ks n row → has_fault ks ≡ false → length ks ≤ n
none_first ks n row first none =
    ⊎_elim (λ l. let both : true ≡ false = sym (one_has ks n row l first) ∙ none in absurd (cc)) (λ l. l) (cases_lt n (length ks))

-- ---- those that may silence

abbrev pub Silent : List KeptValue → Type 0
Silent ks = AllByRecursion IsSilent ks

drop_both : (ks ls : List KeptValue) (n : ℕ) → Silent (drop n ks) → Silent ls → Silent (drop n (ks ++ ls))
drop_both ks ls zero h g = all_both IsSilent ks ls h g
drop_both [] ls (suc n) h g = all_drop IsSilent ls (suc n) g
drop_both (k ∷ ks) ls (suc n) h g = drop_both ks ls n h g

start_front : (ks ls : List KeptValue) (from row : ℕ) → IsStart ks from row → IsStart (ks ++ ls) from row
start_front ks ls from row s =
    let same = take_front ks ls from s.within in record {
      within = omega (arith, s.within, length-append ks ls);
      silent = subst (λ (xs : List KeptValue). Silent xs) (sym same) s.silent;
      rows = s.rows ∙ ap rows_kept (sym same);
    }

start_back : (ks ls : List KeptValue) (from row at below : ℕ) → Silent ks → IsStart ls from row → at ≡ length ks + from → below ≡ rows_kept ks + row → IsStart (ks ++ ls) at below
start_back ks ls from row at below silent s is lines =
    let same = take_past ks ls at from is in record {
      within = omega (arith, is, s.within, length-append ks ls);
      silent = subst (λ (xs : List KeptValue). Silent xs) (sym same) (all_both IsSilent ks (take from ls) silent s.silent);
      rows = omega (arith, lines, s.rows, rows_both ks (take from ls), ap rows_kept same);
    }

-- none of the latter may
pub silent_later : (ks ls : List KeptValue) (s : Silencing) → IsSilencingOf ks s → Silent ls → IsSilencingOf (ks ++ ls) s
silent_later ks ls s known silent = record {
  start = start_front ks ls s.from s.row known.start;
  within = omega (arith, known.within, length-append ks ls);
  behind = drop_both ks ls s.end known.behind silent;
}

-- none of the former may
pub silent_before : (ks ls : List KeptValue) (s r : Silencing) → Silent ks → IsSilencingOf ls s → r.from ≡ length ks + s.from → r.row ≡ rows_kept ks + s.row → r.end ≡ length ks + s.end → IsSilencingOf (ks ++ ls) r
silent_before ks ls s r silent known from row end = record {
  start = start_back ks ls s.from s.row r.from r.row silent known.start from row;
  within = omega (arith, end, known.within, length-append ks ls);
  behind = subst (λ (xs : List KeptValue). Silent xs) (sym (drop_past ks ls r.end s.end end)) known.behind;
}

-- some of both may
pub both_speak : (ks ls : List KeptValue) (s t r : Silencing) → IsSilencingOf ks s → IsSilencingOf ls t → r.from ≡ s.from → r.row ≡ s.row → r.end ≡ length ks + t.end → IsSilencingOf (ks ++ ls) r
both_speak ks ls s t r known later from row end = record {
  start = rw (from, row) (start_front ks ls s.from s.row known.start);
  within = omega (arith, end, later.within, length-append ks ls);
  behind = subst (λ (xs : List KeptValue). Silent xs) (sym (drop_past ks ls r.end t.end end)) later.behind;
}

-- ---- few sections

pub few_front : (ks : List KeptValue) (n : ℕ) → AreFew ks → AreFew (take n ks)
few_front ks n few = record { sections = omega (arith, few.sections, length-take n ks); rows = omega (arith, few.rows, rows_front ks n) }

pub few_back : (ks : List KeptValue) (n : ℕ) → AreFew ks → AreFew (drop n ks)
few_back ks n few = record {
  sections = omega (arith, few.sections, length-drop n ks);
  rows = omega (arith, few.rows, rows_both (take n ks) (drop n ks), ap rows_kept (take-append-drop n ks));
}

-- ---- all of it

pub overview_both : (ks ls : List KeptValue) (a b r : Overview) → IsOverviewOf ks a → IsOverviewOf ls b → r.sections ≡ a.sections + b.sections → r.rows ≡ a.rows + b.rows → IsFirstFault (ks ++ ls) r.sound r.row → r.whole ≡ and_later a.whole b.whole
    → IsSilencingOf (ks ++ ls) r.silencing → IsOverviewOf (ks ++ ls) r
overview_both ks ls a b r here later sections rows first whole silencing = record {
  sections = omega (arith, sections, here.sections, later.sections, length-append ks ls);
  rows = omega (arith, rows, here.rows, later.rows, rows_both ks ls);
  first = first;
  whole = whole ∙ (ap (λ (m : Measure). and_later m b.whole) here.whole ∙ (ap (and_later _) later.whole ∙ sym (measured_both ks ls)));
  silencing = silencing;
}

-- one section more of some, where no more are counted than there are
pub overview_more : (ks : List KeptValue) (i : ℕ) (k : KeptValue) (a r : Overview) → i < length ks → k ≡ get_or ks i k → AreFew ks → IsOverviewOf (take i ks) a
    → ((xs : List KeptValue) → AreFew (xs ++ k ∷ []) → IsOverviewOf xs a → IsOverviewOf (xs ++ k ∷ []) r) → IsOverviewOf (take (i + 1) ks) r
overview_more ks i k a r l is few here both =
    let more = one_more ks i k l is in
    subst (λ (xs : List KeptValue). IsOverviewOf xs r) (sym more) (both (take i ks) (subst (λ (xs : List KeptValue). AreFew xs) more (few_front ks (i + 1) few)) here)

-- the same of those from one on
pub between_more : (ks : List KeptValue) (from i : ℕ) (k : KeptValue) (a r : Overview) → from ≤ i → i < length ks → k ≡ get_or ks i k → AreFew ks → IsOverviewOf (take (i - from) (drop from ks)) a
    → ((xs : List KeptValue) → AreFew (xs ++ k ∷ []) → IsOverviewOf xs a → IsOverviewOf (xs ++ k ∷ []) r) → IsOverviewOf (take (i + 1 - from) (drop from ks)) r
between_more ks from i k a r up l is few here both =
    let n : i + 1 - from ≡ i - from + 1 = omega (arith, up) in
    let l' : i - from < length (drop from ks) = omega (arith, l, up, length-drop from ks) in
    let is' : k ≡ get_or (drop from ks) (i - from) k = is ∙ (ap (λ j. get_or ks j k) (omega (arith, up)) ∙ sym (get_or-drop from ks (i - from) k)) in
    subst (λ j. IsOverviewOf (take j (drop from ks)) r) (sym n) (overview_more (drop from ks) (i - from) k a r l' is' (few_back ks from few) here both)

none_of : {X : Type 0} (o : Option X) → is_some o ≡ false → o ≡ None
none_of None e = refl
none_of (Some f) e = absurd (cc)

no_items : {X : Type 0} (cs : List X) → length cs ≡ 0 → cs ≡ []
no_items [] e = refl
no_items (c ∷ cs) e = absurd (omega (arith, e))

-- a section without a fault that may silence nothing, behind sections without one
pub plain_more : (ks : List KeptValue) (k : KeptValue) (a r : Overview) → IsOverviewOf ks a → a.sections ≤ a.sound → is_some k.fault ≡ false → length k.comments ≡ 0 → r.sections ≡ a.sections + 1 → r.rows ≡ a.rows + k.rows → r.sound ≡ r.sections → r.row ≡ r.rows
    → r.whole ≡ and_later a.whole (measure_of k.facts) → r.silencing ≡ a.silencing → IsOverviewOf (ks ++ k ∷ []) r
plain_more ks k a r known all none quiet sections rows sound row whole silencing =
    let one : IsFirstFault (k ∷ []) 1 (k.rows + 0) = record {
      upto = record { within = omega arith; sound = (none_of k.fault none, tt) };
      next = λ j e. absurd (omega (arith, slice_get_within (k ∷ []) 1 j e));
      rows = refl;
    } in record {
      sections = omega (arith, sections, known.sections, length-append ks (k ∷ []));
      rows = omega (arith, rows, known.rows, rows_both ks (k ∷ []));
      first = first_back ks (k ∷ []) a.sound a.row 1 (k.rows + 0) r.sound r.row (omega (arith, all, known.sections)) known.first one (omega (arith, sound, sections, known.sections)) (omega (arith, row, rows, known.rows));
      whole = whole ∙ (ap (λ (m : Measure). and_later m (measure_of k.facts)) known.whole ∙ (ap (and_later (measured ks)) (ap measure_of (sym (append-nil k.facts))) ∙ sym (measured_both ks (k ∷ []))));
      silencing = subst (λ (s : Silencing). IsSilencingOf (ks ++ k ∷ []) s) (sym silencing) (silent_later ks (k ∷ []) a.silencing known.silencing (no_items k.comments quiet, tt));
    }

-- ---- of three parts

few_left : (xs ys : List KeptValue) → AreFew (xs ++ ys) → AreFew xs
few_left xs ys few = record { sections = omega (arith, few.sections, length-append xs ys); rows = omega (arith, few.rows, rows_both xs ys) }

abbrev pub Sum : Overview → Overview → Overview → Type 0
Sum a b r = (xs ys : List KeptValue) → AreFew (xs ++ ys) → IsOverviewOf xs a → IsOverviewOf ys b → IsOverviewOf (xs ++ ys) r

pub two_parts : (xs ys all : List KeptValue) (a b r : Overview) → xs ++ ys ≡ all → AreFew all → IsOverviewOf xs a → IsOverviewOf ys b → Sum a b r → IsOverviewOf all r
two_parts xs ys all a b r e few one two sum = subst (λ (zs : List KeptValue). IsOverviewOf zs r) e (sum xs ys (subst (λ (zs : List KeptValue). AreFew zs) (sym e) few) one two)

pub three_parts : (xs ys zs all : List KeptValue) (a b c r s : Overview) → (xs ++ ys) ++ zs ≡ all → AreFew all → IsOverviewOf xs a → IsOverviewOf ys b → IsOverviewOf zs c → Sum a b r → Sum r c s → IsOverviewOf all s
three_parts xs ys zs all a b c r s e few one two three front whole =
    let few' = few_left (xs ++ ys) zs (subst (λ (us : List KeptValue). AreFew us) (sym e) few) in
    two_parts (xs ++ ys) zs all r c s e few (front xs ys few' one two) three whole

pub whole_before : (ks : List KeptValue) (from end : ℕ) (a b c r s : Overview) → from ≤ end → end ≤ length ks → AreFew ks → IsOverviewOf (take from ks) a → IsOverviewOf (take (end - from) (drop from ks)) b → IsOverviewOf (drop end ks) c → Sum a b r → Sum r c s
    → IsOverviewOf ks s
whole_before ks from end a b c r s l h few one two three front whole =
    three_parts (take from ks) (take (end - from) (drop from ks)) (drop end ks) ks a b c r s (same_lists _ _ (search (rules, places)) (λ n d o. grind (arith, places))) few one two three front whole

pub whole_after : (ks ns : List KeptValue) (from end : ℕ) (a b c r s : Overview) → AreFew (splice ks from end ns) → IsOverviewOf (take from ks) a → IsOverviewOf ns b → IsOverviewOf (drop end ks) c → Sum a b r → Sum r c s → IsOverviewOf (splice ks from end ns) s
whole_after ks ns from end a b c r s few one two three front whole =
    three_parts (take from ks) ns (drop end ks) (splice ks from end ns) a b c r s (append_assoc (take from ks) ns (drop end ks)) few one two three front whole

-- ---- the first of some from one on, which stand in a list of their own

module _ (ks : List KeptValue) (at : ℕ) (items : List KeptValue) (count : ℕ) (few : AreFew ks) (lent : take (length items) (drop at ks) ≡ items) where
  pub some_few : AreFew (take count items)
  some_few = few_front items count (subst (λ (xs : List KeptValue). AreFew xs) lent (few_front (drop at ks) (length items) (few_back ks at few)))

pub some_more : (ks : List KeptValue) (from at count : ℕ) (items : List KeptValue) (a b r : Overview) → from ≤ at → count ≤ length items → at + count ≤ length ks → AreFew ks → take (length items) (drop at ks) ≡ items
    → IsOverviewOf (take (at - from) (drop from ks)) a → IsOverviewOf (take count items) b → Sum a b r → IsOverviewOf (take (at + count - from) (drop from ks)) r
some_more ks from at count items a b r l within fits few lent known more sum =
    let first : take count items ≡ take count (drop at ks) = ap (take count) (sym lent) ∙ same_lists _ _ (search (rules, places)) (λ n d o. grind (arith, places)) in
    two_parts (take (at - from) (drop from ks)) (take count items) (take (at + count - from) (drop from ks)) a b r
    (ap (λ (xs : List KeptValue). take (at - from) (drop from ks) ++ xs) first ∙ same_lists _ _ (search (rules, places)) (λ n d o. grind (arith, places))) (few_front (drop from ks) (at + count - from) (few_back ks from few)) known more sum
