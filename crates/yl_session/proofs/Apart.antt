-- The lines of the sections that an edit touches stand apart from the others: a section begins with a line that is not empty.
use Rattle.std.proofs.Common.{◌≡◌, ℕ, zero, suc, ◌+◌, ◌-◌, ◌<◌, ◌≤◌, ◌==◌, ◌⊎◌, Bool, true, false, not, inl, inr, List, [], ◌∷◌, ◌++◌, length, map, take, drop, Option, Some, None, refl, ap, sym, ◌∙◌, arith}
use Rattle.std.specs.Prelude.{slice_get}
use Rattle.std.specs.List.{splice}
use Rattle.std.specs.Str.{chars}
use Rattle.std.proofs.lemmas.Bool.{cases_lt}
use Rattle.std.proofs.lemmas.Bool.Decides.{eqb_tells}
use Rattle.yl_text.specs.Lines.{RowValue}
use Rattle.yl_text.specs.Store.{IsRange}
use Rattle.yl_record.specs.Records.{RecordValue, characters_in}
use Rattle.yl_sections.specs.Judge.{kept_of_section}
use Rattle.yl_sections.specs.Kept.{KeptValue, rows_kept}
use Rattle.yl_sections.specs.Local.{is_start_at}
use Rattle.yl_sections.specs.Sections.{sections}
use Rattle.yl_config.specs.declared.config.Config.{Config}
use Rattle.yl_sections.specs.Alike.{GoOnAlike}
use Rattle.yl_rejudge.specs.Places.{AllStay, AreAround}
use Rattle.yl_sections.proofs.KeptRows.{rows_front}
use Rattle.yl_sections.proofs.SectionStarts.{not_first, start_there, starts_past}
use Rattle.yl_rejudge.proofs.SectionsEdited.{count_kept, rows_of_kept, rows_to}
use Rattle.yl_rescan.specs.Held.{AreHeld}
use Rattle.yl_rescan.specs.Made.{HoldsEdit}
use Rattle.yl_rescan.proofs.Edits.{length-spliced}
use Rattle.yl_rescan.proofs.Filled.{start_filled}
use Rattle.yl_edited_lines.specs.Edit.{IsTextEdit}
use Rattle.yl_summary.proofs.Walks.{rows_both, rows_until}
use Rattle.yl_problem_lists.proofs.Lines.{part}
use Rattle.yl_patch.specs.Cut.{IsApart, is_filled}
use Rattle.yl_session.specs.Touched.{IsTouching}
use Rattle.yl_session.proofs.Bounds.{count_records}
use Rattle.yl_session.proofs.Renewed.{has_row}

-- ---- lines that are not empty

none_in : chars [] ≡ []
unfolding chars
none_in = refl

not_none : (n : ℕ) → (n ≡ 0 → ⊥) → not (n == 0) ≡ true
not_none n some = elim (eqb_tells n 0) [
  | inl e ↦ absurd (some e.1)
  | inr e ↦ ap not e.0
]

some_text : (text : List ℕ) → (Some (chars text) ≡ Some [] → ⊥) → not (length text == 0) ≡ true
some_text [] h = absurd (h (ap (λ (t : List ℕ). Some t) none_in))
some_text (c ∷ cs) h = not_none (length (c ∷ cs)) (λ e. omega (arith, e))

filled : (ps : List RowValue) (i : ℕ) → i < length ps → (slice_get (characters_in ps) i ≡ Some [] → ⊥) → is_filled (slice_get ps i) ≡ true
filled [] i l h = absurd (omega (arith, l))
filled (p ∷ ps) zero l h = some_text p.text h
filled (p ∷ ps) (suc i) l h = filled ps i (omega (arith, l)) h

-- a section that is not the first begins with one
module _ (config : Config) (ps : List RowValue) (cut : Option ℕ) (rs : List RecordValue) (held : AreHeld (characters_in ps) cut rs) (ks : List KeptValue) (is : ks ≡ map (kept_of_section config) (sections rs)) where
  pub total : rows_kept ks ≡ length ps
  total = omega (arith, rows_of_kept config rs ks is, count_records ps cut rs held)

  start : (i : ℕ) → 0 < i → i < length ks → is_start_at rs (rows_kept (take i ks)) ≡ true
  start i some there = ap (λ n. is_start_at rs n) (rows_to config rs ks i is) ∙ start_there rs i some (omega (arith, there, count_kept config rs ks is))

  within : (i : ℕ) → is_start_at rs i ≡ true → i < length ps
  within i begins = elim (cases_lt i (length rs)) [
    | inl l ↦ omega (arith, l, count_records ps cut rs held)
    | inr l ↦ let e : true ≡ false = sym begins ∙ starts_past None rs i (omega (arith, l)) in absurd (cc)
  ]

  some_before : (i : ℕ) → 0 < rows_kept (take i ks) → 0 < i
  some_before zero l = absurd (omega (arith, l))
  some_before (suc i) l = omega arith

  pub begins_filled : (i x : ℕ) → i < length ks → x ≡ rows_kept (take i ks) → 0 < x → is_filled (slice_get ps x) ≡ true
  begins_filled i x there e some =
      let begins = start i (some_before i (omega (arith, e, some))) there in
      let here : is_start_at rs x ≡ true = ap (λ n. is_start_at rs n) e ∙ begins in
      filled ps x (within x here) (λ none. start_filled (characters_in ps) cut rs held x here none)

  -- sections up to one have rows, or there is none behind it
  pub some_upto : (i : ℕ) → 0 < i → (length ks ≤ i) ⊎ (0 < rows_kept (take i ks))
  some_upto i some = elim (cases_lt i (length ks)) [
    | inl there ↦ inr (by (rows_kept (take i ks)) (start i some there))
    | inr past ↦ inl (omega (arith, past))
  ] where
    by : (n : ℕ) → is_start_at rs n ≡ true → 0 < n
    by zero h = let e : true ≡ false = sym h ∙ not_first rs in absurd (cc)
    by (suc n) h = omega arith

  pub never_first : is_start_at rs 0 ≡ true → ⊥
  never_first h = let e : true ≡ false = sym h ∙ not_first rs in absurd (cc)

all_taken : (ks : List KeptValue) (i : ℕ) → length ks ≤ i → rows_kept (take i ks) ≡ rows_kept ks
all_taken [] zero l = refl
all_taken [] (suc i) l = refl
all_taken (k ∷ ks) zero l = absurd (omega (arith, l))
all_taken (k ∷ ks) (suc i) l = ap (λ n. k.rows + n) (all_taken ks i (omega (arith, l)))

front_joined : (ks ls : List KeptValue) (f : ℕ) → f ≤ length ks → take f (take f ks ++ ls) ≡ take f ks
front_joined ks ls zero l = refl
front_joined [] ls (suc f) l = absurd (omega (arith, l))
front_joined (k ∷ ks) ls (suc f) l = ap (λ (xs : List KeptValue). k ∷ xs) (front_joined ks ls f (omega (arith, l)))

front_spliced : (ks new : List KeptValue) (f e : ℕ) → f ≤ length ks → rows_kept (take f (splice ks f e new)) ≡ rows_kept (take f ks)
front_spliced ks new f e l = ap rows_kept (front_joined ks (new ++ drop e ks) f l)

-- ---- an edit

module _ (config : Config) (rows ins : List RowValue) (a b : ℕ) (text : IsTextEdit rows a b ins) (cut cut' : Option ℕ) (rs us : List RecordValue) (held : AreHeld (characters_in rows) cut rs)
    (held' : AreHeld (characters_in (splice rows a b ins)) cut' us) (ks : List KeptValue) (is : ks ≡ map (kept_of_section config) (sections rs)) (f e : ℕ) (new : List KeptValue) (range : IsRange f e (length ks))
    (is' : splice ks f e new ≡ map (kept_of_section config) (sections us)) (from old_end end : ℕ) (holds : HoldsEdit a b (length ins) from old_end end) where
  abbrev after : List RowValue
  after = splice rows a b ins

  abbrev ls : List KeptValue
  ls = splice ks f e new

  abbrev x : ℕ
  x = rows_kept (take f ks)

  grown : length after ≡ a + length ins + (length rows - b)
  grown = length-spliced rows ins a b text.range.ordered text.range.within

  some_old : 0 < length rows
  some_old = has_row rows text.old

  some_new : 0 < length after
  some_new = has_row after text.new

  count : length ls ≡ f + length new + (length ks - e)
  count = length-spliced ks new f e range.ordered range.within

  sum_old : rows_kept (take e ks) + rows_kept (drop e ks) ≡ length rows
  sum_old = omega (arith, rows_both (take e ks) (drop e ks), ap rows_kept (part e ks), total config rows cut rs held ks is)

  sum_new : x + (rows_kept new + rows_kept (drop e ks)) ≡ length after
  sum_new = omega (arith, rows_both (take f ks) (new ++ drop e ks), rows_both new (drop e ks), total config after cut' us held' ls is')

  fits : x + rows_kept new + b ≡ rows_kept (take e ks) + a + length ins
  fits = omega (arith, sum_old, sum_new, grown, text.range.ordered, text.range.within)

  old_filled : 0 < x → f < length ks → is_filled (slice_get rows x) ≡ true
  old_filled some there = begins_filled config rows cut rs held ks is f x there refl some

  new_filled : 0 < x → f < length ls → is_filled (slice_get after x) ≡ true
  new_filled some there =
      begins_filled config after cut' us held' ls is' f x there (sym (front_spliced ks new f e (omega (arith, range.ordered, range.within)))) some

  behind_filled : (i : ℕ) → 0 < rows_kept (take i ks) → rows_kept (take i ks) < length rows → is_filled (slice_get rows (rows_kept (take i ks))) ≡ true
  behind_filled i some low = elim (cases_lt i (length ks)) [
    | inl there ↦ begins_filled config rows cut rs held ks is i (rows_kept (take i ks)) there refl some
    | inr past ↦ absurd (omega (arith, low, all_taken ks i (omega (arith, past)), total config rows cut rs held ks is))
  ]

  -- a section with rows before which not all stand is there
  there_by : (i : ℕ) → rows_kept (take i ks) < length rows → i < length ks
  there_by i low = elim (cases_lt i (length ks)) [
    | inl there ↦ there
    | inr past ↦ absurd (omega (arith, low, all_taken ks i (omega (arith, past)), total config rows cut rs held ks is))
  ]

  -- ---- sections become others

  module _ (around : AreAround ks us from old_end end f e) (alike : GoOnAlike rs us old_end end) (goes_on : length us + old_end ≡ length rs + end) where
    abbrev y : ℕ
    y = rows_kept (take e ks)

    abbrev Reaches : Type 0
    Reaches = (b ≤ y) × (x < y) × (0 < rows_kept new)

    reaches : Reaches
    reaches = elim around.last [
      | inl all ↦
          let whole : y ≡ length rows = all_taken ks e (omega (arith, all)) ∙ total config rows cut rs held ks is in
          elim holds.above [
            | inl above ↦ (omega (arith, whole, text.range.within), omega (arith, whole, around.first, above, text.range.ordered, text.range.within), omega (arith, fits, whole, around.first, above, text.range.within))
            | inr first ↦ (omega (arith, whole, text.range.within), omega (arith, whole, around.first, first, some_old), omega (arith, sum_new, sum_old, whole, around.first, first, some_new))
          ]
      | inr begins ↦
          let low : old_end ≤ y = begins.0 in
          elim holds.above [
            | inl above ↦ (omega (arith, low, holds.old_lines), omega (arith, low, holds.old_lines, text.range.ordered, around.first, above), omega (arith, fits, low, holds.old_lines, around.first, above))
            | inr first ↦ (omega (arith, low, holds.old_lines), some_lines low begins.1 first, some_sections low begins.1 first)
          ]
    ] where
      zero_none : (n : ℕ) → (n ≡ 0 → ⊥) → 0 < n
      zero_none zero h = absurd (h refl)
      zero_none (suc n) h = omega arith

      some_lines : old_end ≤ y → is_start_at us (y - old_end + end) ≡ true → from ≡ 0 → x < y
      some_lines low begins first =
          let some : 0 < y = zero_none y (λ none.
          let at : end + 0 ≡ y - old_end + end = omega (arith, none, low) in
          let here : is_start_at us (end + 0) ≡ true = ap (λ n. is_start_at us n) at ∙ begins in
          let at_old : 0 ≡ old_end + 0 = omega (arith, none, low) in
          let was : is_start_at rs 0 ≡ true = ap (λ n. is_start_at rs n) at_old ∙ alike 0 here in
          never_first config rows cut rs held ks is was) in
          omega (arith, some, around.first, first)

      some_sections : old_end ≤ y → is_start_at us (y - old_end + end) ≡ true → from ≡ 0 → 0 < rows_kept new
      some_sections low begins first = zero_none (rows_kept new) (λ none.
          let at : 0 ≡ y - old_end + end =
          omega (arith, none, fits, low, around.first, first, holds.old_lines, goes_on, grown, text.range.within, text.range.ordered, count_records rows cut rs held, count_records after cut' us held') in
          let here : is_start_at us 0 ≡ true = ap (λ n. is_start_at us n) at ∙ begins in
          never_first config after cut' us held' ls is' here)

    some_come : new ≡ [] → ⊥
    some_come none = let n = ap rows_kept none in omega (arith, n, reaches.2)

    apart : IsApart rows ins a b x y (rows_kept new)
    apart = record {
      begins = elim holds.above [ inl above ↦ omega (arith, around.first, above) | inr first ↦ omega (arith, around.first, first) ];
      ends = reaches.0;
      back = omega (arith, sum_old);
      old_some = reaches.1;
      new_some = reaches.2;
      fits = fits;
      old_seam = λ some. old_filled some (there_by f (omega (arith, sum_old, reaches.1)));
      new_seam = λ some. new_filled some (come_there new reaches.2 count);
      behind_seam = λ low. behind_filled e (omega (arith, reaches.1)) low;
    } where
      come_there : (ns : List KeptValue) → 0 < rows_kept ns → length ls ≡ f + length ns + (length ks - e) → f < length ls
      come_there [] l c = absurd (omega (arith, l))
      come_there (n ∷ ns) l c = omega (arith, c)

    pub others_touch : IsTouching rows ins a b ks f e new
    others_touch = by new some_come apart where
      by : (ns : List KeptValue) → (ns ≡ [] → ⊥) → IsApart rows ins a b x y (rows_kept ns) → IsTouching rows ins a b ks f e ns
      by [] some h = absurd (some refl)
      by (n ∷ ns) some h = record { stay = λ none. absurd (some none); apart = h }

  -- ---- all stay

  module _ (all : AllStay ks new from old_end end f e) where
    abbrev z : ℕ
    z = rows_kept (take (f + 1) ks)

    abbrev one : List KeptValue
    one = take 1 (drop f ks)

    sum_one : z ≡ x + rows_kept one
    sum_one =
        let n : f + 1 - f ≡ 1 = omega arith in
        rows_until ks f (f + 1) (omega arith) (omega (arith, all.holds.there)) ∙ ap (λ k. x + rows_kept (take k (drop f ks))) n

    same : x + b ≡ x + a + length ins
    same = omega (arith, fits, ap rows_kept all.none, ap (λ n. rows_kept (take n ks)) all.same)

    reached : b ≤ z
    reached = omega (arith, holds.old_lines, all.rows, all.holds.last)

    some_one : x < z
    some_one = elim holds.above [
      | inl above ↦ omega (arith, all.holds.first, above, text.range.ordered, reached)
      | inr first ↦
          elim (some_upto config rows cut rs held ks is (f + 1) (omega arith)) [
            | inl past ↦ omega (arith, all.holds.first, first, all_taken ks (f + 1) past, total config rows cut rs held ks is, some_old)
            | inr some ↦ omega (arith, all.holds.first, first, some)
          ]
    ]

    stays_apart : IsApart rows ins a b x z (rows_kept one)
    stays_apart = record {
      begins = elim holds.above [ inl above ↦ omega (arith, all.holds.first, above) | inr first ↦ omega (arith, all.holds.first, first) ];
      ends = reached;
      back = omega (arith, rows_front ks (f + 1), total config rows cut rs held ks is);
      old_some = some_one;
      new_some = omega (arith, sum_one, some_one);
      fits = omega (arith, sum_one, same);
      old_seam = λ some. old_filled some all.holds.there;
      new_seam = λ some. new_filled some (omega (arith, count, all.holds.there, all.same));
      behind_seam = λ low. behind_filled (f + 1) (omega (arith, some_one)) low;
    }

    pub stay_touch : IsTouching rows ins a b ks f e new
    stay_touch = by new all.none where
      by : (ns : List KeptValue) → ns ≡ [] → IsTouching rows ins a b ks f e ns
      by [] none = record { stay = λ nothing. (sym all.same, all.holds.there); apart = stays_apart }
      by (n ∷ ns) none = absurd (cc)
