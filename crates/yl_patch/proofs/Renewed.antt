-- What is found in an edited text, from what was found in the old text and what is found in the touched lines.
use Rattle.std.proofs.Common.{◌≡◌, ℕ, zero, suc, ◌+◌, ◌-◌, ◌<◌, ◌≤◌, ◌==◌, Bool, true, false, List, [], ◌∷◌, ◌++◌, length, map, take, drop, refl, ap, sym, subst, ◌∙◌, arith, rules, append_assoc}
use Rattle.std.specs.List.{AllByRecursion, splice, slice_get, prefix_len}
use Rattle.std.proofs.lemmas.List.{same_lists, places, length-take-le, length-drop}
use Rattle.yl_text.proofs.Every.{all_back, all_both, all_front}
use Rattle.yl_text.specs.Finding.{FindingValue}
use Rattle.yl_text.specs.Lines.{RowValue}
use Rattle.yl_text.specs.Store.{end_of_lines}
use Rattle.yl_text.specs.declared.finding.RuleId.{RuleId}
use Rattle.yl_rules.specs.EmptyLines.{empty_lines}
use Rattle.yl_rules.specs.NewLines.{new_lines}
use Rattle.yl_rules.specs.EndOfFile.{end_of_file}
use Rattle.yl_rules.specs.Levels.{LevelTable}
use Rattle.yl_indentation.specs.declared.measure.Measure.{Measure}
use Rattle.yl_indentation.specs.Measures.{and_later, empty_measure}
use Rattle.yl_settings.specs.declared.options.RuleOptions.{RuleOptions}
use Rattle.yl_config.specs.declared.config.Config.{Config}
use Rattle.yl_config.specs.Config.{levels_of, options_of}
use Rattle.yl_report.specs.Heard.{nothing_silenced}
use Rattle.yl_report.specs.Report.{ProblemValue, report_of}
use Rattle.yl_problem_lists.specs.Parts.{above, behind, is_upto, shifted}
use Rattle.yl_sections.specs.Kept.{KeptValue, items_if, rows_kept}
use Rattle.yl_lint.proofs.Onward.{whole_looks_back}
use Rattle.yl_lint.specs.Onward.{onward_in_sections}
use Rattle.yl_lint.specs.TextReport.{findings_from, findings_in_lines, findings_in_sections, moved, shown}
use Rattle.yl_lint.specs.Unsilenced.{unsilenced_of_kept}
use Rattle.yl_patch.specs.Cut.{IsInside, is_filled}
use Rattle.yl_found.specs.Faultless.{faultless}
use Rattle.yl_found.specs.Found.{found_by}
use Rattle.yl_found.specs.Plain.{IsPlain}
use Rattle.yl_patch.specs.Seen.{measure_upto}
use Rattle.yl_edited_lines.specs.There.{found_there}
use Rattle.yl_edited_lines.specs.declared.there.Ends.{Ends}
use Rattle.yl_patch.specs.declared.touched.Touched.{Touched}
use Rattle.yl_lint.proofs.Arranged.{arranged, arranged_lines, arranged_moved, lower}
use Rattle.yl_lint.proofs.LineParts.{if_none, is_seam, none_by, seam_behind, seam_more}
use Rattle.yl_patch.proofs.Parts.{lines_above, part, part_between, parts_apart, patched, patched_so}
use Rattle.yl_found.proofs.Sections.{no_fault, shown_plain}
use Rattle.yl_summary.proofs.Walks.{measured}

-- ---- what is found in a whole text

pub found_is_part : (o : RuleOptions) (e : Ends) (before : Measure) (rows : List RowValue) (ks : List KeptValue) → found_there o e before rows ks ≡ part o e.begins e.ends before rows ks
found_is_part o e before rows ks =
    let r = findings_from o.row 1 rows in
    let n = items_if e.begins (new_lines o.run.new_line rows) in
    let l = empty_lines o.run.empty_lines rows in
    let z = items_if e.ends (end_of_file rows) in
    let s = onward_in_sections o.indentation 0 before ks in
    append_assoc r (n ++ (l ++ z)) s ∙ ap (λ (fs : List FindingValue). r ++ fs) (append_assoc n (l ++ z) s ∙ ap (λ (fs : List FindingValue). n ++ fs) (append_assoc l z s))

abbrev pub silent : RuleId → ℕ → Bool
silent = nothing_silenced

whole_part : (o : RuleOptions) (rows : List RowValue) (ks : List KeptValue) → findings_in_lines o rows ++ findings_in_sections o.indentation (measured ks) 0 empty_measure ks ≡ part o true true empty_measure rows ks
whole_part o rows ks =
    ap (λ (fs : List FindingValue). findings_in_lines o rows ++ fs) (whole_looks_back o.indentation ks)
    ∙ found_is_part o (record { begins = true; ends = true }) empty_measure rows ks

-- it is that of plain sections
pub found_is : (config : Config) (rows : List RowValue) (ks : List KeptValue) → AllByRecursion IsPlain (faultless ks)
    → found_by config rows ks ≡ arranged (levels_of config) silent (part (options_of config) true true empty_measure rows (faultless ks))
unfolding unsilenced_of_kept
found_is config rows ks plain =
    let o = options_of config in
    let l = levels_of config in
    let qs = faultless ks in
    let end = end_of_lines rows in
    ap (λ (fs : List FindingValue). report_of l false nothing_silenced (findings_in_lines o rows ++ (fs ++ findings_in_sections o.indentation (measured (shown qs)) 0 empty_measure (shown qs)))) (no_fault 0 end qs plain)
    ∙ (ap (λ (seen : List KeptValue). report_of l false nothing_silenced (findings_in_lines o rows ++ findings_in_sections o.indentation (measured seen) 0 empty_measure seen)) (shown_plain qs plain)
    ∙ ap (λ (fs : List FindingValue). report_of l false nothing_silenced fs) (whole_part o rows qs))

-- ---- three parts, of which the second becomes another

-- what is found in them, where indentation in the last one is judged behind facts of this measure
abbrev pub judged_parts : LevelTable → RuleOptions → Measure → List RowValue → List RowValue → List RowValue → List KeptValue → List KeptValue → List KeptValue → List ProblemValue
judged_parts levels o before fs ps bs ks ls ms =
    arranged levels silent (part o true false empty_measure fs ks)
    ++ map (lower (length fs)) (arranged levels silent (part o (if_none fs true) (if_none bs true) (measured ks) ps ls) ++ map (lower (length ps)) (arranged levels silent (part o false true before bs ms)))

module _ (levels : LevelTable) (o : RuleOptions) (p : RowValue) (fs ps bs : List RowValue) (ks ls ms : List KeptValue)
    (plain : AllByRecursion IsPlain ks) (plain' : AllByRecursion IsPlain ls) (plain'' : AllByRecursion IsPlain ms)
    (fit : rows_kept ks ≡ length fs) (fit' : rows_kept ls ≡ length (p ∷ ps)) (seam : is_seam fs (p ∷ ps) ≡ true) (seam' : is_seam (p ∷ ps) bs ≡ true) where
  abbrev front : List ProblemValue
  front = arranged levels silent (part o true false empty_measure fs ks)

  abbrev middle : List ProblemValue
  middle = arranged levels silent (part o (if_none fs true) (if_none bs true) (measured ks) (p ∷ ps) ls)

  abbrev back : Measure → List ProblemValue
  back before = arranged levels silent (part o false true before bs ms)

  three_parts : arranged levels silent (part o true true empty_measure (fs ++ ((p ∷ ps) ++ bs)) (ks ++ (ls ++ ms)))
      ≡ front ++ map (lower (length fs)) (middle ++ map (lower (length (p ∷ ps))) (back (and_later (measured ks) (measured ls))))
  three_parts =
      parts_apart levels silent o true true empty_measure fs (p ∷ (ps ++ bs)) ks (ls ++ ms) plain (all_both IsPlain ls ms plain' plain'') fit (seam_more fs ps (ps ++ bs) p seam)
      ∙ ap (λ (qs : List ProblemValue). front ++ map (lower (length fs)) qs) (parts_apart levels silent o (if_none fs true) true (measured ks) (p ∷ ps) bs ls ms plain' plain'' fit' seam')

  front_between : AllByRecursion (λ f. (0 < f.line) × (f.line ≤ length fs)) (part o true false empty_measure fs ks)
  front_between = part_between o true false empty_measure fs ks (length fs) plain (omega arith) (omega (arith, fit))

  middle_between : AllByRecursion (λ f. (0 < f.line) × (f.line ≤ length (p ∷ ps))) (part o (if_none fs true) (if_none bs true) (measured ks) (p ∷ ps) ls)
  middle_between = part_between o (if_none fs true) (if_none bs true) (measured ks) (p ∷ ps) ls (length (p ∷ ps)) plain' (omega arith) (omega (arith, fit'))

  in_front_lines : AllByRecursion (λ q. (0 < q.line) × (q.line ≤ length fs)) front
  in_front_lines = arranged_lines (λ l. (0 < l) × (l ≤ length fs)) levels silent (part o true false empty_measure fs ks) front_between

  in_middle_lines : AllByRecursion (λ q. (0 < q.line) × (q.line ≤ length (p ∷ ps))) middle
  in_middle_lines =
      arranged_lines (λ l. (0 < l) × (l ≤ length (p ∷ ps))) levels silent (part o (if_none fs true) (if_none bs true) (measured ks) (p ∷ ps) ls) middle_between

  in_back_lines : (before : Measure) → AllByRecursion (λ q. 0 < q.line) (back before)
  in_back_lines before =
      let high = length bs + rows_kept ms in
      let found = part o false true before bs ms in
      arranged_lines (λ l. 0 < l) levels silent found
      (lines_above 0 high found (part_between o false true before bs ms high plain'' (omega arith) (omega arith)))

-- of a text of three parts the second becomes another
module _ (levels : LevelTable) (o : RuleOptions) (ks ls news ms : List KeptValue) (plain : AllByRecursion IsPlain ks) (plain' : AllByRecursion IsPlain ls) (plainₙ : AllByRecursion IsPlain news) (plain'' : AllByRecursion IsPlain ms) where
  abbrev all_of : List RowValue → List KeptValue → List ProblemValue
  all_of rows xs = arranged levels silent (part o true true empty_measure rows xs)

  pub renewed_parts : (fs ps qs bs : List RowValue) → rows_kept ks ≡ length fs → rows_kept ls ≡ length ps → rows_kept news ≡ length qs
      → 0 < length ps → 0 < length qs → is_seam fs ps ≡ true → is_seam fs qs ≡ true → is_seam ps bs ≡ true
      → (i j up down : ℕ) (put old : List ProblemValue) → old ≡ judged_parts levels o (and_later (measured ks) (measured news)) fs ps bs ks ls ms → i ≡ prefix_len (is_upto (length fs)) old → j ≡ prefix_len (is_upto up) old → up ≡ length fs + length ps → down ≡ length fs + length qs
      → (e : Ends) → e.begins ≡ if_none fs true → e.ends ≡ if_none bs true → put ≡ arranged levels silent (map (moved (length fs)) (found_there o e (measured ks) qs news))
      → patched i j put up down old ≡ all_of (fs ++ (qs ++ bs)) (ks ++ (news ++ ms))
  renewed_parts fs [] qs bs f g h some _ _ _ _ _ _ _ _ _ _ _ _ _ _ _ _ _ _ _ = absurd (omega (arith, some))
  renewed_parts fs (p ∷ ps) [] bs f g h _ some _ _ _ _ _ _ _ _ _ _ _ _ _ _ _ _ _ _ = absurd (omega (arith, some))
  renewed_parts fs (p ∷ ps) (q ∷ qs) bs f g h _ _ seam seam' behind_seam i j up down put old old_is i_is j_is up_is down_is e begins ends put_is =
      let first = length fs in
      let n = length (p ∷ ps) in
      let m = length (q ∷ qs) in
      let behind_seam' = seam_behind ps qs bs p q behind_seam in
      let before = and_later (measured ks) (measured news) in
      let a = front levels o p fs ps bs ks ls ms plain plain' plain'' f g seam behind_seam in
      let b = middle levels o p fs ps bs ks ls ms plain plain' plain'' f g seam behind_seam in
      let c = back levels o p fs ps bs ks ls ms plain plain' plain'' f g seam behind_seam before in
      let b' = middle levels o q fs qs bs ks news ms plain plainₙ plain'' f h seam' behind_seam' in
      let found = part o (if_none fs true) (if_none bs true) (measured ks) (q ∷ qs) news in
      let found_between = middle_between levels o q fs qs bs ks news ms plain plainₙ plain'' f h seam' behind_seam' in
      let there : found_there o e (measured ks) (q ∷ qs) news ≡ found =
      found_is_part o e (measured ks) (q ∷ qs) news
      ∙ (ap (λ begins. part o begins e.ends (measured ks) (q ∷ qs) news) begins ∙ ap (λ ends. part o (if_none fs true) ends (measured ks) (q ∷ qs) news) ends) in
      patched_so a b c b' old (all_of (fs ++ ((q ∷ qs) ++ bs)) (ks ++ (news ++ ms))) put first n m i j up down old_is (three_parts levels o q fs qs bs ks news ms plain plainₙ plain'' f h seam' behind_seam')
      (put_is
      ∙ (ap (λ (fs : List FindingValue). arranged levels silent (map (moved first) fs)) there
      ∙ arranged_moved levels silent first found (lines_above 0 m found found_between)))
      (in_front_lines levels o p fs ps bs ks ls ms plain plain' plain'' f g seam behind_seam)
      (in_middle_lines levels o p fs ps bs ks ls ms plain plain' plain'' f g seam behind_seam)
      (in_back_lines levels o p fs ps bs ks ls ms plain plain' plain'' f g seam behind_seam before)
      i_is j_is up_is down_is

-- what is found in a text of three parts
parts_judged : (levels : LevelTable) (o : RuleOptions) (fs ps bs : List RowValue) (ks ls ms : List KeptValue) → AllByRecursion IsPlain ks → AllByRecursion IsPlain ls → AllByRecursion IsPlain ms → rows_kept ks ≡ length fs → rows_kept ls ≡ length ps
    → 0 < length ps → is_seam fs ps ≡ true → is_seam ps bs ≡ true
    → arranged levels silent (part o true true empty_measure (fs ++ (ps ++ bs)) (ks ++ (ls ++ ms))) ≡ judged_parts levels o (and_later (measured ks) (measured ls)) fs ps bs ks ls ms
parts_judged levels o fs [] bs ks ls ms plain plain' plain'' f g some seam seam' = absurd (omega (arith, some))
parts_judged levels o fs (p ∷ ps) bs ks ls ms plain plain' plain'' f g some seam seam' = three_parts levels o p fs ps bs ks ls ms plain plain' plain'' f g seam seam'

-- ---- an edit

-- a seam where one side has no line, or else the second lines begin with one that is not empty
front_seam : (xs ys : List RowValue) → (if_none xs true ≡ false → is_filled (slice_get ys 0) ≡ true) → is_seam xs ys ≡ true
front_seam [] ys h = refl
front_seam (x ∷ xs) [] h = refl
front_seam (x ∷ xs) (y ∷ ys) h = h refl

back_seam : (xs ys : List RowValue) → (if_none ys true ≡ false → is_filled (slice_get ys 0) ≡ true) → is_seam xs ys ≡ true
back_seam [] ys h = refl
back_seam (x ∷ xs) [] h = refl
back_seam (x ∷ xs) (y ∷ ys) h = h refl

-- a line at the head of what is left
head_dropped : (rows : List RowValue) (i : ℕ) → slice_get (drop i rows) 0 ≡ slice_get rows i
head_dropped rows zero = refl
head_dropped [] (suc i) = refl
head_dropped (r ∷ rs) (suc i) = head_dropped rs i

head_taken : (rows : List RowValue) (n : ℕ) → 0 < n → slice_get (take n rows) 0 ≡ slice_get rows 0
head_taken rows zero l = absurd (omega (arith, l))
head_taken [] (suc n) l = refl
head_taken (r ∷ rs) (suc n) l = refl

filled_there : (rows : List RowValue) (i n : ℕ) → 0 < n → is_filled (slice_get rows i) ≡ true → is_filled (slice_get (take n (drop i rows)) 0) ≡ true
filled_there rows i n l h = ap is_filled (head_taken (drop i rows) n l ∙ head_dropped rows i) ∙ h

three : {X : Type 0} (xs : List X) (i j : ℕ) → i ≤ j → j ≤ length xs → xs ≡ take i xs ++ (take (j - i) (drop i xs) ++ drop j xs)
three xs i j l h = same_lists _ _ (search (rules, places)) (λ n d m. grind (arith, places))

pub spliced_front : {X : Type 0} (xs ns : List X) (a b i : ℕ) → a ≤ b → b ≤ length xs → i ≤ a → take i (splice xs a b ns) ≡ take i xs
spliced_front xs ns a b i l h e = same_lists _ _ (search (rules, places)) (λ n d m. grind (arith, places))

pub spliced_back : {X : Type 0} (xs ns : List X) (a b i j : ℕ) → a ≤ b → b ≤ i → b ≤ length xs → j + b ≡ i + a + length ns → drop j (splice xs a b ns) ≡ drop i xs
spliced_back xs ns a b i j l h m e = same_lists _ _ (search (rules, places)) (λ n d o. grind (arith, places))

pub spliced_length : {X : Type 0} (xs ns : List X) (a b : ℕ) → a ≤ b → b ≤ length xs → length (splice xs a b ns) + b ≡ length xs + a + length ns
spliced_length xs ns a b l h = grind (arith, places)

spliced_three : {X : Type 0} (xs ns : List X) (a b i j k : ℕ) → a ≤ b → b ≤ j → j ≤ length xs → i ≤ a → i ≤ k → k + b ≡ j + a + length ns
    → splice xs a b ns ≡ take i xs ++ (take (k - i) (drop i (splice xs a b ns)) ++ drop j xs)
spliced_three xs ns a b i j k l h m f g e =
    let n : length (splice xs a b ns) + b ≡ length xs + a + length ns = spliced_length xs ns a b l (omega (arith, h, m)) in
    three (splice xs a b ns) i k g (omega (arith, n, e, m))
    ∙ (ap (λ ys. ys ++ (take (k - i) (drop i (splice xs a b ns)) ++ drop k (splice xs a b ns))) (spliced_front xs ns a b i l (omega (arith, h, m)) f)
    ∙ ap (λ ys. take i xs ++ (take (k - i) (drop i (splice xs a b ns)) ++ ys)) (spliced_back xs ns a b j k l h (omega (arith, h, m)) e))

-- what is found in a text whose touched lines and sections are these, where indentation below them is judged behind facts of this measure
abbrev pub found_judged : Config → List RowValue → List KeptValue → ℕ → ℕ → Touched → Measure → List ProblemValue
found_judged config rows kept from end t before =
    judged_parts (levels_of config) (options_of config) before (take t.first rows) (take (t.old_end - t.first) (drop t.first rows)) (drop t.old_end rows) (take from kept) (take (end - from) (drop from kept)) (drop end kept)

module _ (config : Config) (rows ins : List RowValue) (kept new : List KeptValue) (a b from end : ℕ) (t : Touched)
    (ordered : a ≤ b) (within : from ≤ end) (within' : end ≤ length kept) (inside : IsInside t a b (length ins) (length rows)) where
  abbrev rows' : List RowValue
  rows' = splice rows a b ins

  abbrev ks : List KeptValue
  ks = take from kept

  abbrev ls : List KeptValue
  ls = take (end - from) (drop from kept)

  abbrev ms : List KeptValue
  ms = drop end kept

  abbrev fs : List RowValue
  fs = take t.first rows

  abbrev ps : List RowValue
  ps = take (t.old_end - t.first) (drop t.first rows)

  abbrev qs : List RowValue
  qs = take (t.new_end - t.first) (drop t.first rows')

  abbrev bs : List RowValue
  bs = drop t.old_end rows

  rows_three : rows ≡ fs ++ (ps ++ bs)
  rows_three = three rows t.first t.old_end (omega (arith, inside.old_some)) (omega (arith, inside.back))

  rows_three' : rows' ≡ fs ++ (qs ++ bs)
  rows_three' = spliced_three rows ins a b t.first t.old_end t.new_end ordered inside.ends (omega (arith, inside.back)) inside.begins (omega (arith, inside.new_some)) inside.fits

  kept_three : kept ≡ ks ++ (ls ++ ms)
  kept_three = three kept from end within within'

  fs_length : length fs ≡ t.first
  fs_length = length-take-le t.first rows (omega (arith, inside.back, inside.old_some))

  ps_length : length ps ≡ t.old_end - t.first
  ps_length = length-take-le (t.old_end - t.first) (drop t.first rows) (omega (arith, inside.back, inside.old_some, length-drop t.first rows))

  qs_length : length qs ≡ t.new_end - t.first
  qs_length =
      length-take-le (t.new_end - t.first) (drop t.first rows')
      (omega (arith, inside.back, inside.fits, inside.new_some, inside.old_some, length-drop t.first rows', spliced_length rows ins a b ordered (omega (arith, inside.ends, inside.back))))

  bs_length : length bs ≡ length rows - t.old_end
  bs_length = length-drop t.old_end rows

  fs_none : (t.first == 0) ≡ if_none fs true
  fs_none = none_by fs t.first 0 (λ e. omega (arith, fs_length, e)) (λ e. omega (arith, fs_length, e))

  bs_none : (t.old_end == length rows) ≡ if_none bs true
  bs_none = none_by bs t.old_end (length rows) (λ e. omega (arith, bs_length, e, inside.back)) (λ e. omega (arith, bs_length, e))

  module _ (plain : AllByRecursion IsPlain kept) (first : t.first ≡ rows_kept ks) (old_end : t.old_end ≡ t.first + rows_kept ls) (e : Ends) (begins : e.begins ≡ (t.first == 0)) (ends : e.ends ≡ (t.old_end == length rows))
      (filled : e.begins ≡ false → is_filled (slice_get rows t.first) ≡ true) (filled'' : e.ends ≡ false → is_filled (slice_get rows t.old_end) ≡ true) where
    split : AllByRecursion IsPlain (ks ++ (ls ++ ms))
    split = subst (λ xs. AllByRecursion IsPlain xs) kept_three plain

    rest : AllByRecursion IsPlain (ls ++ ms)
    rest = all_back IsPlain ks (ls ++ ms) split

    pub plain_above : AllByRecursion IsPlain ks
    plain_above = all_front IsPlain ks (ls ++ ms) split

    pub plain_there : AllByRecursion IsPlain ls
    plain_there = all_front IsPlain ls ms rest

    pub plain_below : AllByRecursion IsPlain ms
    plain_below = all_back IsPlain ls ms rest

    begins_is : e.begins ≡ if_none fs true
    begins_is = begins ∙ fs_none

    ends_is : e.ends ≡ if_none bs true
    ends_is = ends ∙ bs_none

    seam : is_seam fs ps ≡ true
    seam = front_seam fs ps (λ h. filled_there rows t.first (t.old_end - t.first) (omega (arith, inside.old_some)) (filled (begins_is ∙ h)))

    seam'' : is_seam ps bs ≡ true
    seam'' = back_seam ps bs (λ h. ap is_filled (head_dropped rows t.old_end) ∙ filled'' (ends_is ∙ h))

    pub fit : rows_kept ks ≡ length fs
    fit = omega (arith, first, fs_length)

    pub fit' : rows_kept ls ≡ length ps
    fit' = omega (arith, old_end, ps_length)

    pub end_is : length fs + length ps ≡ t.old_end
    end_is = omega (arith, fs_length, ps_length, inside.old_some)

    -- what was found, where indentation below is judged behind the facts that stood above it
    pub was_judged : arranged (levels_of config) silent (part (options_of config) true true empty_measure rows kept) ≡ found_judged config rows kept from end t (measure_upto (measured ks) ls)
    was_judged =
        let l = levels_of config in
        let o = options_of config in
        ap (λ xs. arranged l silent (part o true true empty_measure rows xs)) kept_three
        ∙ (ap (λ xs. arranged l silent (part o true true empty_measure xs (ks ++ (ls ++ ms)))) rows_three
        ∙ parts_judged l o fs ps bs ks ls ms plain_above plain_there plain_below fit fit' (omega (arith, ps_length, inside.old_some)) seam seam'')

    -- what is found once the edit is made, where indentation below is judged behind the facts that stand above it then
    pub renewed : AllByRecursion IsPlain new → t.new_end ≡ t.first + rows_kept new → (e.begins ≡ false → is_filled (slice_get rows' t.first) ≡ true)
        → (put old : List ProblemValue) → old ≡ found_judged config rows kept from end t (measure_upto (measured ks) new)
        → put ≡ arranged (levels_of config) silent (map (moved t.first) (found_there (options_of config) e (measured ks) qs new))
        → above t.first old ++ (put ++ map (shifted t.old_end t.new_end) (behind t.old_end old)) ≡ arranged (levels_of config) silent (part (options_of config) true true empty_measure rows' (splice kept from end new))
    renewed plainₙ new_end filled' put old old_is put_is =
        let l = levels_of config in
        let o = options_of config in
        let seam' = front_seam fs qs (λ h. filled_there rows' t.first (t.new_end - t.first) (omega (arith, inside.new_some)) (filled' (begins_is ∙ h))) in
        renewed_parts l o ks ls new ms plain_above plain_there plainₙ plain_below fs ps qs bs
        fit fit' (omega (arith, new_end, qs_length)) (omega (arith, ps_length, inside.old_some)) (omega (arith, qs_length, inside.new_some)) seam seam' seam''
        (prefix_len (is_upto t.first) old) (prefix_len (is_upto t.old_end) old) t.old_end t.new_end put old old_is
        (ap (λ n. prefix_len (is_upto n) old) (sym fs_length)) refl (omega (arith, fs_length, ps_length, inside.old_some)) (omega (arith, fs_length, qs_length, inside.new_some))
        e begins_is ends_is (put_is ∙ ap (λ n. arranged l silent (map (moved n) (found_there o e (measured ks) qs new))) (sym fs_length))
        ∙ ap (λ xs. arranged l silent (part o true true empty_measure xs (splice kept from end new))) (sym rows_three')
