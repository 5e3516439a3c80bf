-- Indentation below an edit, judged anew: all else of what is found there stays.
use Rattle.std.proofs.Common.{◌≡◌, ℕ, ◌+◌, ◌<◌, ◌≤◌, Bool, true, false, List, [], ◌∷◌, ◌++◌, length, map, drop, get_or, ◌^◌, Option, Some, None, refl, ap, sym, subst, ◌∙◌, arith, append_assoc, append-nil}
use Rattle.std.specs.Prelude.{◌&&◌, ◌||◌, IfSome, MatchOption, Vec, not}
use Rattle.std.specs.List.{AllByRecursion, filter}
use Rattle.std.proofs.lemmas.Bool.{and_parts, lt-leb}
use Rattle.std.proofs.lemmas.List.{map-append}
use Rattle.std.proofs.lemmas.List.Elements.{filter-append}
use Rattle.yl_text.proofs.Every.{all_filter, all_then}
use Rattle.yl_text.specs.Finding.{FindingValue}
use Rattle.yl_text.specs.Lines.{RowValue}
use Rattle.yl_text.specs.declared.finding.RuleId.{RuleId}
use Rattle.yl_text.specs.declared.finding.RuleId.TheVariants.{Indentation}
use Rattle.yl_rules.specs.Levels.{LevelTable}
use Rattle.yl_indentation.specs.declared.measure.Measure.{Measure}
use Rattle.yl_indentation.specs.declared.options.IndentationOptions.{IndentationOptions}
use Rattle.yl_indentation.specs.Measures.{and_later, empty_measure, measure_of}
use Rattle.yl_indentation.specs.Onward.{onward_problems}
use Rattle.yl_settings.specs.declared.options.RuleOptions.{RuleOptions}
use Rattle.yl_report.specs.Heard.{nothing_silenced}
use Rattle.yl_report.specs.Report.{ProblemValue, report_of}
use Rattle.yl_problem_lists.specs.Following.{IsJudgedAgain}
use Rattle.yl_problem_lists.specs.Order.{IsInOrder}
use Rattle.yl_problem_lists.specs.Parts.{IsLow, is_upto, stays_judged}
use Rattle.yl_problem_lists.specs.Rooms.{IsIndentation}
use Rattle.yl_problem_lists.specs.Showing.{is_indentation, is_of_lines}
use Rattle.yl_problem_lists.proofs.Faults.{report_in_order}
use Rattle.yl_problem_lists.proofs.Judged.{is_other, judged_behind}
use Rattle.yl_problem_lists.proofs.OfKind.{kind_report}
use Rattle.yl_problem_lists.proofs.InOrder.{passing}
use Rattle.yl_problem_lists.proofs.Ordered.{filter_all, filter_none}
use Rattle.yl_sections.specs.Kept.{KeptValue, rows_kept}
use Rattle.yl_lint.specs.Onward.{indentation_in_sections, onward_in_section, onward_in_sections}
use Rattle.yl_lint.specs.TextReport.{moved}
use Rattle.yl_edited_lines.specs.There.{lines_there}
use Rattle.yl_edited_lines.specs.declared.there.Ends.{Ends}
use Rattle.yl_lint.proofs.Arranged.{arranged, arranged_lines, arranged_moved, lower}
use Rattle.yl_lint.proofs.LineParts.{Between, if_none}
use Rattle.yl_edited_lines.proofs.Pushed.{all_moved, one_at, there_moved}
use Rattle.yl_summary.proofs.Walks.{measured, none_left}
use Rattle.yl_found.specs.Faultless.{faultless}
use Rattle.yl_found.specs.Plain.{IsPlain, is_kept_rule, is_of_section}
use Rattle.yl_patch.proofs.Parts.{above_low_by, above_lower, in_both, in_lower, in_wider, lines_above, part, part_between, upto_false, upto_true}
use Rattle.yl_patch.proofs.Renewed.{found_is_part, judged_parts, silent}
use Rattle.yl_found.proofs.Passing.{all_report}
use Rattle.yl_found.proofs.RuleKinds.{AreOf, indented_of, lines_there_of, moved_of, not_so}
use Rattle.yl_found.proofs.Sections.{sections_between}
use Rattle.yl_found.proofs.WithoutFaults.{rows_faultless}

-- ---- in sections

-- of another rule, and not
abbrev pub is_another : RuleId → Bool
is_another rule = not (is_indentation rule)

abbrev others : List FindingValue → List FindingValue
others fs = filter (λ (f : FindingValue). is_another f.rule) fs

abbrev indentation : List FindingValue → List FindingValue
indentation fs = filter (λ (f : FindingValue). not (is_another f.rule)) fs

module _ (o : IndentationOptions) (line : ℕ) (before : Measure) (k : KeptValue) (plain : IsPlain k) where
  abbrev kept : List FindingValue
  kept = map (moved line) k.found

  abbrev judged : List FindingValue
  judged = map (moved line) (onward_problems o before k.facts)

  judged_of : AreOf is_indentation judged
  judged_of = moved_of is_indentation line (onward_problems o before k.facts) (indented_of is_indentation refl o before k.facts)

  kept_of : AreOf is_another kept
  kept_of = moved_of is_another line k.found (all_then (λ (f : FindingValue). is_kept_rule f.rule ≡ true) (λ (f : FindingValue). is_another f.rule ≡ true) k.found (λ f e. (and_parts (is_of_section f.rule) (is_another f.rule) e).1) plain.rules)

  both : onward_in_section o line before k ≡ kept ++ judged
  both = map-append (moved line) k.found (onward_problems o before k.facts)

  others_in : others (onward_in_section o line before k) ≡ kept
  others_in =
      ap others both
      ∙ (filter-append (λ (f : FindingValue). is_another f.rule) kept judged
      ∙ (ap (λ (fs : List FindingValue). fs ++ others judged) (filter_all (λ (f : FindingValue). is_another f.rule) kept kept_of)
      ∙ (ap (λ (fs : List FindingValue). kept ++ fs) (filter_none (λ (f : FindingValue). is_another f.rule) judged (all_then (λ (f : FindingValue). is_indentation f.rule ≡ true) (λ (f : FindingValue). is_another f.rule ≡ false) judged (λ f e. ap not e) judged_of)) ∙ append-nil kept)))

  indentation_in : indentation (onward_in_section o line before k) ≡ judged
  indentation_in =
      ap indentation both
      ∙ (filter-append (λ (f : FindingValue). not (is_another f.rule)) kept judged
      ∙ (ap (λ (fs : List FindingValue). fs ++ indentation judged) (filter_none (λ (f : FindingValue). not (is_another f.rule)) kept (all_then (λ (f : FindingValue). is_another f.rule ≡ true) (λ (f : FindingValue). not (is_another f.rule) ≡ false) kept (λ f e. ap not e) kept_of))
      ∙ filter_all (λ (f : FindingValue). not (is_another f.rule)) judged (all_then (λ (f : FindingValue). is_indentation f.rule ≡ true) (λ (f : FindingValue). not (is_another f.rule) ≡ true) judged (λ f e. ap (λ b. not (not b)) e) judged_of)))

-- what other rules find is the same behind whatever facts
others_alike : (o : IndentationOptions) (line : ℕ) (one other : Measure) (ks : List KeptValue) → AllByRecursion IsPlain ks → others (onward_in_sections o line one ks) ≡ others (onward_in_sections o line other ks)
others_alike o line one other [] h = refl
others_alike o line one other (k ∷ ks) h =
    let rest = λ (m : Measure). onward_in_sections o (line + k.rows) (and_later m (measure_of k.facts)) ks in
    filter-append (λ (f : FindingValue). is_another f.rule) (onward_in_section o line one k) (rest one)
    ∙ (ap (λ (fs : List FindingValue). fs ++ others (rest one)) (others_in o line one k h.0 ∙ sym (others_in o line other k h.0))
    ∙ (ap (λ (fs : List FindingValue). others (onward_in_section o line other k) ++ fs) (others_alike o (line + k.rows) (and_later one (measure_of k.facts)) (and_later other (measure_of k.facts)) ks h.1)
    ∙ sym (filter-append (λ (f : FindingValue). is_another f.rule) (onward_in_section o line other k) (rest other))))

indentation_apart : (o : IndentationOptions) (line : ℕ) (before : Measure) (ks : List KeptValue) → AllByRecursion IsPlain ks → indentation (onward_in_sections o line before ks) ≡ indentation_in_sections o line before ks
indentation_apart o line before [] h = refl
indentation_apart o line before (k ∷ ks) h =
    let later = and_later before (measure_of k.facts) in
    filter-append (λ (f : FindingValue). not (is_another f.rule)) (onward_in_section o line before k) (onward_in_sections o (line + k.rows) later ks)
    ∙ (ap (λ (fs : List FindingValue). fs ++ indentation (onward_in_sections o (line + k.rows) later ks)) (indentation_in o line before k h.0)
    ∙ ap (λ (fs : List FindingValue). map (moved line) (onward_problems o before k.facts) ++ fs) (indentation_apart o (line + k.rows) later ks h.1))

pub indentation_faultless : (o : IndentationOptions) (line : ℕ) (before : Measure) (ks : List KeptValue) → indentation_in_sections o line before (faultless ks) ≡ indentation_in_sections o line before ks
indentation_faultless o line before [] = refl
indentation_faultless o line before (k ∷ ks) =
    ap (λ (fs : List FindingValue). map (moved line) (onward_problems o before k.facts) ++ fs) (indentation_faultless o (line + k.rows) (and_later before (measure_of k.facts)) ks)

-- ---- in a text of three parts

lines_not_indented : (rule : RuleId) → is_of_lines rule ≡ true → is_another rule ≡ true
lines_not_indented Indentation h = h
lines_not_indented _ h = refl

module _ (levels : LevelTable) (o : RuleOptions) (fs ps bs : List RowValue) (ks ls ms : List KeptValue) (plain : AllByRecursion IsPlain ks) (plain' : AllByRecursion IsPlain ls) (plain'' : AllByRecursion IsPlain ms)
    (fit : rows_kept ks ≡ length fs) (fit' : rows_kept ls ≡ length ps) where
  abbrev up : ℕ
  up = length fs + length ps

  abbrev front : List ProblemValue
  front = arranged levels silent (part o true false empty_measure fs ks)

  abbrev middle : List ProblemValue
  middle = arranged levels silent (part o (if_none fs true) (if_none bs true) (measured ks) ps ls)

  abbrev first_parts : List ProblemValue
  first_parts = front ++ map (lower (length fs)) middle

  abbrev back_part : Measure → List FindingValue
  back_part before = part o false true before bs ms

  abbrev last_part : Measure → List ProblemValue
  last_part before = map (lower (length fs)) (map (lower (length ps)) (arranged levels silent (back_part before)))

  abbrev all_parts : Measure → List ProblemValue
  all_parts before = judged_parts levels o before fs ps bs ks ls ms

  apart : (before : Measure) → all_parts before ≡ first_parts ++ last_part before
  apart before =
      ap (λ (qs : List ProblemValue). front ++ qs) (map-append (lower (length fs)) middle (map (lower (length ps)) (arranged levels silent (back_part before)))) ∙ sym (append_assoc front (map (lower (length fs)) middle) (last_part before))

  in_first : AllByRecursion (λ (q : ProblemValue). is_upto up q ≡ true) first_parts
  in_first =
      let n = length fs in
      let m = length ps in
      let a = arranged_lines (λ l. (0 < l) × (l ≤ n)) levels silent (part o true false empty_measure fs ks) (part_between o true false empty_measure fs ks n plain (omega arith) (omega (arith, fit))) in
      let b = arranged_lines (λ l. (0 < l) × (l ≤ m)) levels silent (part o (if_none fs true) (if_none bs true) (measured ks) ps ls) (part_between o (if_none fs true) (if_none bs true) (measured ks) ps ls m plain' (omega arith) (omega (arith, fit'))) in
      upto_true up 0 up first_parts (omega arith)
      (in_both 0 up front (map (lower n) middle) (in_wider 0 n 0 up front (omega arith) (omega arith) a) (in_wider (n + 0) (n + m) 0 up (map (lower n) middle) (omega arith) (omega arith) (in_lower n 0 m middle b)))

  have_lines : (before : Measure) → AllByRecursion (λ (f : FindingValue). 0 < f.line) (back_part before)
  have_lines before =
      let high = length bs + rows_kept ms in lines_above 0 high (back_part before) (part_between o false true before bs ms high plain'' (omega arith) (omega arith))

  in_last : (before : Measure) → AllByRecursion (λ (q : ProblemValue). is_upto up q ≡ false) (last_part before)
  in_last before =
      let back = arranged levels silent (back_part before) in
      upto_false up up (last_part before) (omega arith)
      (above_low_by (length fs) (length ps) (map (lower (length ps)) back) (above_lower (length ps) back (arranged_lines (λ l. 0 < l) levels silent (back_part before) (have_lines before))))

  abbrev lines_below : List FindingValue
  lines_below = map (moved up) (lines_there o (record { begins = false; ends = true }) bs)

  abbrev found_below : Measure → List FindingValue
  found_below before = lines_below ++ onward_in_sections o.indentation up before ms

  lines_moved : (n : ℕ) (xs : List FindingValue) → AllByRecursion (λ (f : FindingValue). 0 < f.line) xs → AllByRecursion (λ (f : FindingValue). 0 < f.line) (map (moved n) xs)
  lines_moved n [] h = tt
  lines_moved n (x ∷ xs) h = (omega (arith, h.0), lines_moved n xs h.1)

  last_is : (before : Measure) → last_part before ≡ arranged levels silent (found_below before)
  last_is before =
      let n = length fs in
      let m = length ps in
      let e : Ends = record { begins = false; ends = true } in
      let found = back_part before in
      ap (map (lower n)) (sym (arranged_moved levels silent m found (have_lines before)))
      ∙ (sym (arranged_moved levels silent n (map (moved m) found) (lines_moved m found (have_lines before)))
      ∙ (ap (arranged levels silent) (sym (all_moved n m up found refl) ∙ (ap (map (moved up)) (sym (found_is_part o e before bs ms)) ∙ sym (there_moved o e before up bs ms)))))

  lines_of : AreOf is_another lines_below
  lines_of =
      moved_of is_another up (lines_there o (record { begins = false; ends = true }) bs)
      (all_then (λ (f : FindingValue). is_of_lines f.rule ≡ true) (λ (f : FindingValue). is_another f.rule ≡ true) (lines_there o (record { begins = false; ends = true }) bs) (λ f e. lines_not_indented f.rule e) (lines_there_of o (record { begins = false; ends = true }) bs))

  others_below : (before : Measure) → filter is_other (last_part before) ≡ arranged levels silent (lines_below ++ others (onward_in_sections o.indentation up before ms))
  others_below before =
      ap (filter is_other) (last_is before)
      ∙ (kind_report is_another levels silent (found_below before)
      ∙ ap (arranged levels silent) (filter-append (λ (f : FindingValue). is_another f.rule) lines_below (onward_in_sections o.indentation up before ms)
      ∙ ap (λ (xs : List FindingValue). xs ++ others (onward_in_sections o.indentation up before ms)) (filter_all (λ (f : FindingValue). is_another f.rule) lines_below lines_of)))

  indentation_below : (before : Measure) → arranged levels silent (indentation_in_sections o.indentation up before ms) ≡ filter (λ (q : ProblemValue). not (is_other q)) (last_part before)
  indentation_below before =
      sym
      (ap (filter (λ (q : ProblemValue). not (is_other q))) (last_is before)
      ∙ (kind_report (λ rule. not (is_another rule)) levels silent (found_below before)
      ∙ ap (arranged levels silent) (filter-append (λ (f : FindingValue). not (is_another f.rule)) lines_below (onward_in_sections o.indentation up before ms)
      ∙ (ap (λ (xs : List FindingValue). xs ++ indentation (onward_in_sections o.indentation up before ms))
      (filter_none (λ (f : FindingValue). not (is_another f.rule)) lines_below (all_then (λ (f : FindingValue). is_another f.rule ≡ true) (λ (f : FindingValue). not (is_another f.rule) ≡ false) lines_below (λ f e. ap not e) lines_of)) ∙ indentation_apart o.indentation up before ms plain''))))

  -- behind facts of another measure all but the indentation below stays
  pub judged_again : (one other : Measure) → IsInOrder (all_parts one) → IsJudgedAgain up (Some (arranged levels silent (indentation_in_sections o.indentation up other ms))) (all_parts one) (all_parts other)
  judged_again one other order =
      let new = arranged levels silent (indentation_in_sections o.indentation up other ms) in
      let same = others_below other ∙ (ap (λ (xs : List FindingValue). arranged levels silent (lines_below ++ xs)) (others_alike o.indentation up other one ms plain'') ∙ sym (others_below one)) in
      let there = judged_behind up first_parts (last_part one) (last_part other) in_first (in_last one) (in_last other) new
      (subst (λ (qs : List ProblemValue). IsInOrder qs) (apart one) order)
      (subst (λ (qs : List ProblemValue). IsInOrder qs) (sym (last_is other)) (report_in_order levels false silent (found_below other))) same (indentation_below other) in
      subst (λ (qs : List ProblemValue). IsJudgedAgain up (Some new) qs (all_parts other)) (sym (apart one)) (subst (λ (qs : List ProblemValue). IsJudgedAgain up (Some new) (first_parts ++ last_part one) qs) (sym (apart other)) there)

-- ---- found anew, section by section

module _ (o : IndentationOptions) (line next : ℕ) (here later : Measure) (old new total : List FindingValue) (ks : List KeptValue) (i : ℕ) where
  pub pushed_again : (k : KeptValue) → i < length ks → k ≡ get_or ks i k → next ≡ line + k.rows → later ≡ and_later here (measure_of k.facts)
      → new ≡ old ++ map (moved line) (onward_problems o here k.facts) → old ++ indentation_in_sections o line here (drop i ks) ≡ total → new ++ indentation_in_sections o next later (drop (i + 1) ks) ≡ total
  pushed_again k l is row_is later_is put all =
      let one_found = map (moved line) (onward_problems o here k.facts) in
      let rest = drop (i + 1) ks in
      ap (λ (fs : List FindingValue). fs ++ indentation_in_sections o next later rest) put
      ∙ (append_assoc old one_found (indentation_in_sections o next later rest)
      ∙ (ap (λ (n : ℕ). old ++ (one_found ++ indentation_in_sections o n later rest)) row_is
      ∙ (ap (λ (m : Measure). old ++ (one_found ++ indentation_in_sections o (line + k.rows) m rest)) later_is
      ∙ (ap (λ (xs : List KeptValue). old ++ indentation_in_sections o line here xs) (sym (one_at ks i k l is)) ∙ all))))

  pub none_again : length ks ≤ i → old ++ indentation_in_sections o line here (drop i ks) ≡ total → old ≡ total
  none_again l all = sym (append-nil old) ∙ (ap (λ (xs : List KeptValue). old ++ indentation_in_sections o line here xs) (sym (none_left ks i l)) ∙ all)

-- ---- it is indentation behind the lines

module _ (levels : LevelTable) (o : IndentationOptions) (line : ℕ) (before : Measure) (ks : List KeptValue) (plain : AllByRecursion IsPlain (faultless ks)) (few : line + rows_kept ks < 2 ^ 63) where
  abbrev found_again : List FindingValue
  found_again = indentation_in_sections o line before ks

  abbrev told_again : List ProblemValue
  told_again = report_of levels false nothing_silenced found_again

  of_sections : indentation (onward_in_sections o line before (faultless ks)) ≡ found_again
  of_sections = indentation_apart o line before (faultless ks) plain ∙ indentation_faultless o line before ks

  between : Between line (line + rows_kept ks) found_again
  between =
      subst (λ (fs : List FindingValue). Between line (line + rows_kept ks) fs) of_sections
      (all_filter (λ (f : FindingValue). (line < f.line) × (f.line ≤ line + rows_kept ks)) (λ (f : FindingValue). not (is_another f.rule)) (onward_in_sections o line before (faultless ks))
      (sections_between o before line (line + rows_kept ks) (faultless ks) plain (omega (arith, rows_faultless ks))))

  of_rule : AllByRecursion (λ (f : FindingValue). not (is_another f.rule) ≡ true) found_again
  of_rule = subst (λ (fs : List FindingValue). AllByRecursion (λ (f : FindingValue). not (is_another f.rule) ≡ true) fs) of_sections (passing (λ (f : FindingValue). not (is_another f.rule)) (onward_in_sections o line before (faultless ks)))

  told_behind : AllByRecursion (λ (q : ProblemValue). is_upto line q ≡ false) told_again
  told_behind =
      all_report (λ (f : FindingValue). (line < f.line) × (f.line ≤ line + rows_kept ks)) (λ (q : ProblemValue). is_upto line q ≡ false) (λ level f h. lt-leb f.line line h.0) levels false nothing_silenced found_again between

  told_of_rule : AllByRecursion (λ (q : ProblemValue). not (is_another q.rule) ≡ true) told_again
  told_of_rule = all_report (λ (f : FindingValue). not (is_another f.rule) ≡ true) (λ (q : ProblemValue). not (is_another q.rule) ≡ true) (λ level f h. h) levels false nothing_silenced found_again of_rule

  goes : (qs : List ProblemValue) → AllByRecursion (λ (q : ProblemValue). is_upto line q ≡ false) qs → AllByRecursion (λ (q : ProblemValue). not (is_another q.rule) ≡ true) qs → AllByRecursion (λ (q : ProblemValue). stays_judged line q ≡ false) qs
  goes [] a b = tt
  goes (q ∷ qs) a b = (ap (λ c. c || is_another q.rule) a.0 ∙ not_so (is_another q.rule) b.0, goes qs a.1 b.1)

  pub indentation_told : IsIndentation line told_again
  indentation_told = record {
    in_order = report_in_order levels false nothing_silenced found_again;
    low = all_report (λ (f : FindingValue). (line < f.line) × (f.line ≤ line + rows_kept ks)) IsLow (λ level f h. omega (arith, h.1, few)) levels false nothing_silenced found_again between;
    behind = told_behind;
    apart = goes told_again told_behind told_of_rule;
  }

-- the same, where it is there
pub judged_ready : {A : Type 0} (o : Option (Vec ProblemValue A)) (P : Type 0) (line : ℕ) (told : List ProblemValue) → IsIndentation line told → MatchOption o P (λ v. v.items ≡ told) → IfSome o (λ v. IsIndentation line v.items)
judged_ready None P line told is h = tt
judged_ready (Some v) P line told is h = subst (λ (qs : List ProblemValue). IsIndentation line qs) (sym h) is
