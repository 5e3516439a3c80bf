-- Of a report, what passes a test is the report of what passes one; and what holds of all that was found, holds of each problem.
use Rattle.std.proofs.Common.{◌≡◌, ℕ, Bool, true, false, List, [], ◌∷◌, Option, Some, None, refl, ap, sym, ◌∙◌, cond}
use Rattle.std.specs.Prelude.{◌&&◌}
use Rattle.std.specs.List.{AllByRecursion, filter, filter_map, cons_option}
use Rattle.std.specs.List.Sorted.{IsStrictlySortedBy}
use Rattle.std.specs.Option.{option_map}
use Rattle.std.specs.declared.cmp.Ordering.TheVariants.{Less}
use Rattle.yl_text.specs.Finding.{FindingValue}
use Rattle.yl_text.specs.declared.finding.RuleId.{RuleId}
use Rattle.yl_rules.specs.declared.level.Level.{Level}
use Rattle.yl_rules.specs.Levels.{LevelTable}
use Rattle.yl_report.specs.Report.{ProblemValue, finding_order, is_reported, report_of, sorted_once, with_level}
use Rattle.yl_report.proofs.Filtered.{all_filter, filter_in, in_filter}
use Rattle.yl_report.proofs.Inserted.{sorted_once_arranged}
use Rattle.yl_report.proofs.Unique.{from_in, in_from, one_arrangement}
use Rattle.yl_problem_lists.proofs.Ordered.{filter_swap}
use Rattle.yl_lint.proofs.Arranged.{all_sorted}

-- ---- what passes of a list

pub filter_both : {X : Type 0} (p q : X → Bool) (xs : List X) → filter p (filter q xs) ≡ filter (λ x. q x && p x) xs
filter_both p q [] = refl
filter_both {X} p q (x ∷ xs) = at (q x) (filter_both p q xs)
  where
    at : (b : Bool) → filter p (filter q xs) ≡ filter (λ y. q y && p y) xs → filter p (cond b (x ∷ filter q xs) (filter q xs)) ≡ cond (b && p x) (x ∷ filter (λ y. q y && p y) xs) (filter (λ y. q y && p y) xs)
    at true e = ap (λ (ys : List X). cond (p x) (x ∷ ys) ys) e
    at false e = e

-- ---- what passes is in order

strict_cond : (b : Bool) (x : FindingValue) (ys : List FindingValue) → AllByRecursion (λ z. finding_order x z ≡ Less) ys → IsStrictlySortedBy finding_order ys → IsStrictlySortedBy finding_order (cond b (x ∷ ys) ys)
unfolding IsStrictlySortedBy
strict_cond true x ys a s = (a, s)
strict_cond false x ys a s = s

strict_filter : (p : FindingValue → Bool) (xs : List FindingValue) → IsStrictlySortedBy finding_order xs → IsStrictlySortedBy finding_order (filter p xs)
unfolding IsStrictlySortedBy
strict_filter p [] s = s
strict_filter p (x ∷ xs) s = strict_cond (p x) x (filter p xs) (all_filter (λ z. finding_order x z ≡ Less) p xs s.0) (strict_filter p xs s.1)

sorted_filter : (p : FindingValue → Bool) (xs : List FindingValue) → sorted_once (filter p xs) ≡ filter p (sorted_once xs)
sorted_filter p xs =
    let ys = sorted_once xs in
    let a = sorted_once_arranged xs in
    one_arrangement (filter p xs) (sorted_once (filter p xs)) (filter p ys) (sorted_once_arranged (filter p xs)) (record {
      sorted = strict_filter p ys a.sorted;
      all = λ f h. let r = in_filter p f xs (in_from f (filter p xs) h) in from_in f (filter p ys) (filter_in p f ys (in_from f ys (a.all f (from_in f xs r.0))) r.1);
      only = λ f h. let r = in_filter p f ys (in_from f (filter p ys) h) in from_in f (filter p xs) (filter_in p f xs (in_from f xs (a.only f (from_in f ys r.0))) r.1);
    })

-- ---- what passes of a report

-- as a problem of this level
abbrev pub told : Level → FindingValue → ProblemValue
told level f = record { line = f.line; column = f.column; level = level; rule = f.rule; message = f.message }

abbrev with : Option Level → FindingValue → Option ProblemValue
with o f = option_map (λ level. told level f) o

-- a test of problems tests what was found, whatever its level
abbrev pub TestsFound : (ProblemValue → Bool) → (FindingValue → Bool) → Type 0
TestsFound p q = (level : Level) (f : FindingValue) → p (told level f) ≡ q f

module _ (levels : LevelTable) (p : ProblemValue → Bool) (q : FindingValue → Bool) (same : TestsFound p q) where
  same_cond : (b : Bool) (ps : List ProblemValue) → ps ≡ cond b ps ps
  same_cond true ps = refl
  same_cond false ps = refl

  one_told : (o : Option Level) (x : FindingValue) (ps : List ProblemValue) → filter p (cons_option (with o x) ps) ≡ cond (q x) (cons_option (with o x) (filter p ps)) (filter p ps)
  one_told None x ps = same_cond (q x) (filter p ps)
  one_told (Some level) x ps = ap (λ b. cond b (told level x ∷ filter p ps) (filter p ps)) (same level x)

  with_cond : (b : Bool) (x : FindingValue) (fs : List FindingValue)
      → cond b (cons_option (with (levels x.rule) x) (filter_map (with_level levels) fs)) (filter_map (with_level levels) fs) ≡ filter_map (with_level levels) (cond b (x ∷ fs) fs)
  with_cond true x fs = refl
  with_cond false x fs = refl

  all_told : (xs : List FindingValue) → filter p (filter_map (with_level levels) xs) ≡ filter_map (with_level levels) (filter q xs)
  all_told [] = refl
  all_told (x ∷ xs) =
      one_told (levels x.rule) x (filter_map (with_level levels) xs)
      ∙ (ap (λ (ps : List ProblemValue). cond (q x) (cons_option (with (levels x.rule) x) ps) ps) (all_told xs) ∙ with_cond (q x) x (filter q xs))

  pub filter_report : (s : RuleId → ℕ → Bool) (xs : List FindingValue) → filter p (report_of levels false s xs) ≡ report_of levels false s (filter q xs)
  filter_report s xs =
      let reported = filter (is_reported levels s) xs in
      all_told (sorted_once reported) ∙ ap (filter_map (with_level levels)) (sym (sorted_filter q reported) ∙ ap sorted_once (filter_swap q (is_reported levels s) xs))

-- ---- what holds of each problem

module _ (P : FindingValue → Type 0) (Q : ProblemValue → Type 0) (each : (level : Level) (f : FindingValue) → P f → Q (told level f)) (levels : LevelTable) where
  all_with : (o : Option Level) (f : FindingValue) (ps : List ProblemValue) → P f → AllByRecursion Q ps → AllByRecursion Q (cons_option (with o f) ps)
  all_with None f ps p h = h
  all_with (Some level) f ps p h = (each level f p, h)

  all_levels : (xs : List FindingValue) → AllByRecursion P xs → AllByRecursion Q (filter_map (with_level levels) xs)
  all_levels [] h = tt
  all_levels (x ∷ xs) h = all_with (levels x.rule) x (filter_map (with_level levels) xs) h.0 (all_levels xs h.1)

  pub all_report : (file : Bool) (s : RuleId → ℕ → Bool) (xs : List FindingValue) → AllByRecursion P xs → AllByRecursion Q (report_of levels file s xs)
  all_report true s xs h = tt
  all_report false s xs h =
      let reported = filter (is_reported levels s) xs in
      all_levels (sorted_once reported) (all_sorted P reported (all_filter P (is_reported levels s) xs h))
