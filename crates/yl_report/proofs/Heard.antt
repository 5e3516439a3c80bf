-- A report is what is left of the one that no comment silences.
use Rattle.std.proofs.Common.{◌≡◌, ℕ, ◌-◌, Bool, true, false, List, [], ◌∷◌, Option, Some, None, refl, ap, sym, ◌∙◌, cond}
use Rattle.std.specs.Prelude.{◌&&◌, ◌||◌, not, is_some}
use Rattle.std.specs.List.{AllByRecursion, filter, filter_map, cons_option}
use Rattle.std.specs.List.Sorted.{IsStrictlySortedBy}
use Rattle.std.specs.Option.{option_map}
use Rattle.std.specs.declared.cmp.Ordering.TheVariants.{Less}
use Rattle.yl_text.specs.Finding.{FindingValue}
use Rattle.yl_text.specs.declared.finding.RuleId.{RuleId}
use Rattle.yl_rules.specs.declared.level.Level.{Level}
use Rattle.yl_rules.specs.Levels.{LevelTable}
use Rattle.yl_report.specs.Heard.{heard, is_heard, nothing_silenced}
use Rattle.yl_report.specs.Report.{ProblemValue, finding_order, is_reported, is_syntax, report_of, sorted_once, with_level}
use Rattle.yl_report.proofs.Filtered.{all_filter, filter_in, in_filter}
use Rattle.yl_report.proofs.Inserted.{sorted_once_arranged}
use Rattle.yl_report.proofs.Unique.{from_in, in_from, one_arrangement}

-- ---- what passes is in order

strict_cond : (b : Bool) (x : FindingValue) (ys : List FindingValue) → AllByRecursion (λ z. finding_order x z ≡ Less) ys → IsStrictlySortedBy finding_order ys → IsStrictlySortedBy finding_order (cond b (x ∷ ys) ys)
unfolding IsStrictlySortedBy
strict_cond true x ys a s = (a, s)
strict_cond false x ys a s = s

strict_filter : (p : FindingValue → Bool) (xs : List FindingValue) → IsStrictlySortedBy finding_order xs → IsStrictlySortedBy finding_order (filter p xs)
unfolding IsStrictlySortedBy
strict_filter p [] s = s
strict_filter p (x ∷ xs) s = strict_cond (p x) x (filter p xs) (all_filter (λ z. finding_order x z ≡ Less) p xs s.0) (strict_filter p xs s.1)

pub sorted_filter : (p : FindingValue → Bool) (xs : List FindingValue) → sorted_once (filter p xs) ≡ filter p (sorted_once xs)
sorted_filter p xs =
    let ys = sorted_once xs in
    let a = sorted_once_arranged xs in
    one_arrangement (filter p xs) (sorted_once (filter p xs)) (filter p ys) (sorted_once_arranged (filter p xs)) (record {
      sorted = strict_filter p ys a.sorted;
      all = λ f h. let r = in_filter p f xs (in_from f (filter p xs) h) in from_in f (filter p ys) (filter_in p f ys (in_from f ys (a.all f (from_in f xs r.0))) r.1);
      only = λ f h. let r = in_filter p f ys (in_from f (filter p ys) h) in from_in f (filter p xs) (filter_in p f xs (in_from f xs (a.only f (from_in f ys r.0))) r.1);
    })

-- ---- what passes twice

-- nothing silences it
abbrev is_free : (RuleId → ℕ → Bool) → FindingValue → Bool
is_free s f = is_syntax f.rule || not (s f.rule (f.line - 1))

both : (is_on syntax free : Bool) (x : FindingValue) (ys zs : List FindingValue) (p : FindingValue → Bool) → p x ≡ (syntax || free) → filter p ys ≡ zs
    → filter p (cond (is_on && (syntax || true)) (x ∷ ys) ys) ≡ cond (is_on && (syntax || free)) (x ∷ zs) zs
both false syntax free x ys zs p e h = h
both true true free x ys zs p e h = ap (λ (b : Bool). cond b (x ∷ filter p ys) (filter p ys)) e ∙ ap (λ (vs : List FindingValue). x ∷ vs) h
both true false free x ys zs p e h = ap (λ (b : Bool). cond b (x ∷ filter p ys) (filter p ys)) e ∙ ap (λ (vs : List FindingValue). cond free (x ∷ vs) vs) h

filter_free : (levels : LevelTable) (s : RuleId → ℕ → Bool) (xs : List FindingValue) → filter (is_free s) (filter (is_reported levels nothing_silenced) xs) ≡ filter (is_reported levels s) xs
filter_free levels s [] = refl
filter_free levels s (x ∷ xs) =
    both (is_some (levels x.rule)) (is_syntax x.rule) (not (s x.rule (x.line - 1))) x (filter (is_reported levels nothing_silenced) xs) (filter (is_reported levels s) xs) (is_free s) refl (filter_free levels s xs)

-- ---- levels

abbrev with : Option Level → FindingValue → Option ProblemValue
with o f = option_map (λ level. record { line = f.line; column = f.column; level = level; rule = f.rule; message = f.message }) o

same_cond : (b : Bool) (ps : List ProblemValue) → ps ≡ cond b ps ps
same_cond true ps = refl
same_cond false ps = refl

heard_one : (s : RuleId → ℕ → Bool) (o : Option Level) (x : FindingValue) (ps : List ProblemValue) → filter (is_heard s) (cons_option (with o x) ps) ≡ cond (is_free s x) (cons_option (with o x) (filter (is_heard s) ps)) (filter (is_heard s) ps)
heard_one s None x ps = same_cond (is_free s x) (filter (is_heard s) ps)
heard_one s (Some level) x ps = refl

with_cond : (levels : LevelTable) (b : Bool) (x : FindingValue) (fs : List FindingValue)
    → cond b (cons_option (with (levels x.rule) x) (filter_map (with_level levels) fs)) (filter_map (with_level levels) fs) ≡ filter_map (with_level levels) (cond b (x ∷ fs) fs)
with_cond levels true x fs = refl
with_cond levels false x fs = refl

heard_levels : (levels : LevelTable) (s : RuleId → ℕ → Bool) (xs : List FindingValue) → filter (is_heard s) (filter_map (with_level levels) xs) ≡ filter_map (with_level levels) (filter (is_free s) xs)
heard_levels levels s [] = refl
heard_levels levels s (x ∷ xs) =
    heard_one s (levels x.rule) x (filter_map (with_level levels) xs)
    ∙ (ap (λ (ps : List ProblemValue). cond (is_free s x) (cons_option (with (levels x.rule) x) ps) ps) (heard_levels levels s xs) ∙ with_cond levels (is_free s x) x (filter (is_free s) xs))

pub heard_report : (levels : LevelTable) (is_file_silenced : Bool) (s : RuleId → ℕ → Bool) (found : List FindingValue) → heard is_file_silenced s (report_of levels false nothing_silenced found) ≡ report_of levels is_file_silenced s found
heard_report levels true s found = refl
heard_report levels false s found =
    let free = filter (is_reported levels nothing_silenced) found in
    heard_levels levels s (sorted_once free)
    ∙ ap (filter_map (with_level levels)) (sym (sorted_filter (is_free s) free) ∙ ap sorted_once (filter_free levels s found))
