-- Lists of problems whose lines are apart are arranged one after another; moved lists are arranged as they are.
use Rattle.std.proofs.Common.{◌≡◌, ℕ, ◌+◌, ◌<◌, ◌≤◌, Bool, true, false, List, [], ◌∷◌, ◌++◌, map, Option, Some, None, refl, ap, sym, ◌∙◌, arith, inl, inr, cond, ◌-◌}
use Rattle.std.specs.Prelude.{◌&&◌, ◌||◌, not, is_some}
use Rattle.std.specs.List.{AllByRecursion, filter, filter_map, cons_option}
use Rattle.std.specs.Option.{option_map}
use Rattle.std.specs.Ordering.{nat_cmp, MatchOrdering, ordering_then}
use Rattle.std.specs.Cmp.{nat_cmp_is, ranked}
use Rattle.std.proofs.lemmas.List.Elements.{filter-append, filter_map-append}
use Rattle.std.specs.declared.cmp.Ordering.{Ordering}
use Rattle.std.specs.declared.cmp.Ordering.TheVariants.{Less, Equal, Greater}
use Rattle.yl_text.specs.Finding.{FindingValue}
use Rattle.yl_text.specs.declared.finding.RuleId.{RuleId}
use Rattle.yl_rules.specs.declared.level.Level.{Level}
use Rattle.yl_rules.specs.Levels.{LevelTable}
use Rattle.yl_report.specs.Report.{ProblemValue, finding_order, order_in_line, insert_once, sorted_once, is_reported, is_syntax, with_level, report_of}
use Rattle.yl_report.proofs.Unique.{one_arrangement}
use Rattle.yl_report.proofs.Filtered.{all_filter, filter_in, in_filter}
use Rattle.yl_report.proofs.Inserted.{insert_by, sorted_once_arranged}
use Rattle.yl_report.proofs.Unique.{In, in_from, from_in}
use Rattle.yl_lint.specs.TextReport.{moved}

-- ---- in order, one after another

by_part : (o : Ordering) (x a : FindingValue) (ps qs behind more : List FindingValue) → more ≡ behind ++ qs → insert_by o x a (ps ++ qs) more ≡ insert_by o x a ps behind ++ qs
by_part Less x a ps qs behind more h = refl
by_part Equal x a ps qs behind more h = refl
by_part Greater x a ps qs behind more h = ap (λ (ys : List FindingValue). a ∷ ys) h

insert_front : (x : FindingValue) (ps qs : List FindingValue) → AllByRecursion (λ y. finding_order x y ≡ Less) qs → insert_once x (ps ++ qs) ≡ insert_once x ps ++ qs
insert_front x [] [] h = refl
insert_front x [] (b ∷ qs) h = ap (λ (o : Ordering). insert_by o x b qs (insert_once x qs)) h.0
insert_front x (a ∷ ps) qs h = by_part (finding_order x a) x a ps qs (insert_once x ps) (insert_once x (ps ++ qs)) (insert_front x ps qs h)

all_by : (P : FindingValue → Type 0) (o : Ordering) (x y : FindingValue) (ys behind : List FindingValue) → P x → P y → AllByRecursion P ys → AllByRecursion P behind → AllByRecursion P (insert_by o x y ys behind)
all_by P Less x y ys behind p q h b = (p, (q, h))
all_by P Equal x y ys behind p q h b = (q, h)
all_by P Greater x y ys behind p q h b = (q, b)

all_insert : (P : FindingValue → Type 0) (x : FindingValue) (ys : List FindingValue) → P x → AllByRecursion P ys → AllByRecursion P (insert_once x ys)
all_insert P x [] p h = (p, tt)
all_insert P x (y ∷ ys) p h = all_by P (finding_order x y) x y ys (insert_once x ys) p h.0 h.1 (all_insert P x ys p h.1)

pub all_sorted : (P : FindingValue → Type 0) (xs : List FindingValue) → AllByRecursion P xs → AllByRecursion P (sorted_once xs)
all_sorted P [] h = tt
all_sorted P (x ∷ xs) h = all_insert P x (sorted_once xs) h.0 (all_sorted P xs h.1)

pub less_line : (x y : FindingValue) → x.line < y.line → finding_order x y ≡ Less
less_line x y l = ap (λ (o : Ordering). ordering_then o (order_in_line x y)) (sym (nat_cmp_is x.line y.line Less l))

above : (n : ℕ) (x : FindingValue) (ys : List FindingValue) → x.line ≤ n → AllByRecursion (λ f. n < f.line) ys → AllByRecursion (λ y. finding_order x y ≡ Less) ys
above n x [] l h = tt
above n x (y ∷ ys) l h = (less_line x y (omega (arith, l, h.0)), above n x ys l h.1)

sorted_apart : (n : ℕ) (xs ys : List FindingValue) → AllByRecursion (λ f. f.line ≤ n) xs → AllByRecursion (λ f. n < f.line) ys → sorted_once (xs ++ ys) ≡ sorted_once xs ++ sorted_once ys
sorted_apart n [] ys h k = refl
sorted_apart n (x ∷ xs) ys h k =
    ap (insert_once x) (sorted_apart n xs ys h.1 k)
    ∙ insert_front x (sorted_once xs) (sorted_once ys) (above n x (sorted_once ys) h.0 (all_sorted (λ f. n < f.line) ys k))

-- ---- moved

compared : (n a b : ℕ) (o : Ordering) → MatchOrdering o (a < b) (a ≡ b) (b < a) → MatchOrdering o (n + a < n + b) (n + a ≡ n + b) (n + b < n + a)
compared n a b Less l = omega (arith, l)
compared n a b Equal e = ap (λ (m : ℕ). n + m) e
compared n a b Greater l = omega (arith, l)

cmp_moved : (n a b : ℕ) → nat_cmp (n + a) (n + b) ≡ nat_cmp a b
cmp_moved n a b = sym (nat_cmp_is (n + a) (n + b) (nat_cmp a b) (compared n a b (nat_cmp a b) (ranked a b (nat_cmp a b) refl)))

order_moved : (n : ℕ) (x y : FindingValue) → finding_order (moved n x) (moved n y) ≡ finding_order x y
order_moved n x y = ap (λ (o : Ordering). ordering_then o (order_in_line x y)) (cmp_moved n x.line y.line)

by_moved : (n : ℕ) (o : Ordering) (x y : FindingValue) (ys behind more : List FindingValue) → more ≡ map (moved n) behind
    → insert_by o (moved n x) (moved n y) (map (moved n) ys) more ≡ map (moved n) (insert_by o x y ys behind)
by_moved n Less x y ys behind more h = refl
by_moved n Equal x y ys behind more h = refl
by_moved n Greater x y ys behind more h = ap (λ (fs : List FindingValue). moved n y ∷ fs) h

insert_moved : (n : ℕ) (x : FindingValue) (ys : List FindingValue) → insert_once (moved n x) (map (moved n) ys) ≡ map (moved n) (insert_once x ys)
insert_moved n x [] = refl
insert_moved n x (y ∷ ys) =
    ap (λ (o : Ordering). insert_by o (moved n x) (moved n y) (map (moved n) ys) (insert_once (moved n x) (map (moved n) ys))) (order_moved n x y)
    ∙ by_moved n (finding_order x y) x y ys (insert_once x ys) (insert_once (moved n x) (map (moved n) ys)) (insert_moved n x ys)

sorted_moved : (n : ℕ) (xs : List FindingValue) → sorted_once (map (moved n) xs) ≡ map (moved n) (sorted_once xs)
sorted_moved n [] = refl
sorted_moved n (x ∷ xs) = ap (insert_once (moved n x)) (sorted_moved n xs) ∙ insert_moved n x (sorted_once xs)

-- ---- reported, where so much is silenced

abbrev reported : LevelTable → (RuleId → ℕ → Bool) → FindingValue → Bool
reported levels s f = is_reported levels s f

abbrev pub arranged : LevelTable → (RuleId → ℕ → Bool) → List FindingValue → List ProblemValue
arranged levels s fs = report_of levels false s fs

-- what is silenced so many lines further down
abbrev pub below : ℕ → (RuleId → ℕ → Bool) → RuleId → ℕ → Bool
below n s rule line = s rule (n + line)

abbrev pub HaveLines : List FindingValue → Type 0
HaveLines fs = AllByRecursion (λ f. 0 < f.line) fs

reported_moved : (levels : LevelTable) (s : RuleId → ℕ → Bool) (n : ℕ) (f : FindingValue) → 0 < f.line → reported levels s (moved n f) ≡ reported levels (below n s) f
reported_moved levels s n f l =
    let line : n + f.line - 1 ≡ n + (f.line - 1) = omega (arith, l) in
    ap (λ k. is_some (levels f.rule) && (is_syntax f.rule || not (s f.rule k))) line

cond_moved : (n : ℕ) (b : Bool) (x : FindingValue) (ys : List FindingValue) → cond b (moved n x ∷ map (moved n) ys) (map (moved n) ys) ≡ map (moved n) (cond b (x ∷ ys) ys)
cond_moved n true x ys = refl
cond_moved n false x ys = refl

filter_moved : (levels : LevelTable) (s : RuleId → ℕ → Bool) (n : ℕ) (xs : List FindingValue) → HaveLines xs → filter (reported levels s) (map (moved n) xs) ≡ map (moved n) (filter (reported levels (below n s)) xs)
filter_moved levels s n [] h = refl
filter_moved levels s n (x ∷ xs) h =
    let rest = filter (reported levels (below n s)) xs in
    ap (λ (fs : List FindingValue). cond (reported levels s (moved n x)) (moved n x ∷ fs) fs) (filter_moved levels s n xs h.1)
    ∙ (ap (λ b. cond b (moved n x ∷ map (moved n) rest) (map (moved n) rest)) (reported_moved levels s n x h.0) ∙ cond_moved n (reported levels (below n s) x) x rest)

-- so many lines further down
abbrev pub lower : ℕ → ProblemValue → ProblemValue
lower n p = record { line = n + p.line; column = p.column; level = p.level; rule = p.rule; message = p.message }

abbrev with : Option Level → FindingValue → Option ProblemValue
with o f = option_map (λ level. record { line = f.line; column = f.column; level = level; rule = f.rule; message = f.message }) o

with_moved : (n : ℕ) (o : Option Level) (f : FindingValue) (fs : List FindingValue) (ps : List ProblemValue) → cons_option (with o (moved n f)) (map (lower n) ps) ≡ map (lower n) (cons_option (with o f) ps)
with_moved n None f fs ps = refl
with_moved n (Some level) f fs ps = refl

levels_moved : (levels : LevelTable) (n : ℕ) (xs : List FindingValue) → filter_map (with_level levels) (map (moved n) xs) ≡ map (lower n) (filter_map (with_level levels) xs)
levels_moved levels n [] = refl
levels_moved levels n (x ∷ xs) =
    ap (λ (ps : List ProblemValue). cons_option (with (levels x.rule) (moved n x)) ps) (levels_moved levels n xs) ∙ with_moved n (levels x.rule) x xs (filter_map (with_level levels) xs)

pub arranged_moved : (levels : LevelTable) (s : RuleId → ℕ → Bool) (n : ℕ) (xs : List FindingValue) → HaveLines xs → arranged levels s (map (moved n) xs) ≡ map (lower n) (arranged levels (below n s) xs)
arranged_moved levels s n xs h =
    let fs = filter (reported levels (below n s)) xs in
    ap (λ (gs : List FindingValue). filter_map (with_level levels) (sorted_once gs)) (filter_moved levels s n xs h)
    ∙ (ap (λ (gs : List FindingValue). filter_map (with_level levels) gs) (sorted_moved n fs) ∙ levels_moved levels n (sorted_once fs))

-- ---- where as much is silenced

-- of what was found, the same is silenced
abbrev AreAlike : (RuleId → ℕ → Bool) → (RuleId → ℕ → Bool) → List FindingValue → Type 0
AreAlike s t fs = AllByRecursion (λ f. s f.rule (f.line - 1) ≡ t f.rule (f.line - 1)) fs

-- ---- lines apart

pub arranged_apart : (levels : LevelTable) (s : RuleId → ℕ → Bool) (n : ℕ) (xs ys : List FindingValue) → AllByRecursion (λ f. f.line ≤ n) xs → AllByRecursion (λ f. n < f.line) ys
    → arranged levels s (xs ++ ys) ≡ arranged levels s xs ++ arranged levels s ys
arranged_apart levels s n xs ys h k =
    let p = reported levels s in
    ap (λ (fs : List FindingValue). filter_map (with_level levels) (sorted_once fs)) (filter-append p xs ys)
    ∙ (ap (λ (fs : List FindingValue). filter_map (with_level levels) fs) (sorted_apart n (filter p xs) (filter p ys) (all_filter (λ f. f.line ≤ n) p xs h) (all_filter (λ f. n < f.line) p ys k))
    ∙ filter_map-append (with_level levels) (sorted_once (filter p xs)) (sorted_once (filter p ys)))

-- the lines of what is arranged
all_with : (P : ℕ → Type 0) (o : Option Level) (f : FindingValue) (ps : List ProblemValue) → P f.line → AllByRecursion (λ p. P p.line) ps → AllByRecursion (λ p. P p.line) (cons_option (with o f) ps)
all_with P None f ps p h = h
all_with P (Some level) f ps p h = (p, h)

all_levels : (P : ℕ → Type 0) (levels : LevelTable) (xs : List FindingValue) → AllByRecursion (λ f. P f.line) xs → AllByRecursion (λ p. P p.line) (filter_map (with_level levels) xs)
all_levels P levels [] h = tt
all_levels P levels (x ∷ xs) h = all_with P (levels x.rule) x (filter_map (with_level levels) xs) h.0 (all_levels P levels xs h.1)

pub arranged_lines : (P : ℕ → Type 0) (levels : LevelTable) (s : RuleId → ℕ → Bool) (xs : List FindingValue) → AllByRecursion (λ f. P f.line) xs → AllByRecursion (λ p. P p.line) (arranged levels s xs)
arranged_lines P levels s xs h =
    let p = reported levels s in
    all_levels P levels (sorted_once (filter p xs)) (all_sorted (λ f. P f.line) (filter p xs) (all_filter (λ f. P f.line) p xs h))

-- ---- the members alone count

pub record AreSame (xs ys : List FindingValue) : Type 0 where
  pub there : (f : FindingValue) → In f xs → In f ys
  pub back : (f : FindingValue) → In f ys → In f xs

sorted_same : (xs ys : List FindingValue) → AreSame xs ys → sorted_once xs ≡ sorted_once ys
sorted_same xs ys s =
    let a = sorted_once_arranged ys in
    one_arrangement xs (sorted_once xs) (sorted_once ys) (sorted_once_arranged xs) (record {
      sorted = a.sorted;
      all = λ f h. a.all f (from_in f ys (s.there f (in_from f xs h)));
      only = λ f h. from_in f xs (s.back f (in_from f ys (a.only f h)));
    })

filter_same : (p : FindingValue → Bool) (xs ys : List FindingValue) → AreSame xs ys → AreSame (filter p xs) (filter p ys)
filter_same p xs ys s = record {
  there = λ f h. let r = in_filter p f xs h in filter_in p f ys (s.there f r.0) r.1;
  back = λ f h. let r = in_filter p f ys h in filter_in p f xs (s.back f r.0) r.1;
}

pub arranged_same : (levels : LevelTable) (s : RuleId → ℕ → Bool) (xs ys : List FindingValue) → AreSame xs ys → arranged levels s xs ≡ arranged levels s ys
arranged_same levels s xs ys same =
    let p = reported levels s in
    ap (λ (fs : List FindingValue). filter_map (with_level levels) fs) (sorted_same (filter p xs) (filter p ys) (filter_same p xs ys same))

-- members of lists one after another
pub in_front : (f : FindingValue) (xs ys : List FindingValue) → In f xs → In f (xs ++ ys)
in_front f [] ys h = absurd h
in_front f (x ∷ xs) ys (inl e) = inl e
in_front f (x ∷ xs) ys (inr h) = inr (in_front f xs ys h)

pub in_behind : (f : FindingValue) (xs ys : List FindingValue) → In f ys → In f (xs ++ ys)
in_behind f [] ys h = h
in_behind f (x ∷ xs) ys h = inr (in_behind f xs ys h)

pub in_either : {G : Type 0} (f : FindingValue) (xs ys : List FindingValue) → In f (xs ++ ys) → (In f xs → G) → (In f ys → G) → G
in_either f [] ys h a b = b h
in_either f (x ∷ xs) ys (inl e) a b = a (inl e)
in_either f (x ∷ xs) ys (inr h) a b = in_either f xs ys h (λ g. a (inr g)) b
