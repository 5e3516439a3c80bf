-- The report of a fault among other findings is theirs with the fault in its place.
use Rattle.std.proofs.Common.{◌≡◌, ℕ, ◌-◌, Bool, true, false, cond, List, [], ◌∷◌, ◌++◌, Option, Some, None, refl, ap, sym, ◌∙◌, ◌⊎◌, inl, inr}
use Rattle.std.specs.Prelude.{◌&&◌, ◌||◌, not, is_some, slice_get}
use Rattle.std.specs.List.{AllByRecursion, filter, filter_map, cons_option}
use Rattle.std.specs.List.Sorted.{IsStrictlySortedBy}
use Rattle.std.specs.Option.{option_map}
use Rattle.std.specs.Ordering.{is_lt, ordering_reverse}
use Rattle.std.specs.declared.cmp.Ordering.{Ordering}
use Rattle.std.specs.declared.cmp.Ordering.TheVariants.{Less, Equal, Greater}
use Rattle.yl_text.proofs.Every.{all_both}
use Rattle.yl_text.specs.declared.finding.RuleId.{RuleId}
use Rattle.yl_text.specs.Finding.{FindingValue}
use Rattle.yl_rules.specs.declared.level.Level.{Level}
use Rattle.yl_rules.specs.Levels.{LevelTable}
use Rattle.yl_report.specs.Report.{ProblemValue, finding_order, insert_once, is_reported, is_syntax, report_of, sorted_once, with_level}
use Rattle.yl_report.specs.Told.{finding_told}
use Rattle.yl_report.proofs.Filtered.{filter_in, in_filter}
use Rattle.yl_report.proofs.Inserted.{insert_by, sorted_once_arranged}
use Rattle.yl_report.proofs.Order.{only_equal, order_total}
use Rattle.yl_report.proofs.Unique.{In, from_in, in_from, one_arrangement}
use Rattle.yl_problem_lists.specs.Following.{AreRules}
use Rattle.yl_problem_lists.specs.Order.{IsInOrder, put_in}
use Rattle.yl_problem_lists.specs.Parts.{PartsValue, with_fault}
use Rattle.yl_problem_lists.proofs.Ordered.{order_none}

-- ---- levels

abbrev pub with : Option Level → FindingValue → Option ProblemValue
with o f = option_map (λ level. record { line = f.line; column = f.column; level = level; rule = f.rule; message = f.message }) o

abbrev pub leveled : LevelTable → List FindingValue → List ProblemValue
leveled levels = filter_map (with_level levels)

-- ---- a report is in order

levels_above : (levels : LevelTable) (x : FindingValue) (ys : List FindingValue) → AllByRecursion (λ y. finding_order x y ≡ Less) ys → AllByRecursion (λ q. finding_order x (finding_told q) ≡ Less) (leveled levels ys)
levels_above levels x [] a = tt
levels_above levels x (y ∷ ys) a = at (levels y.rule) (levels_above levels x ys a.1)
  where
    at : (o : Option Level) → AllByRecursion (λ q. finding_order x (finding_told q) ≡ Less) (leveled levels ys) → AllByRecursion (λ q. finding_order x (finding_told q) ≡ Less) (cons_option (with o y) (leveled levels ys))
    at None h = h
    at (Some level) h = (a.0, h)

pub levels_in_order : (levels : LevelTable) (xs : List FindingValue) → IsStrictlySortedBy finding_order xs → IsInOrder (leveled levels xs)
unfolding IsStrictlySortedBy
levels_in_order levels [] s = tt
levels_in_order levels (x ∷ xs) s = at (levels x.rule) (levels_in_order levels xs s.1)
  where
    at : (o : Option Level) → IsInOrder (leveled levels xs) → IsInOrder (cons_option (with o x) (leveled levels xs))
    at None h = h
    at (Some level) h = (levels_above levels x xs s.0, h)

pub report_in_order : (levels : LevelTable) (is_file_silenced : Bool) (silenced : RuleId → ℕ → Bool) (found : List FindingValue) → IsInOrder (report_of levels is_file_silenced silenced found)
report_in_order levels true silenced found = order_none
report_in_order levels false silenced found =
    let kept = filter (is_reported levels silenced) found in levels_in_order levels (sorted_once kept) (sorted_once_arranged kept).sorted

-- ---- a fault put in its place

abbrev told_at : Level → FindingValue → ProblemValue
told_at level x = record { line = x.line; column = x.column; level = level; rule = x.rule; message = x.message }

-- the same place in both orders, where the two are not equal
place : (o : Ordering) (level : Level) (x y : FindingValue) (ys behind : List FindingValue) (q : ProblemValue) (qs later : List ProblemValue) (levels : LevelTable)
    → (o ≡ Equal → ⊥) → levels x.rule ≡ Some level → with_level levels y ≡ Some q → leveled levels ys ≡ qs → leveled levels behind ≡ later
    → leveled levels (insert_by o x y ys behind) ≡ cond (is_lt (ordering_reverse o)) (q ∷ later) (told_at level x ∷ q ∷ qs)
place Less level x y ys behind q qs later levels ne e d h k =
    ap (λ (o : Option Level). cons_option (with o x) (cons_option (with_level levels y) (leveled levels ys))) e
    ∙ (ap (λ (o : Option ProblemValue). told_at level x ∷ cons_option o (leveled levels ys)) d ∙ ap (λ (ps : List ProblemValue). told_at level x ∷ q ∷ ps) h)
place Equal level x y ys behind q qs later levels ne e d h k = absurd (ne refl)
place Greater level x y ys behind q qs later levels ne e d h k = ap (λ (o : Option ProblemValue). cons_option o (leveled levels behind)) d ∙ ap (λ (ps : List ProblemValue). q ∷ ps) k

-- it has a level, and is no fault
record IsOther (levels : LevelTable) (y : FindingValue) : Type 0 where
  leveled : is_some (levels y.rule) ≡ true
  rule : is_syntax y.rule ≡ false

apart : (levels : LevelTable) (x y : FindingValue) → is_syntax x.rule ≡ true → IsOther levels y → finding_order x y ≡ Equal → ⊥
apart levels x y s o e = let same = only_equal x y e in let wrong : true ≡ false = sym s ∙ ap (λ (f : FindingValue). is_syntax f.rule) same ∙ o.rule in cc

level_there : (o : Option Level) (y : FindingValue) → is_some o ≡ true → (level : Level) × (with o y ≡ Some (told_at level y))
level_there None y e = absurd (cc)
level_there (Some level) y e = (level, refl)

inserted : (levels : LevelTable) (level : Level) (x : FindingValue) (ys : List FindingValue) → is_syntax x.rule ≡ true → levels x.rule ≡ Some level → AllByRecursion (IsOther levels) ys
    → leveled levels (insert_once x ys) ≡ put_in (told_at level x) (leveled levels ys)
inserted levels level x [] s e a = ap (λ (o : Option Level). cons_option (with o x) []) e
inserted levels level x (y ∷ ys) s e a =
    let there = level_there (levels y.rule) y a.0.leveled in
    let q = told_at there.0 y in
    let turned : ordering_reverse (finding_order x y) ≡ finding_order y x = sym (order_total.antisymm y x) in
    place (finding_order x y) level x y ys (insert_once x ys) q (leveled levels ys) (put_in (told_at level x) (leveled levels ys)) levels (apart levels x y s a.0) e there.1 refl (inserted levels level x ys s e a.1)
    ∙ (ap (λ (o : Ordering). cond (is_lt o) (q ∷ put_in (told_at level x) (leveled levels ys)) (told_at level x ∷ q ∷ leveled levels ys)) turned
    ∙ ap (λ (o : Option ProblemValue). put_in (told_at level x) (cons_option o (leveled levels ys))) (sym there.1))

-- ---- a fault among other findings

in_append : (f : FindingValue) (xs ys : List FindingValue) → In f (xs ++ ys) → In f xs ⊎ In f ys
in_append f [] ys h = inr h
in_append f (x ∷ xs) ys (inl e) = inl (inl e)
in_append f (x ∷ xs) ys (inr h) = deeper (in_append f xs ys h)
  where
    deeper : In f xs ⊎ In f ys → In f (x ∷ xs) ⊎ In f ys
    deeper (inl g) = inl (inr g)
    deeper (inr g) = inr g

append_left : (f : FindingValue) (xs ys : List FindingValue) → In f xs → In f (xs ++ ys)
append_left f [] ys h = absurd h
append_left f (x ∷ xs) ys (inl e) = inl e
append_left f (x ∷ xs) ys (inr h) = inr (append_left f xs ys h)

append_right : (f : FindingValue) (xs ys : List FindingValue) → In f ys → In f (xs ++ ys)
append_right f [] ys h = h
append_right f (x ∷ xs) ys h = inr (append_right f xs ys h)

-- lists with the same members are put in order alike
alike : (xs ys : List FindingValue) → ((f : FindingValue) → In f xs → In f ys) → ((f : FindingValue) → In f ys → In f xs) → sorted_once xs ≡ sorted_once ys
alike xs ys to back =
    let a = sorted_once_arranged xs in
    let b = sorted_once_arranged ys in
    one_arrangement xs (sorted_once xs) (sorted_once ys) a (record {
      sorted = b.sorted;
      all = λ f h. b.all f (from_in f ys (to f (in_from f xs h)));
      only = λ f h. from_in f xs (back f (in_from f ys (b.only f h)));
    })

to_front : (f x : FindingValue) (before behind : List FindingValue) → In f (before ++ x ∷ behind) → In f (x ∷ (before ++ behind))
to_front f x before behind h = at (in_append f before (x ∷ behind) h)
  where
    at : In f before ⊎ In f (x ∷ behind) → In f (x ∷ (before ++ behind))
    at (inl g) = inr (append_left f before behind g)
    at (inr (inl e)) = inl e
    at (inr (inr g)) = inr (append_right f before behind g)

from_front : (f x : FindingValue) (before behind : List FindingValue) → In f (x ∷ (before ++ behind)) → In f (before ++ x ∷ behind)
from_front f x before behind (inl e) = append_right f before (x ∷ behind) (inl e)
from_front f x before behind (inr h) = at (in_append f before behind h)
  where
    at : In f before ⊎ In f behind → In f (before ++ x ∷ behind)
    at (inl g) = append_left f before (x ∷ behind) g
    at (inr g) = append_right f before (x ∷ behind) (inr g)

-- the fault may as well stand first
moved_up : (p : FindingValue → Bool) (x : FindingValue) (before behind : List FindingValue) → sorted_once (filter p (before ++ x ∷ behind)) ≡ sorted_once (filter p (x ∷ (before ++ behind)))
moved_up p x before behind =
    alike (filter p (before ++ x ∷ behind)) (filter p (x ∷ (before ++ behind)))
    (λ f h. let r = in_filter p f (before ++ x ∷ behind) h in filter_in p f (x ∷ (before ++ behind)) (to_front f x before behind r.0) r.1)
    (λ f h. let r = in_filter p f (x ∷ (before ++ behind)) h in filter_in p f (before ++ x ∷ behind) (from_front f x before behind r.0) r.1)

all_in : (P : FindingValue → Type 0) (ys : List FindingValue) → ((f : FindingValue) → In f ys → P f) → AllByRecursion P ys
all_in P [] h = tt
all_in P (y ∷ ys) h = (h y (inl refl), all_in P ys (λ f g. h f (inr g)))

in_all : (P : FindingValue → Type 0) (f : FindingValue) (ys : List FindingValue) → AllByRecursion P ys → In f ys → P f
in_all P f [] a h = absurd h
in_all P f (y ∷ ys) a (inl e) = rw e a.0
in_all P f (y ∷ ys) a (inr h) = in_all P f ys a.1 h

left : (a b : Bool) → a && b ≡ true → a ≡ true
left true b e = refl
left false b e = e

others : (levels : LevelTable) (s : RuleId → ℕ → Bool) (xs : List FindingValue) → AreRules xs → AllByRecursion (IsOther levels) (sorted_once (filter (is_reported levels s) xs))
others levels s xs a =
    let kept = filter (is_reported levels s) xs in
    all_in (IsOther levels) (sorted_once kept) (λ f h.
    let r = in_filter (is_reported levels s) f xs (in_from f kept ((sorted_once_arranged kept).only f (from_in f (sorted_once kept) h))) in
    record { leveled = left (is_some (levels f.rule)) (is_syntax f.rule || not (s f.rule (f.line - 1))) r.1; rule = in_all (λ g. is_syntax g.rule ≡ false) f xs a r.0 })

-- whether it is reported rests on its level alone
reported : (on : Option Level) (syntax free : Bool) → syntax ≡ true → (is_some on && (syntax || free)) ≡ is_some on
reported None syntax free e = refl
reported (Some level) true free e = refl
reported (Some level) false free e = absurd (cc)

-- it alone
alone : (levels : LevelTable) (s : RuleId → ℕ → Bool) (x : FindingValue) (o : Option Level) → is_syntax x.rule ≡ true → levels x.rule ≡ o → report_of levels false s (x ∷ []) ≡ cons_option (with o x) []
alone levels s x None e d =
    ap (λ (b : Bool). leveled levels (sorted_once (cond b (x ∷ []) []))) (reported (levels x.rule) (is_syntax x.rule) (not (s x.rule (x.line - 1))) e ∙ ap is_some d)
alone levels s x (Some level) e d =
    ap (λ (b : Bool). leveled levels (sorted_once (cond b (x ∷ []) []))) (reported (levels x.rule) (is_syntax x.rule) (not (s x.rule (x.line - 1))) e ∙ ap is_some d)
    ∙ ap (λ (o : Option Level). cons_option (with o x) []) d

-- it before the others
first : (levels : LevelTable) (s : RuleId → ℕ → Bool) (x : FindingValue) (xs : List FindingValue) (o : Option Level) (ps : PartsValue) → is_syntax x.rule ≡ true → AreRules xs → levels x.rule ≡ o → ps.shown ≡ leveled levels (sorted_once (filter (is_reported levels s) xs))
    → leveled levels (sorted_once (filter (is_reported levels s) (x ∷ xs))) ≡ (with_fault (slice_get (cons_option (with o x) []) 0) ps).shown
first levels s x xs None ps e a d h =
    ap (λ (b : Bool). leveled levels (sorted_once (cond b (x ∷ filter (is_reported levels s) xs) (filter (is_reported levels s) xs)))) (reported (levels x.rule) (is_syntax x.rule) (not (s x.rule (x.line - 1))) e ∙ ap is_some d)
    ∙ sym h
first levels s x xs (Some level) ps e a d h =
    ap (λ (b : Bool). leveled levels (sorted_once (cond b (x ∷ filter (is_reported levels s) xs) (filter (is_reported levels s) xs)))) (reported (levels x.rule) (is_syntax x.rule) (not (s x.rule (x.line - 1))) e ∙ ap is_some d)
    ∙ (inserted levels level x (sorted_once (filter (is_reported levels s) xs)) e d (others levels s xs a) ∙ ap (put_in (told_at level x)) (sym h))

pub fault_comes : (levels : LevelTable) (is_file_silenced : Bool) (silenced other : RuleId → ℕ → Bool) (fault : FindingValue) (before behind : List FindingValue) (ps : PartsValue)
    → is_syntax fault.rule ≡ true → AreRules before → AreRules behind → ps.shown ≡ report_of levels is_file_silenced silenced (before ++ behind)
    → report_of levels is_file_silenced silenced (before ++ fault ∷ behind) ≡ (with_fault (slice_get (report_of levels is_file_silenced other (fault ∷ [])) 0) ps).shown
fault_comes levels true silenced other fault before behind ps e a b h = sym h
fault_comes levels false silenced other fault before behind ps e a b h =
    ap (leveled levels) (moved_up (is_reported levels silenced) fault before behind)
    ∙ (first levels silenced fault (before ++ behind) (levels fault.rule) ps e (all_both (λ f. is_syntax f.rule ≡ false) before behind a b) refl h
    ∙ ap (λ (qs : List ProblemValue). (with_fault (slice_get qs 0) ps).shown) (sym (alone levels other fault (levels fault.rule) e refl)))
