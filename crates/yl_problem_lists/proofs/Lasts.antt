-- What stands last in lists that are in order.
use Rattle.std.proofs.Common.{◌≡◌, ℕ, zero, suc, ◌+◌, ◌-◌, ◌<◌, ◌≤◌, Bool, true, false, cond, List, [], ◌∷◌, ◌++◌, take, drop, length, get_or, Option, Some, None, refl, ap, sym, subst, ◌∙◌, ◌⊎◌, inl, inr, arith, length-append}
use Rattle.std.specs.Prelude.{not, slice_get, IfSome}
use Rattle.std.specs.List.{AllByRecursion, filter, prefix_len}
use Rattle.std.specs.List.Sorted.{IsNonDecreasingBy, IsPartitionPoint}
use Rattle.std.specs.declared.cmp.Ordering.TheVariants.{Less}
use Rattle.std.proofs.lemmas.Bool.{leb-false, leb-true, le-leb, lt-leb, cases_lt}
use Rattle.std.proofs.lemmas.List.Elements.{filter-append}
use Rattle.std.proofs.lemmas.List.Sums.{prefix_len_is}
use Rattle.std.proofs.lemmas.Map.Keys.{Less-from_sorted}
use Rattle.yl_text.proofs.Every.{all_front, all_last, all_then}
use Rattle.yl_text.specs.declared.finding.RuleId.TheVariants.{Syntax}
use Rattle.yl_rules.specs.declared.level.Level.TheVariants.{Error}
use Rattle.yl_report.specs.Report.{ProblemValue}
use Rattle.yl_problem_lists.specs.Later.{ends_later, is_later}
use Rattle.yl_problem_lists.specs.Order.{IsInOrder, comes_before, merged, problem_order, put_in}
use Rattle.yl_problem_lists.specs.Parts.{IsLow, above, behind, is_upto}
use Rattle.yl_problem_lists.specs.Popped.{LastGoes, PopsBehind, PopsLast}
use Rattle.yl_problem_lists.proofs.Merged.{merged_last_left, merged_last_right}
use Rattle.yl_problem_lists.proofs.Ordered.{above_is, all_before_last, before_less, behind_is, filter_none, less_before, less_trans, line_le, line_of_not_before, not_after, order_front, order_head, order_tail}

-- ---- places

abbrev no_problem : ProblemValue
no_problem = record { line = 0; column = 0; level = Error; rule = Syntax; message = [] }

pub lines_rise : (ps : List ProblemValue) → IsInOrder ps → IsNonDecreasingBy (λ (p : ProblemValue). p.line) ps
lines_rise ps s = λ i j d l h. at i j d l h (cases_lt i j)
  where
    at : (i j : ℕ) (d : ProblemValue) → i ≤ j → j < length ps → (i < j) ⊎ (j ≤ i) → (get_or ps i d).line ≤ (get_or ps j d).line
    at i j d l h (inl k) = line_le (get_or ps i d) (get_or ps j d) (Less-from_sorted problem_order ps i j d s k h)
    at i j d l h (inr k) = let e : i ≡ j = omega arith in let same = ap (λ n. (get_or ps n d).line) e in omega (arith, same)

pub counted : (line n : ℕ) (ps : List ProblemValue) → n ≤ length ps → IsPartitionPoint (λ (p : ProblemValue). is_upto line p ≡ true) (λ (p : ProblemValue). is_upto line p ≡ false) ps n → n ≡ prefix_len (is_upto line) ps
counted line n ps l h = sym (prefix_len_is (is_upto line) ps n no_problem l (λ k b. h.0 k no_problem (omega arith) b) (λ b. h.1 n no_problem (omega arith) b))

-- ---- the last one

abbrev last_in : List ProblemValue → Option ProblemValue
last_in ps = slice_get ps (length ps - 1)

last_step : (p q : ProblemValue) (qs : List ProblemValue) → last_in (p ∷ q ∷ qs) ≡ last_in (q ∷ qs)
last_step p q qs = let e : length (p ∷ q ∷ qs) - 1 ≡ suc (length (q ∷ qs) - 1) = omega arith in ap (λ k. slice_get (p ∷ q ∷ qs) k) e

pub last_push : (ps : List ProblemValue) (p : ProblemValue) → last_in (ps ++ p ∷ []) ≡ Some p
last_push [] p = refl
last_push (q ∷ []) p = last_step q p []
last_push (q ∷ r ∷ rs) p = last_step q r (rs ++ p ∷ []) ∙ last_push (r ∷ rs) p

last_none : (ps : List ProblemValue) → last_in ps ≡ None → ps ≡ []
last_none [] e = refl
last_none (p ∷ []) e = absurd (cc)
last_none (p ∷ q ∷ qs) e = let wrong = last_none (q ∷ qs) (sym (last_step p q qs) ∙ e) in absurd (cc)

at_last : (P : ProblemValue → Type 0) (ps : List ProblemValue) (p : ProblemValue) → AllByRecursion P ps → last_in ps ≡ Some p → P p
at_last P [] p a e = absurd (cc)
at_last P (q ∷ []) p a e = let same : q ≡ p = cc in subst P same a.0
at_last P (q ∷ r ∷ rs) p a e = at_last P (r ∷ rs) p a.1 (sym (last_step q r rs) ∙ e)

-- what holds of the last one, and of what comes before it
pub all_by_last : (P : ProblemValue → Type 0) (ps : List ProblemValue) (p : ProblemValue) → IsInOrder ps → last_in ps ≡ Some p → P p → ((q : ProblemValue) → problem_order q p ≡ Less → P q) → AllByRecursion P ps
all_by_last P [] p s e h f = tt
all_by_last P (q ∷ []) p s e h f = let same : p ≡ q = cc in (subst P same h, tt)
all_by_last P (q ∷ r ∷ rs) p s e h f =
    let rest = sym (last_step q r rs) ∙ e in
    (f q (at_last (λ o. problem_order q o ≡ Less) (r ∷ rs) p (order_head q (r ∷ rs) s) rest), all_by_last P (r ∷ rs) p (order_tail q (r ∷ rs) s) rest h f)

pub low_by_last : (ps : List ProblemValue) (p : ProblemValue) → IsInOrder ps → last_in ps ≡ Some p → IsLow p → AllByRecursion IsLow ps
low_by_last ps p s e h = all_by_last IsLow ps p s e h (λ q l. let le = line_le q p l in let low : IsLow p = h in omega arith)

-- ---- put in

all_drop : {X : Type 0} (P : X → Type 0) (k : ℕ) (xs : List X) → AllByRecursion P xs → AllByRecursion P (drop k xs)
all_drop P zero xs a = a
all_drop P (suc k) [] a = a
all_drop P (suc k) (x ∷ xs) a = all_drop P k xs a.1

one_more : (k : ℕ) → 1 + k ≡ suc k
one_more k = omega arith

pub put_in_at : (p : ProblemValue) (ps : List ProblemValue) → put_in p ps ≡ take (prefix_len (λ q. comes_before q p) ps) ps ++ p ∷ drop (prefix_len (λ q. comes_before q p) ps) ps
put_in_at p [] = refl
put_in_at p (q ∷ qs) = at (comes_before q p) (put_in_at p qs)
  where
    at : (b : Bool) → put_in p qs ≡ take (prefix_len (λ q. comes_before q p) qs) qs ++ p ∷ drop (prefix_len (λ q. comes_before q p) qs) qs
        → cond b (q ∷ put_in p qs) (p ∷ q ∷ qs) ≡ take (cond b (1 + prefix_len (λ q. comes_before q p) qs) 0) (q ∷ qs) ++ p ∷ drop (cond b (1 + prefix_len (λ q. comes_before q p) qs) 0) (q ∷ qs)
    at true h = ap (λ rs. q ∷ rs) h ∙ ap (λ k. take k (q ∷ qs) ++ p ∷ drop k (q ∷ qs)) (sym (one_more (prefix_len (λ q. comes_before q p) qs)))
    at false h = refl

-- ---- one more at the end

append_none : {X : Type 0} (xs : List X) → xs ++ [] ≡ xs
append_none [] = refl
append_none (x ∷ xs) = ap (λ ys. x ∷ ys) (append_none xs)

filter_push_no : (f : ProblemValue → Bool) (ps : List ProblemValue) (p : ProblemValue) → f p ≡ false → filter f (ps ++ p ∷ []) ≡ filter f ps
filter_push_no f ps p e = filter-append f ps (p ∷ []) ∙ (ap (λ b. filter f ps ++ cond b (p ∷ []) []) e ∙ append_none (filter f ps))

filter_push_yes : (f : ProblemValue → Bool) (ps : List ProblemValue) (p : ProblemValue) → f p ≡ true → filter f (ps ++ p ∷ []) ≡ filter f ps ++ p ∷ []
filter_push_yes f ps p e = filter-append f ps (p ∷ []) ∙ ap (λ b. filter f ps ++ cond b (p ∷ []) []) e

above_push : (n line : ℕ) (ps : List ProblemValue) (p : ProblemValue) → IsInOrder (ps ++ p ∷ []) → is_upto line p ≡ false → n ≤ line → above n ps ≡ above n (ps ++ p ∷ [])
above_push n line ps p s e l =
    let late : is_upto n p ≡ false = lt-leb p.line n (omega (arith, leb-false p.line line e, l)) in
    above_is n ps (order_front ps p s) ∙ sym (above_is n (ps ++ p ∷ []) s ∙ filter_push_no (is_upto n) ps p late)

behind_push : (line : ℕ) (ps : List ProblemValue) (p : ProblemValue) → IsInOrder (ps ++ p ∷ []) → is_upto line p ≡ false → behind line (ps ++ p ∷ []) ≡ behind line ps ++ p ∷ []
behind_push line ps p s e =
    behind_is line (ps ++ p ∷ []) s ∙ (filter_push_yes (λ q. not (is_upto line q)) ps p (ap not e) ∙ ap (λ qs. qs ++ p ∷ []) (sym (behind_is line ps (order_front ps p s))))

-- ---- none stands behind the lines

upto_le : (n : ℕ) (p q : ProblemValue) → is_upto n p ≡ true → q.line ≤ p.line → is_upto n q ≡ true
upto_le n p q h l = le-leb q.line n (omega (arith, leb-true p.line n h, l))

behind_none : (n : ℕ) (ps : List ProblemValue) → IsInOrder ps → AllByRecursion (λ q. is_upto n q ≡ true) ps → behind n ps ≡ []
behind_none n ps s a = behind_is n ps s ∙ filter_none (λ q. not (is_upto n q)) ps (all_then (λ q. is_upto n q ≡ true) (λ q. not (is_upto n q) ≡ false) ps (λ q e. ap not e) a)

-- where the last one stands in the lines
behind_by_last : (n : ℕ) (ps : List ProblemValue) (p : ProblemValue) → IsInOrder ps → last_in ps ≡ Some p → is_upto n p ≡ true → behind n ps ≡ []
behind_by_last n ps p s e h = behind_none n ps s (all_by_last (λ q. is_upto n q ≡ true) ps p s e h (λ q l. upto_le n p q h (line_le q p l)))

behind_by_none : (n : ℕ) (ps : List ProblemValue) → last_in ps ≡ None → behind n ps ≡ []
behind_by_none n ps e = ap (behind n) (last_none ps e)

none_shown : (n : ℕ) (ss us : List ProblemValue) (o l : Option ProblemValue) → IsInOrder ss → IsInOrder us → last_in ss ≡ o → last_in us ≡ l → is_later o l ≡ true → IfSome o (λ p. is_upto n p ≡ true) → (behind n ss ≡ []) × (behind n us ≡ [])
none_shown n ss us None l s u d e h k = absurd (cc)
none_shown n ss us (Some p) None s u d e h k = (behind_by_last n ss p s d k, behind_by_none n us e)
none_shown n ss us (Some p) (Some q) s u d e h k = (behind_by_last n ss p s d k, behind_by_last n us q u e (upto_le n p q k (line_le q p (before_less q p h))))

none_suppressed : (n : ℕ) (ss us : List ProblemValue) (o l : Option ProblemValue) → IsInOrder ss → IsInOrder us → last_in ss ≡ o → last_in us ≡ l → is_later o l ≡ false → IfSome l (λ p. is_upto n p ≡ true) → (behind n ss ≡ []) × (behind n us ≡ [])
none_suppressed n ss us None None s u d e h k = (behind_by_none n ss d, behind_by_none n us e)
none_suppressed n ss us None (Some q) s u d e h k = (behind_by_none n ss d, behind_by_last n us q u e k)
none_suppressed n ss us (Some p) None s u d e h k = absurd (cc)
none_suppressed n ss us (Some p) (Some q) s u d e h k = (behind_by_last n ss p s d (upto_le n q p k (line_of_not_before p q h)), behind_by_last n us q u e k)

-- ---- the last one goes

all_before : (us : List ProblemValue) (p : ProblemValue) (l : Option ProblemValue) → IsInOrder us → last_in us ≡ l → is_later (Some p) l ≡ true → AllByRecursion (λ q. problem_order q p ≡ Less) us
all_before us p None u e h = let none = last_none us e in rw none tt
all_before us p (Some q) u e h = all_by_last (λ r. problem_order r p ≡ Less) us q u e (before_less q p h) (λ r k. less_trans r q p k (before_less q p h))

still_not : (p q r : ProblemValue) → comes_before q p ≡ false → problem_order r p ≡ Less → comes_before q r ≡ false
still_not p q r e l = at (comes_before q r) refl
  where
    at : (b : Bool) → comes_before q r ≡ b → comes_before q r ≡ false
    at false h = h
    at true h = let wrong : true ≡ false = sym (less_before q p (less_trans q r p (before_less q r h) l)) ∙ e in absurd (cc)

none_after : (ss : List ProblemValue) (q : ProblemValue) (o : Option ProblemValue) → IsInOrder ss → last_in ss ≡ o → is_later o (Some q) ≡ false → AllByRecursion (λ p. comes_before q p ≡ false) ss
none_after ss q None s d h = let none = last_none ss d in rw none tt
none_after ss q (Some p) s d h = all_by_last (λ r. comes_before q r ≡ false) ss p s d h (λ r l. still_not p q r h l)

last_shown : (line : ℕ) (ts us : List ProblemValue) (p : ProblemValue) → IsInOrder (ts ++ p ∷ []) → IsInOrder us → is_upto line p ≡ false → is_later (Some p) (last_in us) ≡ true → LastGoes line (ts ++ p ∷ []) us ts us p
last_shown line ts us p s u e h =
    let n = prefix_len (is_upto line) ts in
    let m = prefix_len (is_upto line) us in
    let early = all_then (λ r. problem_order r p ≡ Less) (λ r. comes_before p r ≡ false) ts (λ r l. not_after r p l) (all_before_last ts p s) in
    let others = all_then (λ r. problem_order r p ≡ Less) (λ r. comes_before r p ≡ true) us (λ r l. less_before r p l) (all_before us p (last_in us) u refl h) in
    record {
      merged = ap (λ qs. merged qs (behind line us)) (behind_push line ts p s e) ∙ merged_last_left (behind line ts) (behind line us) p (all_drop (λ r. comes_before p r ≡ false) n ts early) (all_drop (λ r. comes_before r p ≡ true) m us others);
      shown_above = λ k l. above_push k line ts p s e l;
      suppressed_above = λ k l. refl;
      shown_in_order = order_front ts p s;
      suppressed_in_order = u;
      low = λ a b. (all_front IsLow ts (p ∷ []) a, b, all_last IsLow ts p a);
      count = omega (arith, length-append ts (p ∷ []));
    }

last_suppressed : (line : ℕ) (ss vs : List ProblemValue) (q : ProblemValue) → IsInOrder ss → IsInOrder (vs ++ q ∷ []) → is_upto line q ≡ false → is_later (last_in ss) (Some q) ≡ false → LastGoes line ss (vs ++ q ∷ []) ss vs q
last_suppressed line ss vs q s u e h =
    let n = prefix_len (is_upto line) ss in
    record {
      merged = ap (merged (behind line ss)) (behind_push line vs q u e) ∙ merged_last_right (behind line ss) (behind line vs) q (all_drop (λ r. comes_before q r ≡ false) n ss (none_after ss q (last_in ss) s refl h));
      shown_above = λ k l. refl;
      suppressed_above = λ k l. above_push k line vs q u e l;
      shown_in_order = s;
      suppressed_in_order = order_front vs q u;
      low = λ a b. (a, all_front IsLow vs (q ∷ []) b, all_last IsLow vs q b);
      count = omega (arith, length-append vs (q ∷ []));
    }

pub pop_shown : (line : ℕ) (ss us ts : List ProblemValue) (r : Option ProblemValue) → IsInOrder ss → IsInOrder us → ends_later ss us ≡ true → PopsBehind line ss ts r → PopsLast line ss us ts us r
pop_shown line ss us ts None s u e h =
    let none = none_shown line ss us (last_in ss) (last_in us) s u refl refl e h.1 in record { shown = none.0; suppressed = none.1; shown_stays = h.0; suppressed_stays = refl }
pop_shown line ss us ts (Some p) s u e h =
    let later : is_later (Some p) (last_in us) ≡ true = ap (λ (o : Option ProblemValue). is_later o (last_in us)) (sym (ap last_in h.0 ∙ last_push ts p)) ∙ e in
    subst (λ (qs : List ProblemValue). LastGoes line qs us ts us p) (sym h.0) (last_shown line ts us p (subst IsInOrder h.0 s) u h.1 later)

pub pop_suppressed : (line : ℕ) (ss us vs : List ProblemValue) (r : Option ProblemValue) → IsInOrder ss → IsInOrder us → ends_later ss us ≡ false → PopsBehind line us vs r → PopsLast line ss us ss vs r
pop_suppressed line ss us vs None s u e h =
    let none = none_suppressed line ss us (last_in ss) (last_in us) s u refl refl e h.1 in record { shown = none.0; suppressed = none.1; shown_stays = refl; suppressed_stays = h.0 }
pop_suppressed line ss us vs (Some q) s u e h =
    let later : is_later (last_in ss) (Some q) ≡ false = ap (λ (o : Option ProblemValue). is_later (last_in ss) o) (sym (ap last_in h.0 ∙ last_push vs q)) ∙ e in
    subst (λ (qs : List ProblemValue). LastGoes line ss qs ss vs q) (sym h.0) (last_suppressed line ss vs q s (subst IsInOrder h.0 u) h.1 later)
