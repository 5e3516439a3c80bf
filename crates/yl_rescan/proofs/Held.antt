-- Records that are kept: where they are the text's, how many there are, and where they are cut once others take the place of some.
use Rattle.std.proofs.Common.{◌≡◌, ℕ, zero, suc, ◌+◌, ◌-◌, ◌<◌, ◌≤◌, true, false, List, [], ◌∷◌, ◌++◌, length, take, drop, Option, Some, None, ap, sym, ◌∙◌, arith, rules}
use Rattle.std.specs.Prelude.{IfSome}
use Rattle.std.specs.List.{splice}
use Rattle.std.proofs.lemmas.List.{same_lists, places, length-drop}
use Rattle.yl_lexeme.specs.declared.lexeme.Kind.{Kind}
use Rattle.yl_row.specs.Entries.{LineStateValue, Stopped, Stands}
use Rattle.yl_record.specs.Records.{RecordValue, records}
use Rattle.yl_record.specs.Recorded.{records_from}
use Rattle.yl_sections.specs.Local.{begins_section, is_start_at, kind_after}
use Rattle.yl_sections.proofs.Last.{last_kept, stopped_empty}
use Rattle.yl_sections.proofs.SectionStarts.{from_row, quiet}
use Rattle.yl_rescan.specs.Agree.{state_of_row}
use Rattle.yl_rescan.specs.Held.{AreHeld, IsCutAt, last_in}
use Rattle.yl_rescan.proofs.Rows.{records_from_length, records_length, records_state, sound_behind, state_first, state_in_front}

-- ---- lists

-- a front and a middle of one list, and a rest
joined : {X : Type 0} (xs ys : List X) (r e : ℕ) → r ≤ e → e ≤ length xs → take r xs ++ (take (e - r) (drop r xs) ++ ys) ≡ take e xs ++ ys
joined xs ys r e o l = same_lists _ _ (search (rules, places)) (λ k d h. grind (arith, places))

take_joined : {X : Type 0} (xs ys : List X) (e j : ℕ) → j ≤ e → e ≤ length xs → take j (take e xs ++ ys) ≡ take j xs
take_joined xs ys e j o l = same_lists _ _ (search (rules, places)) (λ k d h. grind (arith, places))

drop_joined : {X : Type 0} (xs ys : List X) (e c : ℕ) → e ≤ c → e ≤ length xs → drop c (take e xs ++ ys) ≡ drop (c - e) ys
drop_joined xs ys e c o l = same_lists _ _ (search (rules, places)) (λ k d h. grind (arith, places))

take_beyond : {X : Type 0} (xs ys : List X) (e k : ℕ) → e ≤ length xs → take (k + e) (take e xs ++ ys) ≡ take e xs ++ take k ys
take_beyond xs ys e k l = same_lists _ _ (search (rules, places)) (λ k d h. grind (arith, places))

pub take_part : {X : Type 0} (xs : List X) (a n : ℕ) → take (n - a) (drop a xs) ≡ drop a (take n xs)
take_part xs a n = same_lists _ _ (search (rules, places)) (λ k d h. grind (arith, places))

take_both : {X : Type 0} (xs : List X) (e k : ℕ) → take e xs ++ take k (drop e xs) ≡ take (k + e) xs
take_both xs e k = same_lists _ _ (search (rules, places)) (λ k d h. grind (arith, places))

pub drop_both : {X : Type 0} (xs : List X) (a k : ℕ) → drop k (drop a xs) ≡ drop (a + k) xs
drop_both xs a k = same_lists _ _ (search (rules, places)) (λ k d h. grind (arith, places))

pub in_two : {X : Type 0} (xs : List X) (c : ℕ) → take c xs ++ drop c xs ≡ xs
in_two xs c = same_lists _ _ (search (rules, places)) (λ k d h. grind (arith, places))

-- ---- what is kept of a text

-- above the row at which they are cut, they are the text's
pub true_front : (t : List (List ℕ)) (cut : Option ℕ) (rs : List RecordValue) (j : ℕ) → AreHeld t cut rs → IfSome cut (λ n. j ≤ n) → take j rs ≡ take j (records t)
true_front t None rs j h l = ap (λ (es : List RecordValue). take j es) h
true_front t (Some n) rs j h l = less rs (records t) n j h.front l where
  less : (xs ys : List RecordValue) (n j : ℕ) → take n xs ≡ take n ys → j ≤ n → take j xs ≡ take j ys
  less xs ys n j e l = sym (shorter xs n j l) ∙ (ap (λ (es : List RecordValue). take j es) e ∙ shorter ys n j l) where
    shorter : (xs : List RecordValue) (n j : ℕ) → j ≤ n → take j (take n xs) ≡ take j xs
    shorter xs n j l = same_lists _ _ (search (rules, places)) (λ k d h. grind (arith, places))

pub true_state : (t : List (List ℕ)) (cut : Option ℕ) (rs : List RecordValue) (j : ℕ) → AreHeld t cut rs → IfSome cut (λ n. j < n) → state_of_row rs j ≡ state_of_row (records t) j
true_state t None rs j h l = ap (λ (es : List RecordValue). state_of_row es j) h
true_state t (Some n) rs j h l = state_in_front rs (records t) n j h.front l

-- a row that has a state is there
pub state_there : (rs : List RecordValue) (i : ℕ) (s : LineStateValue) → state_of_row rs i ≡ Some s → i < length rs
state_there [] i s h = absurd (cc)
state_there (r ∷ rs) zero s h = omega arith
state_there (r ∷ rs) (suc i) s h = let l = state_there rs i s h in omega (arith, l)

-- a record for each row
pub held_length : (t : List (List ℕ)) (cut : Option ℕ) (rs : List RecordValue) → AreHeld t cut rs → length rs ≡ length t
held_length t None rs h = ap (λ (es : List RecordValue). length es) h ∙ records_length t
held_length t (Some n) rs h =
    let there = state_there rs n h.state h.sound in
    let real = state_there (records t) n Stopped h.stopped in
    let behind = ap (λ (es : List RecordValue). length es) h.behind ∙ records_from_length h.state (drop n t) in
    omega (arith, there, real, behind, length-drop n rs, length-drop n t, records_length t)

-- ---- what is made of it, where items take the place of some, which are those of the text's rows up to `end`

module _ (es total items : List RecordValue) (row at end : ℕ) (front : take row es ≡ take row total) (told : items ≡ take (end - row) (drop row total)) (ordered : row ≤ end) (within : end ≤ length total) where
  abbrev made : List RecordValue
  made = splice es row at items

  pub made_is : made ≡ take end total ++ drop at es
  made_is =
      ap (λ (fs : List RecordValue). fs ++ (items ++ drop at es)) front
      ∙ (ap (λ (is : List RecordValue). take row total ++ (is ++ drop at es)) told ∙ joined total (drop at es) row end ordered within)

  pub made_front : (j : ℕ) → j ≤ end → take j made ≡ take j total
  made_front j o = ap (λ (rs : List RecordValue). take j rs) made_is ∙ take_joined total (drop at es) end j o within

  pub made_behind : (c : ℕ) → end ≤ c → drop c made ≡ drop (at + (c - end)) es
  made_behind c o = ap (λ (rs : List RecordValue). drop c rs) made_is ∙ (drop_joined total (drop at es) end c o within ∙ drop_both es at (c - end))

  -- where the rest is the text's too
  pub made_whole : drop at es ≡ drop end total → made ≡ total
  made_whole e = made_is ∙ (ap (λ (rs : List RecordValue). take end total ++ rs) e ∙ in_two total end)

  -- where it is down to a row
  pub made_beyond : (ts : List RecordValue) (n : ℕ) → at ≤ n → take n es ≡ take n ts → drop at ts ≡ drop end total → take (n - at + end) made ≡ take (n - at + end) total
  made_beyond ts n l e same =
      ap (λ (rs : List RecordValue). take (n - at + end) rs) made_is
      ∙ (take_beyond total (drop at es) end (n - at) within
      ∙ (ap (λ (rs : List RecordValue). take end total ++ rs)
      (take_part es at n ∙ (ap (λ (rs : List RecordValue). drop at rs) e ∙ (sym (take_part ts at n) ∙ ap (λ (rs : List RecordValue). take (n - at) rs) same)))
      ∙ take_both total end (n - at)))

-- the rows behind a cut moved with it
pub cut_moved : (t u : List (List ℕ)) (rs made : List RecordValue) (n c : ℕ) → IsCutAt t n rs → drop n t ≡ drop c u → state_of_row (records u) c ≡ Some Stopped
    → take c made ≡ take c (records u) → drop c made ≡ drop n rs → is_start_at made c ≡ true → IsCutAt u c made
cut_moved t u rs made n c h rows stopped front behind start = record {
  stopped = stopped;
  front = front;
  start = start;
  state = h.state;
  sound = sym (state_first made c) ∙ (ap (λ (es : List RecordValue). state_of_row es 0) behind ∙ (state_first rs n ∙ h.sound));
  behind = behind ∙ (h.behind ∙ ap (λ (qs : List (List ℕ)). records_from h.state qs) rows);
  begins = ap (λ (es : List RecordValue). begins_section (last_in h.state) es) behind ∙ h.begins;
}

nothing_more : (i : ℕ) → i ≡ i + 0
nothing_more i = omega arith

-- by the state of a sound row of a text with which a section begins, it does
pub begins_by : (t : List (List ℕ)) (i : ℕ) (s : LineStateValue) → state_of_row (records t) i ≡ Some s → is_start_at (records t) i ≡ true → begins_section (last_in s) (drop i (records t)) ≡ true
begins_by t i Stopped h b =
    let e : is_start_at (records t) i ≡ false = ap (λ k. is_start_at (records t) k) (nothing_more i) ∙ (from_row None (records t) i 0 ∙ quiet (kind_after None (take i (records t))) (drop i (records t)) 0 (stopped_empty t i (sym (records_state t i) ∙ h))) in
    absurd (cc)
begins_by t i (Stands levels brackets last) h b =
    ap (λ (k : Option Kind). begins_section k (drop i (records t))) (sym (last_kept t i levels brackets last (sym (records_state t i) ∙ h))) ∙ b

-- the rows from one on with which a section begins are kept where reading has stopped
pub cut_here : (t u : List (List ℕ)) (made : List RecordValue) (i c : ℕ) (s : LineStateValue) → state_of_row (records t) i ≡ Some s → is_start_at (records t) i ≡ true → drop i t ≡ drop c u
    → state_of_row (records u) c ≡ Some Stopped → take c made ≡ take c (records u) → drop c made ≡ drop i (records t) → is_start_at made c ≡ true → IsCutAt u c made
cut_here t u made i c s sound begins rows stopped front behind start = record {
  stopped = stopped;
  front = front;
  start = start;
  state = s;
  sound = sym (state_first made c) ∙ (ap (λ (es : List RecordValue). state_of_row es 0) behind ∙ (state_first (records t) i ∙ sound));
  behind = behind ∙ (sound_behind t i s sound ∙ ap (λ (qs : List (List ℕ)). records_from s qs) rows);
  begins = ap (λ (es : List RecordValue). begins_section (last_in s) es) behind ∙ begins_by t i s sound begins;
}
