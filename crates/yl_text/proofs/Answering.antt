-- An edit has a fault, or none.
use Rattle.std.proofs.Common.{◌≡◌, ℕ, zero, suc, ◌<◌, ◌≤◌, ◌⊎◌, List, [], length, take, refl, sym, ◌∙◌, subst, arith, inl, inr, ⊎_elim, true≢false, IsUtf8, take_all}
use Rattle.std.proofs.lemmas.Bool.{cases_Bool, cases_lt, cond-true, cond-false}
use Rattle.std.proofs.lemmas.Str.{IsUtf8-from_is_utf8, is_utf8-from_IsUtf8}
use Rattle.std.specs.Str.{IsValidUpTo, is_utf8}
use Rattle.std.specs.Str.Lossy.{valid_len_up_to, utf8_valid_len}
use Rattle.yl_text.specs.declared.fault.TextFault.{TextFault}
use Rattle.yl_text.specs.declared.fault.TextFault.TheVariants.{NotUtf8, Range, TooLarge}
use Rattle.yl_text.specs.declared.position.Pos.{Pos}
use Rattle.yl_text.specs.Lines.{RowValue}
use Rattle.yl_text.specs.Edit.{IsInText, IsEditRange, line_chars, offset, edited_text, CanEdit, IsEditFault, EditHasFaultOrNone}

-- it holds, or it does not
abbrev Settled : Type 0 → Type 0
Settled P = P ⊎ ¬ P

both : {P Q : Type 0} → Settled P → Settled Q → Settled (P × Q)
both (inl p) (inl q) = inl (p, q)
both (inl p) (inr n) = inr (λ x. n x.1)
both (inr n) q = inr (λ x. n x.0)

neither : {P : Type 0} → Settled P → Settled (¬ P)
neither (inl p) = inr (λ n. n p)
neither (inr n) = inl n

less : (a b : ℕ) → Settled (a < b)
less a b = ⊎_elim inl (λ (h : b ≤ a). inr (λ (k : a < b). omega arith)) (cases_lt a b)

-- the longest front that is UTF-8
longest_front : (bs : List ℕ) (m : ℕ) → IsUtf8 (take (valid_len_up_to bs m) bs) × ((k : ℕ) → valid_len_up_to bs m < k → k ≤ m → ¬ (IsUtf8 (take k bs)))
longest_front bs zero = (([], (refl, refl)), λ k above within. absurd (omega arith))
longest_front bs (suc m) =
    let rest = longest_front bs m in
    ⊎_elim
    (λ yes.
    let is : valid_len_up_to bs (suc m) ≡ suc m = cond-true _ _ _ yes in
    (subst (λ n. IsUtf8 (take n bs)) (sym is) (IsUtf8-from_is_utf8 _ yes), λ k above within. absurd (omega arith)))
    (λ no.
    let is : valid_len_up_to bs (suc m) ≡ valid_len_up_to bs m = cond-false _ _ _ no in (
      subst (λ n. IsUtf8 (take n bs)) (sym is) rest.0,
      λ k above within u. ⊎_elim
          (λ (top : m < k).
          let at_top : k ≡ suc m = omega arith in
          true≢false (sym (is_utf8-from_IsUtf8 _ (subst (λ n. IsUtf8 (take n bs)) at_top u)) ∙ no))
          (λ (low : k ≤ m). rest.1 k (omega arith) low u)
          (cases_lt m k),
    ))
    (cases_Bool (is_utf8 (take (suc m) bs)))

-- bytes are UTF-8, or they are no longer behind some front
utf8_or_not : (bs : List ℕ) → IsUtf8 bs ⊎ IsValidUpTo bs (utf8_valid_len bs)
unfolding utf8_valid_len
utf8_or_not bs =
    let n = utf8_valid_len bs in
    let front = longest_front bs (length bs) in
    ⊎_elim
    (λ (short : n < length bs). inr (record {
      short = short;
      front = front.0;
      longest = λ m above u. ⊎_elim
          (λ (past : length bs < m).
          front.1 (length bs) short (omega arith) (subst IsUtf8 (take_all m bs (omega arith) ∙ sym (take_all (length bs) bs (omega arith))) u))
          (λ (within : m ≤ length bs). front.1 m above within u)
          (cases_lt (length bs) m);
    }))
    (λ (whole : length bs ≤ n). inl (subst IsUtf8 (take_all n bs whole) front.0))
    (cases_lt n (length bs))

module _ (ps : List RowValue) where
  in_text : (p : Pos) → Settled (IsInText ps p)
  in_text p = by_parts (both (less p.line (length ps)) (neither (less (length (line_chars ps p.line)) p.col)))
    where
      by_parts : Settled ((p.line < length ps) × (¬ (length (line_chars ps p.line) < p.col))) → Settled (IsInText ps p)
      by_parts (inl h) = inl (record {
        line = h.0;
        column = ⊎_elim (λ (past : length (line_chars ps p.line) < p.col). absurd (h.1 past)) (λ (k : p.col ≤ length (line_chars ps p.line)). k) (cases_lt (length (line_chars ps p.line)) p.col);
      })
      by_parts (inr n) = inr (λ r. n (r.line, λ (past : length (line_chars ps p.line) < p.col). let k = r.column in omega arith))

  in_range : (from to : Pos) → Settled (IsEditRange ps from to)
  in_range from to = by_parts (both (in_text from) (both (in_text to) (neither (less (offset ps to) (offset ps from)))))
    where
      by_parts : Settled (IsInText ps from × (IsInText ps to × (¬ (offset ps to < offset ps from)))) → Settled (IsEditRange ps from to)
      by_parts (inl h) = inl (record {
        first = h.0;
        last = h.1.0;
        ordered = ⊎_elim (λ (behind : offset ps to < offset ps from). absurd (h.1.1 behind)) (λ (k : offset ps from ≤ offset ps to). k) (cases_lt (offset ps to) (offset ps from));
      })
      by_parts (inr n) = inr (λ r. n (r.first, (r.last, λ (behind : offset ps to < offset ps from). let k = r.ordered in omega arith)))

module _ (ps : List RowValue) (from to : Pos) (t : List ℕ) where
  abbrev Answered : Type 0
  Answered = CanEdit ps from to t ⊎ ((f : TextFault) × IsEditFault ps from to t f)

  answered : IsUtf8 t ⊎ IsValidUpTo t (utf8_valid_len t) → Settled (IsEditRange ps from to) →
      (67108864 < length (edited_text ps from to t)) ⊎ (length (edited_text ps from to t) ≤ 67108864) → Answered
  answered (inr v) r s = inr (NotUtf8 (utf8_valid_len t), v)
  answered (inl u) (inr n) s = inr (Range, (u, n))
  answered (inl u) (inl r) (inl s) = inr (TooLarge, (u, r, s))
  answered (inl u) (inl r) (inr s) = inl (record { utf8 = u; range = r; short = s })

pub fault_or_none : EditHasFaultOrNone
fault_or_none ps from to t = answered ps from to t (utf8_or_not t) (in_range ps from to) (cases_lt 67108864 (length (edited_text ps from to t)))
