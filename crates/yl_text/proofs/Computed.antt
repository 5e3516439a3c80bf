-- The lines of a text, computed: they are its lines, and the only ones.
use Rattle.std.proofs.Common.{inl, inr, ◌≡◌, ◌≢◌, ℕ, List, [], ◌∷◌, ◌++◌, get_or, refl, sym, ◌∙◌, ap, subst, arith, append_assoc}
use Rattle.std.proofs.lemmas.Bool.{ne_eqb, cond-false, cases_eq, eq-eqb, cond-true}
use Rattle.std.proofs.lemmas.List.{append-nil}
use Rattle.std.proofs.lemmas.List.Elements.{All-head, All-tail, All-cons, All-nil}
use Rattle.std.specs.Prelude.{All}
use Rattle.yl_text.specs.declared.row.Break.{Break}
use Rattle.yl_text.specs.declared.row.Break.TheVariants.{No, Lf, CrLf, Cr}
use Rattle.yl_text.specs.Lines.{RowValue, break_bytes, text_of, HasNoBreak, AreEnded, StartsWithLf, AreWhole, IsLines, cr_before, byte_before, lines_from, lines_of, OneList}

abbrev pub line : List ℕ → Break → RowValue
line xs e = record { text = xs; end = e }

-- one byte that is no break
byte_before-plain : (b : ℕ) (p : RowValue) (ps : List RowValue) → b ≢ 10 → b ≢ 13 → byte_before b p ps ≡ (line (b ∷ p.text) p.end, ps)
byte_before-plain b p ps h k = rw (cond-false _ _ _ (ne_eqb b 10 h), cond-false _ _ _ (ne_eqb b 13 k))

-- a text with no break before more text
pub lines_from-text : (xs t : List ℕ) → HasNoBreak xs → lines_from (xs ++ t) ≡ (line (xs ++ (lines_from t).0.text) (lines_from t).0.end, (lines_from t).1)
unfolding lines_from
lines_from-text [] t h = refl
lines_from-text (x ∷ xs) t h =
    let P : ℕ → Type 0 = λ b. (b ≢ 10) × (b ≢ 13) in
    let here = All-head P x xs h in
    rw (lines_from-text xs t (All-tail P x xs h)) (byte_before-plain x _ _ here.0 here.1)

-- CR before lines that do not begin with LF
cr_kept : (xs : List ℕ) (e : Break) (p : RowValue) (ps : List RowValue) → ((xs ≡ []) × (e ≡ Lf) → ⊥) → cr_before xs e p ps ≡ (line [] Cr, p ∷ ps)
cr_kept [] No p ps h = refl
cr_kept [] Lf p ps h = absurd (h (refl, refl))
cr_kept [] CrLf p ps h = refl
cr_kept [] Cr p ps h = refl
cr_kept (x ∷ xs) e p ps h = refl

cr_not_lf : (xs : List ℕ) (e : Break) (p : RowValue) (ps : List RowValue) → (cr_before xs e p ps).0.end ≢ Lf
cr_not_lf [] No p ps = λ h. cc
cr_not_lf [] Lf p ps = λ h. cc
cr_not_lf [] CrLf p ps = λ h. cc
cr_not_lf [] Cr p ps = λ h. cc
cr_not_lf (x ∷ xs) e p ps = λ h. cc

-- the lines begin with LF where the text does
pub starts_lf : (t : List ℕ) → StartsWithLf (lines_of t) → get_or t 0 0 ≡ 10
unfolding lines_from
starts_lf [] h = let e : No ≡ Lf = h.1 in cc
starts_lf (x ∷ t) h =
    elim (cases_eq x 10) [
      | inl e ↦ e
      | inr n ↦
          let r = lines_from t in
          elim (cases_eq x 13) [
            | inl e ↦
                let s = rw (cond-false _ _ _ (ne_eqb x 10 n), cond-true _ _ _ (eq-eqb x 13 e)) at h in
                absurd (cr_not_lf r.0.text r.0.end r.0 r.1 s.1)
            | inr k ↦
                let s = rw (cond-false _ _ _ (ne_eqb x 10 n), cond-false _ _ _ (ne_eqb x 13 k)) at h in
                let none : x ∷ r.0.text ≡ [] = s.0 in
                cc
          ]
    ]

pub lf_starts : (t : List ℕ) → get_or t 0 0 ≡ 10 → StartsWithLf (lines_of t)
unfolding lines_from
lf_starts [] h = absurd (omega (arith, h))
lf_starts (x ∷ t) h = rw (cond-true _ _ _ (eq-eqb x 10 h)) (refl, refl)

cr_alone : (t : List ℕ) → get_or t 0 0 ≢ 10 → lines_from (13 ∷ t) ≡ (line [] Cr, lines_of t)
unfolding lines_from
cr_alone t h = let r = lines_from t in cr_kept r.0.text r.0.end r.0 r.1 (λ s. h (starts_lf t s))

-- a break before a text
pub lines_from-break : (e : Break) (t : List ℕ) → e ≢ No → (e ≡ Cr → get_or t 0 0 ≢ 10) → lines_from (break_bytes e ++ t) ≡ (line [] e, lines_of t)
unfolding lines_from
lines_from-break No t h k = absurd (h refl)
lines_from-break Lf t h k = refl
lines_from-break CrLf t h k = refl
lines_from-break Cr t h k = cr_alone t (k refl)

-- the first line is cut off, and the others are those of the rest
pub lines_of-step : (xs : List ℕ) (e : Break) (t : List ℕ) → HasNoBreak xs → e ≢ No → (e ≡ Cr → get_or t 0 0 ≢ 10) → lines_of (xs ++ (break_bytes e ++ t)) ≡ line xs e ∷ lines_of t
lines_of-step xs e t h k w = rw (lines_from-text xs (break_bytes e ++ t) h, lines_from-break e t k w, append-nil xs)

-- the last line
pub lines_of-last : (xs : List ℕ) → HasNoBreak xs → lines_of xs ≡ line xs No ∷ []
unfolding lines_from
lines_of-last xs h = let e = lines_from-text xs [] h in subst (λ (ys : List ℕ). lines_of ys ≡ line xs No ∷ []) (append-nil xs) (rw (e, append-nil xs))

-- pieces that are lines are those that are computed
computed : (ps : List RowValue) → AreEnded ps → All (λ p. HasNoBreak p.text) ps → AreWhole ps → lines_of (text_of ps) ≡ ps
computed [] e n w = absurd e
computed (p ∷ []) e n w =
    let P : RowValue → Type 0 = λ p. HasNoBreak p.text in
    rw (e, append-nil p.text, append-nil p.text, lines_of-last p.text (All-head P p [] n), ← e)
computed (p ∷ q ∷ ps) e n w =
    let P : RowValue → Type 0 = λ p. HasNoBreak p.text in
    let rest = computed (q ∷ ps) e.1 (All-tail P p (q ∷ ps) n) w.1 in
    let S : List RowValue → Type 0 = λ l. StartsWithLf l in
    let step = lines_of-step p.text p.end (text_of (q ∷ ps)) (All-head P p (q ∷ ps) n) e.0 (λ c x. w.0 c (subst S rest (lf_starts (text_of (q ∷ ps)) x))) in
    rw (append_assoc p.text (break_bytes p.end) (text_of (q ∷ ps)), step, rest)

pub lines_of-is : (t : List ℕ) (ps : List RowValue) → IsLines t ps → lines_of t ≡ ps
lines_of-is t ps h = subst (λ (u : List ℕ). lines_of u ≡ ps) h.joined (computed ps h.ended h.unbroken h.whole)

-- a text has at most one list of lines
pub one_list : OneList
one_list t ps qs h k = sym (lines_of-is t ps h) ∙ lines_of-is t qs k

-- CR before lines that do not begin with LF, once more: these are lines
cr_kept-lines : (xs : List ℕ) (e : Break) (ps : List RowValue) (t : List ℕ) → ((xs ≡ []) × (e ≡ Lf) → ⊥) → IsLines t (line xs e ∷ ps) → IsLines (13 ∷ t) (line [] Cr ∷ line xs e ∷ ps)
cr_kept-lines xs e ps t n h =
    let P : RowValue → Type 0 = λ p. HasNoBreak p.text in
    record {
      joined = ap (λ (u : List ℕ). 13 ∷ u) h.joined;
      ended = (λ c. cc, h.ended);
      unbroken = All-cons P (line [] Cr) (line xs e ∷ ps) (All-nil (λ b. (b ≢ 10) × (b ≢ 13))) h.unbroken;
      whole = (λ c s. n s, h.whole);
    }

cr_lines : (xs : List ℕ) (e : Break) (ps : List RowValue) (t : List ℕ) → IsLines t (line xs e ∷ ps) → let r = cr_before xs e (line xs e) ps in IsLines (13 ∷ t) (r.0 ∷ r.1)
cr_lines [] Lf [] t h = let e : Lf ≡ No = h.ended in cc
cr_lines [] Lf (q ∷ ps) t h =
    let P : RowValue → Type 0 = λ p. HasNoBreak p.text in
    record {
      joined = ap (λ (u : List ℕ). 13 ∷ u) h.joined;
      ended = (λ c. cc, h.ended.1);
      unbroken = All-cons P (line [] CrLf) (q ∷ ps) (All-nil (λ b. (b ≢ 10) × (b ≢ 13))) (All-tail P (line [] Lf) (q ∷ ps) h.unbroken);
      whole = (λ c. cc, h.whole.1);
    }
cr_lines [] No ps t h = cr_kept-lines [] No ps t (λ s. let e : No ≡ Lf = s.1 in cc) h
cr_lines [] CrLf ps t h = cr_kept-lines [] CrLf ps t (λ s. let e : CrLf ≡ Lf = s.1 in cc) h
cr_lines [] Cr ps t h = cr_kept-lines [] Cr ps t (λ s. let e : Cr ≡ Lf = s.1 in cc) h
cr_lines (x ∷ xs) e ps t h = cr_kept-lines (x ∷ xs) e ps t (λ s. let e : x ∷ xs ≡ [] = s.0 in cc) h

lf_lines : (p : RowValue) (ps : List RowValue) (t : List ℕ) → IsLines t (p ∷ ps) → IsLines (10 ∷ t) (line [] Lf ∷ p ∷ ps)
lf_lines p ps t h =
    let P : RowValue → Type 0 = λ p. HasNoBreak p.text in
    record {
      joined = ap (λ (u : List ℕ). 10 ∷ u) h.joined;
      ended = (λ c. cc, h.ended);
      unbroken = All-cons P (line [] Lf) (p ∷ ps) (All-nil (λ b. (b ≢ 10) × (b ≢ 13))) h.unbroken;
      whole = (λ c. cc, h.whole);
    }

ended_same : (p q : RowValue) (ps : List RowValue) → q.end ≡ p.end → AreEnded (p ∷ ps) → AreEnded (q ∷ ps)
ended_same p q [] e h = e ∙ h
ended_same p q (r ∷ ps) e h = (λ c. h.0 (sym e ∙ c), h.1)

plain_lines : (b : ℕ) (p : RowValue) (ps : List RowValue) (t : List ℕ) → b ≢ 10 → b ≢ 13 → IsLines t (p ∷ ps) → IsLines (b ∷ t) (line (b ∷ p.text) p.end ∷ ps)
plain_lines b p ps t n m h =
    let P : RowValue → Type 0 = λ p. HasNoBreak p.text in
    let Q : ℕ → Type 0 = λ b. (b ≢ 10) × (b ≢ 13) in
    record {
      joined = ap (λ (u : List ℕ). b ∷ u) h.joined;
      ended = ended_same p (line (b ∷ p.text) p.end) ps refl h.ended;
      unbroken = All-cons P (line (b ∷ p.text) p.end) ps (All-cons Q b p.text (n, m) (All-head P p ps h.unbroken)) (All-tail P p ps h.unbroken);
      whole = h.whole;
    }

-- what is computed are the lines
pub lines_of-IsLines : (t : List ℕ) → IsLines t (lines_of t)
unfolding lines_from
lines_of-IsLines [] =
    record { joined = refl; ended = refl; unbroken = All-cons (λ (p : RowValue). HasNoBreak p.text) (line [] No) [] (All-nil (λ b. (b ≢ 10) × (b ≢ 13))) (All-nil (λ (p : RowValue). HasNoBreak p.text)); whole = (λ c. cc, tt) }
lines_of-IsLines (b ∷ t) =
    let r = lines_from t in
    let h = lines_of-IsLines t in
    elim (cases_eq b 10) [
      | inl e ↦ rw (cond-true _ _ _ (eq-eqb b 10 e), e) (lf_lines r.0 r.1 t h)
      | inr n ↦
          elim (cases_eq b 13) [
            | inl e ↦ rw (cond-false _ _ _ (ne_eqb b 10 n), cond-true _ _ _ (eq-eqb b 13 e), e) (cr_lines r.0.text r.0.end r.1 t h)
            | inr k ↦ rw (cond-false _ _ _ (ne_eqb b 10 n), cond-false _ _ _ (ne_eqb b 13 k)) (plain_lines b r.0 r.1 t n k h)
          ]
    ]

pub IsLines-same : (t : List ℕ) (ps : List RowValue) → ps ≡ lines_of t → IsLines t ps
IsLines-same t ps e = subst (λ (qs : List RowValue). IsLines t qs) (sym e) (lines_of-IsLines t)
