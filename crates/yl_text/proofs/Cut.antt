-- One line cut off the front of a text.
use Rattle.std.proofs.lemmas.Slice.{pushed}
use Rattle.std.specs.Prelude.{Result, Ok, is_ok, cond}
use Rattle.std.proofs.Common.{◌≡◌, ◌≢◌, ℕ, ◌+◌, ◌<◌, ◌≤◌, ◌⊎◌, inl, inr, Some, List, [], ◌∷◌, ◌++◌, length, take, drop, get_or, refl, sym, ◌∙◌, ap, subst, arith, append_assoc, add-one}
use Rattle.std.proofs.Math.Seq.{drop-cons}
use Rattle.std.proofs.lemmas.Option.{slice_get_within, get_or_from_slice_get, slice_get-get_or}
use Rattle.std.proofs.lemmas.List.{take-append-drop, get_or-drop, get_or_past}
use Rattle.std.proofs.lemmas.Str.{IsCharBoundary-after_ascii}
use Rattle.std.specs.List.{slice_get}
use Rattle.std.specs.Str.{IsUtf8, IsCharBoundary}
use Rattle.yl_text.specs.declared.row.Break.{Break}
use Rattle.yl_text.specs.declared.row.Break.TheVariants.{No, Lf, CrLf, Cr}
use Rattle.yl_text.specs.Lines.{RowValue, break_bytes, HasNoBreak, lines_of}
use Rattle.yl_text.specs.Split.{BreakAt, lines_behind}
use Rattle.yl_text.proofs.Computed.{line, lines_of-step, lines_of-last}

drop_at : (t : List ℕ) (n x : ℕ) → slice_get t n ≡ Some x → drop n t ≡ x ∷ drop (n + 1) t
drop_at t n x e =
    let l : n < length t = slice_get_within t n x e in
    rw (add-one n, drop-cons t n 0, get_or_from_slice_get t n x 0 e)

-- what stands from the break on
drop-break : (t : List ℕ) (n : ℕ) (e : Break) → BreakAt t n e → e ≢ No → drop n t ≡ break_bytes e ++ drop (n + length (break_bytes e)) t
drop-break t n No b k = absurd (k refl)
drop-break t n Lf b k = drop_at t n 10 b
drop-break t n Cr b k = drop_at t n 13 b.0
drop-break t n CrLf b k =
    let two : n + 1 + 1 ≡ n + 2 = omega arith in
    drop_at t n 13 b.0 ∙ ap (λ (u : List ℕ). 13 ∷ u) (drop_at t (n + 1) 10 b.1 ∙ ap (λ (m : ℕ). 10 ∷ drop m t) two)

-- no LF stands behind a lone CR
alone : (t : List ℕ) (n : ℕ) (e : Break) → BreakAt t n e → e ≡ Cr → get_or (drop (n + length (break_bytes e)) t) 0 0 ≢ 10
alone t n No b k = cc
alone t n Lf b k = cc
alone t n CrLf b k = cc
alone t n Cr b k = λ h.
    let g : get_or t (n + 1 + 0) 0 ≡ 10 = sym (get_or-drop (n + 1) t 0 0) ∙ h in
    let z : n + 1 + 0 ≡ n + 1 = omega arith in
    let g' : get_or t (n + 1) 0 ≡ 10 = ap (λ (m : ℕ). get_or t m 0) (sym z) ∙ g in
    elim (Rattle.std.proofs.lemmas.Bool.cases_lt (n + 1) (length t)) [
      | inl l ↦ b.1 (slice_get-get_or t (n + 1) 0 l ∙ ap Some g')
      | inr m ↦ absurd (omega (arith, get_or_past t (n + 1) 0 m, g'))
    ]

cut_more : (t : List ℕ) (n : ℕ) (e : Break) → HasNoBreak (take n t) → BreakAt t n e → e ≢ No → lines_of t ≡ line (take n t) e ∷ lines_of (drop (n + length (break_bytes e)) t)
cut_more t n e h b k =
    ap (λ (u : List ℕ). lines_of u) (sym (take-append-drop n t) ∙ ap (λ (u : List ℕ). take n t ++ u) (drop-break t n e b k))
    ∙ lines_of-step (take n t) e (drop (n + length (break_bytes e)) t) h k (alone t n e b)

-- where no break begins, the text ends
ends : (t : List ℕ) (n : ℕ) → n ≤ length t → (n < length t → (get_or t n 0 ≡ 10) ⊎ (get_or t n 0 ≡ 13)) → BreakAt t n No → n ≡ length t
ends t n w at b =
    elim (Rattle.std.proofs.lemmas.Bool.cases_lt n (length t)) [
      | inl l ↦ elim (at l) [
        | inl e ↦ absurd (b.0 (slice_get-get_or t n 0 l ∙ ap Some e))
        | inr e ↦ absurd (b.1 (slice_get-get_or t n 0 l ∙ ap Some e))
      ]
      | inr m ↦ omega arith
    ]

-- the last line
cut_last : (t : List ℕ) (n : ℕ) → n ≤ length t → HasNoBreak (take n t) → (n < length t → (get_or t n 0 ≡ 10) ⊎ (get_or t n 0 ≡ 13)) → BreakAt t n No → lines_of t ≡ line (take n t) No ∷ []
cut_last t n w h at b =
    let all : take n t ≡ t = Rattle.std.proofs.lemmas.List.take_all n t (omega (arith, ends t n w at b)) in
    let P : List ℕ → Type 0 = λ u. lines_of u ≡ line (take n t) No ∷ [] in
    subst P all (lines_of-last (take n t) h)

-- the text may be cut behind a break
cut_boundary : (t : List ℕ) (n : ℕ) (e : Break) → IsUtf8 t → BreakAt t n e → e ≢ No → IsCharBoundary t (n + length (break_bytes e))
cut_boundary t n No u b k = absurd (k refl)
cut_boundary t n Lf u b k = IsCharBoundary-after_ascii t n u (slice_get_within t n 10 b) (omega (arith, get_or_from_slice_get t n 10 0 b))
cut_boundary t n Cr u b k = IsCharBoundary-after_ascii t n u (slice_get_within t n 13 b.0) (omega (arith, get_or_from_slice_get t n 13 0 b.0))
cut_boundary t n CrLf u b k =
    let two : n + 1 + 1 ≡ n + 2 = omega arith in
    subst (λ (m : ℕ). IsCharBoundary t m) two (IsCharBoundary-after_ascii t (n + 1) u (slice_get_within t (n + 1) 10 b.1) (omega (arith, get_or_from_slice_get t (n + 1) 10 0 b.1)))

-- and behind the first one, if there is one
pub rest_boundary : (t : List ℕ) (n : ℕ) (e : Break) → IsUtf8 t → n ≤ length t → (n < length t → (get_or t n 0 ≡ 10) ⊎ (get_or t n 0 ≡ 13)) → BreakAt t n e → IsCharBoundary t (n + length (break_bytes e))
rest_boundary t n No u w at b = let all : n ≡ length t = ends t n w at b in (omega arith, λ h. absurd (omega arith))
rest_boundary t n Lf u w at b = cut_boundary t n Lf u b (λ e. cc)
rest_boundary t n CrLf u w at b = cut_boundary t n CrLf u b (λ e. cc)
rest_boundary t n Cr u w at b = cut_boundary t n Cr u b (λ e. cc)

pub lines_first : (t : List ℕ) (n : ℕ) (e : Break) → n ≤ length t → HasNoBreak (take n t) → (n < length t → (get_or t n 0 ≡ 10) ⊎ (get_or t n 0 ≡ 13)) → BreakAt t n e
    → lines_of t ≡ line (take n t) e ∷ lines_behind e (drop (n + length (break_bytes e)) t)
lines_first t n No w h at b = cut_last t n w h at b
lines_first t n Lf w h at b = cut_more t n Lf h b (λ e. cc)
lines_first t n CrLf w h at b = cut_more t n CrLf h b (λ e. cc)
lines_first t n Cr w h at b = cut_more t n Cr h b (λ e. cc)

-- what stands behind a break
pub behind_break : (e : Break) (rest : List ℕ) → e ≢ No → lines_behind e rest ≡ lines_of rest
behind_break No rest more = absurd (more refl)
behind_break Lf rest more = refl
behind_break CrLf rest more = refl
behind_break Cr rest more = refl

-- and behind none
pub behind_none : (e : Break) (rest : List ℕ) → e ≡ No → lines_behind e rest ≡ []
behind_none e rest last = ap (λ (b : Break). lines_behind b rest) last

same_line : (row : RowValue) (xs : List ℕ) (e : Break) → row.text ≡ xs → row.end ≡ e → row ≡ line xs e
same_line row xs e a b = let P : List ℕ → Type 0 = λ ys. line row.text row.end ≡ line ys e in subst P a (ap (λ (f : Break). line row.text f) b)

-- a loop's step: a row is pushed that is the first line of what is left
pub goes_on : {T E : Type 0} (r : Result T E) (x : T) (rows new : List RowValue) (row : RowValue) (xs : List ℕ) (e : Break) (t all : List ℕ) (others : List RowValue)
    → new ≡ cond (is_ok r) (rows ++ row ∷ []) rows → r ≡ Ok x → row.text ≡ xs → row.end ≡ e → lines_of t ≡ line xs e ∷ others → rows ++ lines_of t ≡ lines_of all → new ++ others ≡ lines_of all
goes_on r x rows new row xs e t all others p ok a b first same =
    let now : new ≡ rows ++ row ∷ [] = pushed (row ∷ []) refl ok p in
    let is = same_line row xs e a b in
    let whole : rows ++ (line xs e ∷ others) ≡ lines_of all = ap (λ (l : List RowValue). rows ++ l) (sym first) ∙ same in
    rw (now, is, append_assoc rows (line xs e ∷ []) others) whole
