-- Places by bytes: where a text is cut, and what stands there.
use Rattle.std.proofs.Common.{◌≡◌, ◌≢◌, ℕ, zero, suc, ◌+◌, ◌-◌, ◌<◌, ◌≤◌, ◌⊎◌, inl, inr, Some, true, List, [], ◌∷◌, ◌++◌, length, take, drop, get_or, refl, sym, ◌∙◌, ap, subst, arith, length-append}
use Rattle.std.proofs.Math.Seq.{take-add, take-append-add, drop-append-add}
use Rattle.std.proofs.lemmas.Bool.{cases_lt, and_parts, and_from, or_cases, or_left, or_right, cond-true, cond-false, eqb-true, eq-eqb, ne_eqb, eqb-false, lt-ltb, le-ltb, not-true, not_from_false}
use Rattle.std.proofs.lemmas.Option.{slice_get_within, slice_get-get_or}
use Rattle.std.proofs.lemmas.List.{append-nil, take-append-drop, take-append-le, drop-append-le, drop-drop, drop_all, take_all, get_or-take, get_or_append_left, get_or-append_right, length-take-le}
use Rattle.std.proofs.lemmas.List.Concat.{flat_map-append}
use Rattle.std.proofs.lemmas.List.Elements.{All-head, All-drop, All-get_or}
use Rattle.std.specs.Prelude.{All, ◌↔◌, ◌==◌, ◌||◌, ◌&&◌, not}
use Rattle.std.specs.List.{slice_get}
use Rattle.std.specs.Str.{IsUtf8}
use Rattle.yl_text.specs.declared.row.Break.{Break}
use Rattle.yl_text.specs.declared.row.Break.TheVariants.{No, Lf, CrLf, Cr}
use Rattle.yl_text.specs.Lines.{RowValue, break_bytes, row_bytes, text_of, HasNoBreak, AreEnded, AreWhole}
use Rattle.yl_text.specs.Store.{AreLines}
use Rattle.yl_text.specs.Edit.{last_byte, begins_line, line_at}
use Rattle.yl_text.specs.PutLines.{first_byte, Joins, EndsInBreak, front_of, back_of}
use Rattle.yl_text.specs.Places.{line_bytes, line_start, IsCut, IsBytePlace, BeginsBehind}
use Rattle.yl_text.proofs.Edited.{ended_back, has_last, last_of, some_byte}
use Rattle.yl_text.proofs.Seams.{drop_here, back_starts, front_ends, ends_at, last_at}

-- ---- the parts of a text about a line
pub back_parts : (ps : List RowValue) (i : ℕ) → back_of ps i ≡ line_bytes ps i ++ back_of ps (i + 1)
back_parts ps i =
    ap (λ (l : List RowValue). text_of l) (sym (take-append-drop 1 (drop i ps))) ∙ flat_map-append row_bytes (take 1 (drop i ps)) (drop 1 (drop i ps)) ∙ ap (λ (l : List RowValue). line_bytes ps i ++ text_of l) (drop-drop 1 i ps)

pub text_parts : (ps : List RowValue) (i : ℕ) → text_of ps ≡ front_of ps i ++ back_of ps i
text_parts ps i = ap (λ (l : List RowValue). text_of l) (sym (take-append-drop i ps)) ∙ flat_map-append row_bytes (take i ps) (drop i ps)

pub front_parts : (ps : List RowValue) (i : ℕ) → front_of ps (i + 1) ≡ front_of ps i ++ line_bytes ps i
front_parts ps i = ap (λ (l : List RowValue). text_of l) (take-add i 1 ps) ∙ flat_map-append row_bytes (take i ps) (take 1 (drop i ps))

pub line_is : (ps : List RowValue) (i : ℕ) (p : RowValue) → slice_get ps i ≡ Some p → line_bytes ps i ≡ row_bytes p
line_is ps i p e = ap (λ (l : List RowValue). text_of (take 1 l)) (drop_here ps i p e) ∙ append-nil (row_bytes p)

pub start_more : (ps : List RowValue) (i : ℕ) → line_start ps (i + 1) ≡ line_start ps i + length (line_bytes ps i)
start_more ps i = ap length (front_parts ps i) ∙ length-append (front_of ps i) (line_bytes ps i)

pub start_within : (ps : List RowValue) (i : ℕ) → line_start ps i + length (line_bytes ps i) ≤ length (text_of ps)
start_within ps i = omega (arith, ap length (text_parts ps i), length-append (front_of ps i) (back_of ps i), ap length (back_parts ps i), length-append (line_bytes ps i) (back_of ps (i + 1)))

-- the text is cut in a line
pub cut_text : (ps : List RowValue) (n i k : ℕ) → line_start ps i + k ≡ n → k ≤ length (line_bytes ps i)
    → (take n (text_of ps) ≡ front_of ps i ++ take k (line_bytes ps i)) × (drop n (text_of ps) ≡ drop k (line_bytes ps i) ++ back_of ps (i + 1))
cut_text ps n i k e w =
    let x = front_of ps i in
    let l = line_bytes ps i in
    let y = back_of ps (i + 1) in
    let parts : text_of ps ≡ x ++ (l ++ y) = text_parts ps i ∙ ap (λ (u : List ℕ). x ++ u) (back_parts ps i) in (
      ap (λ (m : ℕ). take m (text_of ps)) (sym e) ∙ ap (λ (u : List ℕ). take (length x + k) u) parts ∙ take-append-add x (l ++ y) k ∙ ap (λ (u : List ℕ). x ++ u) (take-append-le k l y w),
      ap (λ (m : ℕ). drop m (text_of ps)) (sym e) ∙ ap (λ (u : List ℕ). drop (length x + k) u) parts ∙ drop-append-add x (l ++ y) k ∙ drop-append-le k l y w,
    )

-- ---- what stands where a line begins
abbrev pub no_line : RowValue
no_line = record { text = []; end = No }

pub found : (ps : List RowValue) (i : ℕ) → i < length ps → slice_get ps i ≡ Some (get_or ps i no_line)
found ps i l = slice_get-get_or ps i no_line l

whole_back : (ps : List RowValue) (b : ℕ) → AreWhole ps → AreWhole (drop b ps)
whole_back ps zero w = w
whole_back [] (suc b) w = w
whole_back (p ∷ ps) (suc b) w = whole_back ps b w.1

-- no CR stands before an LF there
pub apart_at : (ps : List RowValue) (a : ℕ) → AreLines ps → ¬ (Joins (front_of ps a) (back_of ps a))
apart_at ps zero h j = absurd (omega (arith, j.0))
apart_at ps (suc a) h j =
    let n : suc a ≡ a + 1 = omega arith in
    let k = subst (λ (m : ℕ). Joins (front_of ps m) (back_of ps m)) n j in
    elim (cases_lt (a + 1) (length ps)) [
      | inl l ↦
          let at = found ps a (omega arith) in
          let next = found ps (a + 1) l in
          let cr = (front_ends ps a _ h l at).0 k.0 in
          let lf = (back_starts ps (a + 1) _ h next).0 k.1 in
          let rest = drop_here ps a _ at ∙ ap (λ (l : List RowValue). get_or ps a no_line ∷ l) (drop_here ps (a + 1) _ next) in
          let whole = subst (λ (l : List RowValue). AreWhole l) rest (whole_back ps a h.lines.whole) in
          whole.0 cr lf
      | inr m ↦ absurd (omega (arith, ap (λ (l : List RowValue). first_byte (text_of l)) (drop_all (a + 1) ps m), k.1))
    ]

-- the text before it is empty, or ends in a break
pub broken_at : (ps : List RowValue) (a : ℕ) → AreLines ps → a < length ps → (front_of ps a ≡ []) ⊎ EndsInBreak (front_of ps a)
broken_at ps zero h l = inl refl
broken_at ps (suc a) h l =
    let n : a + 1 ≡ suc a = omega arith in
    inr (subst (λ (m : ℕ). EndsInBreak (front_of ps m)) n (ends_at ps a _ h (omega (arith, l)) (found ps a (omega (arith, l)))))

-- a line that is not the last has a byte, and the last has no break
pub some_bytes : (ps : List RowValue) (i : ℕ) → AreLines ps → i + 1 < length ps → 0 < length (line_bytes ps i)
some_bytes ps i h l =
    let at = found ps i (omega arith) in
    omega (arith, ap length (line_is ps i _ at), some_byte (get_or ps i no_line) (last_at ps i _ h l at).0)

unbroken_at : (ps : List RowValue) (i : ℕ) (p : RowValue) → AreLines ps → slice_get ps i ≡ Some p → HasNoBreak p.text
unbroken_at ps i p h e =
    let N : RowValue → Type 0 = λ p. HasNoBreak p.text in
    All-head N p (drop (i + 1) ps) (subst (λ (l : List RowValue). All N l) (drop_here ps i p e) (All-drop N i ps h.lines.unbroken))

last_has_none : (ps : List RowValue) (i : ℕ) (p : RowValue) → AreLines ps → slice_get ps i ≡ Some p → length ps ≤ i + 1 → p.end ≡ No
last_has_none ps i p h e l =
    let only : drop i ps ≡ p ∷ [] = drop_here ps i p e ∙ ap (λ (l : List RowValue). p ∷ l) (drop_all (i + 1) ps l) in
    subst (λ (l : List RowValue). AreEnded l) only (ended_back ps i (slice_get_within ps i p e) h.lines.ended)

-- ---- whether a line begins
pub begins : (x y : List ℕ) → (begins_line x y ≡ true) ↔ BeginsBehind x y
begins x y = (told x y, tells x y) where
  told : (x y : List ℕ) → begins_line x y ≡ true → BeginsBehind x y
  told [] y h = inl refl
  told (b ∷ bs) y h =
      let x = b ∷ bs in
      inr (
        omega arith,
        elim (or_cases (length x == 0 || last_byte x == 10) (last_byte x == 13 && not (first_byte y == 10)) h) [
          | inl early ↦ elim (or_cases (length x == 0) (last_byte x == 10) early) [
            | inl none ↦ absurd (omega (arith, eqb-true (length x) 0 none))
            | inr lf ↦ inl (eqb-true (last_byte x) 10 lf)
          ]
          | inr late ↦
              let parts = and_parts (last_byte x == 13) (not (first_byte y == 10)) late in
              inr (eqb-true (last_byte x) 13 parts.0, eqb-false (first_byte y) 10 (not-true (first_byte y == 10) parts.1))
        ],
      )

  tells : (x y : List ℕ) → BeginsBehind x y → begins_line x y ≡ true
  tells x y (inl none) = or_left (length x == 0 || last_byte x == 10) _ (or_left (length x == 0) _ (eq-eqb (length x) 0 (ap length none)))
  tells x y (inr h) = elim h.1 [
    | inl lf ↦ or_left (length x == 0 || last_byte x == 10) _ (or_right (length x == 0) _ (eq-eqb (last_byte x) 10 lf))
    | inr cr ↦ or_right (length x == 0 || last_byte x == 10) _ (and_from (last_byte x == 13) _ (eq-eqb (last_byte x) 13 cr.0) (not_from_false _ (ne_eqb (first_byte y) 10 cr.1)))
  ]

-- none begins inside a line
inside_row : (xs : List ℕ) (e : Break) (k : ℕ) (y : List ℕ) → HasNoBreak xs → 0 < k → k ≤ length (xs ++ break_bytes e) → (e ≢ No → k < length (xs ++ break_bytes e))
    → (last_byte (take k (xs ++ break_bytes e)) ≡ 10) ⊎ ((last_byte (take k (xs ++ break_bytes e)) ≡ 13) × (first_byte (drop k (xs ++ break_bytes e) ++ y) ≢ 10)) → ⊥
inside_row xs e k y n some within inside ends =
    elim (cases_lt (length xs) k) [
      | inl past ↦ in_break xs e k y past within inside (elim ends [ inl f ↦ inl (sym (last xs e k some within) ∙ f) | inr f ↦ inr (sym (last xs e k some within) ∙ f.0, f.1) ])
      | inr here ↦
          let P : ℕ → Type 0 = λ (b : ℕ). (b ≢ 10) × (b ≢ 13) in
          let at : last_byte (take k (xs ++ break_bytes e)) ≡ get_or xs (k - 1) 0 = last xs e k some within ∙ get_or_append_left xs (break_bytes e) 0 (k - 1) (omega arith) in
          let l : k - 1 < length xs = omega (arith, here, some) in
          let none = All-get_or P xs (k - 1) 0 l n in
          elim ends [ inl f ↦ none.0 (sym at ∙ f) | inr f ↦ none.1 (sym at ∙ f.0) ]
    ] where
      last : (xs : List ℕ) (e : Break) (k : ℕ) → 0 < k → k ≤ length (xs ++ break_bytes e) → last_byte (take k (xs ++ break_bytes e)) ≡ get_or (xs ++ break_bytes e) (k - 1) 0
      last xs e k some within =
          ap (λ (m : ℕ). get_or (take k (xs ++ break_bytes e)) (m - 1) 0) (length-take-le k (xs ++ break_bytes e) within) ∙ get_or-take k (xs ++ break_bytes e) (k - 1) 0 (omega arith)

      in_break : (xs : List ℕ) (e : Break) (k : ℕ) (y : List ℕ) → length xs < k → k ≤ length (xs ++ break_bytes e) → (e ≢ No → k < length (xs ++ break_bytes e))
          → (get_or (xs ++ break_bytes e) (k - 1) 0 ≡ 10) ⊎ ((get_or (xs ++ break_bytes e) (k - 1) 0 ≡ 13) × (first_byte (drop k (xs ++ break_bytes e) ++ y) ≢ 10)) → ⊥
      in_break xs No k y past within inside ends = omega (arith, length-append xs [])
      in_break xs Lf k y past within inside ends = let l = inside (λ z. cc) in omega (arith, l, length-append xs (10 ∷ []))
      in_break xs Cr k y past within inside ends = let l = inside (λ z. cc) in omega (arith, l, length-append xs (13 ∷ []))
      in_break xs CrLf k y past within inside ends =
          let es : List ℕ = 13 ∷ 10 ∷ [] in
          let l = inside (λ z. cc) in
          let at : k ≡ length xs + 1 = omega (arith, l, length-append xs es) in
          let one : (k - 1) - length xs ≡ 0 = omega (arith, at) in
          let cr : get_or (xs ++ es) (k - 1) 0 ≡ 13 = get_or-append_right xs es (length xs) (k - 1) 0 refl (omega arith) ∙ ap (λ (m : ℕ). get_or es m 0) one in
          let lf : first_byte (drop k (xs ++ es) ++ y) ≡ 10 = ap (λ (m : ℕ). first_byte (drop m (xs ++ es) ++ y)) at ∙ ap (λ (u : List ℕ). first_byte (u ++ y)) (drop-append-add xs es 1) in
          elim ends [ inl f ↦ omega (arith, cr, f) | inr f ↦ f.1 lf ]

-- it begins at a place where that is behind no byte of its line
pub begins_at : (ps : List RowValue) (n i k : ℕ) → AreLines ps → IsBytePlace ps n i k → (begins_line (take n (text_of ps)) (drop n (text_of ps)) ≡ true) ↔ (k ≡ 0)
begins_at ps n i k h at =
    let cut = cut_text ps n i k at.place at.cut.within in
    let B : List ℕ → List ℕ → Type 0 = λ x y. BeginsBehind x y in
    let test = begins (take n (text_of ps)) (drop n (text_of ps)) in (
      λ t. elim (cases_lt 0 k) [
        | inl some ↦ absurd (inside ps i k h at.line at.inside at.cut.within some (subst (λ (x : List ℕ). B x (drop k (line_bytes ps i) ++ back_of ps (i + 1))) cut.0 (subst (λ (y : List ℕ). B (take n (text_of ps)) y) cut.1 (test.0 t))))
        | inr none ↦ omega arith
      ],
      λ none. test.1 (subst (λ (x : List ℕ). B x (drop n (text_of ps))) (sym (cut.0 ∙ ap (λ (m : ℕ). front_of ps i ++ take m (line_bytes ps i)) none ∙ append-nil (front_of ps i)))
          (subst (λ (y : List ℕ). B (front_of ps i) y) (sym (cut.1 ∙ ap (λ (m : ℕ). drop m (line_bytes ps i) ++ back_of ps (i + 1)) none ∙ sym (back_parts ps i)))
          (start ps i h at.line))),
    ) where
      start : (ps : List RowValue) (i : ℕ) → AreLines ps → i < length ps → BeginsBehind (front_of ps i) (back_of ps i)
      start ps i h l = elim (broken_at ps i h l) [
        | inl none ↦ inl none
        | inr ends ↦ elim ends [
          | inl lf ↦ inr (has_last (front_of ps i) 10 (λ z. absurd (omega (arith, z))) lf, inl lf)
          | inr cr ↦ inr (has_last (front_of ps i) 13 (λ z. absurd (omega (arith, z))) cr, inr (cr, λ lf. apart_at ps i h (cr, lf)))
        ]
      ]

      inside : (ps : List RowValue) (i k : ℕ) → AreLines ps → i < length ps → (i + 1 < length ps → k < length (line_bytes ps i)) → k ≤ length (line_bytes ps i) → 0 < k
          → BeginsBehind (front_of ps i ++ take k (line_bytes ps i)) (drop k (line_bytes ps i) ++ back_of ps (i + 1)) → ⊥
      inside ps i k h l before within some b =
          let e = found ps i l in
          let p = get_or ps i no_line in
          let is = line_is ps i p e in
          let long : length (take k (line_bytes ps i)) ≡ k = length-take-le k (line_bytes ps i) within in
          let last : last_byte (front_of ps i ++ take k (line_bytes ps i)) ≡ last_byte (take k (row_bytes p)) = last_of (front_of ps i) (take k (line_bytes ps i)) (omega arith) ∙ ap (λ (u : List ℕ). last_byte (take k u)) is in
          let next : first_byte (drop k (line_bytes ps i) ++ back_of ps (i + 1)) ≡ first_byte (drop k (row_bytes p) ++ back_of ps (i + 1)) = ap (λ (u : List ℕ). first_byte (drop k u ++ back_of ps (i + 1))) is in
          let size = ap length is in
          inside_row p.text p.end k (back_of ps (i + 1)) (unbroken_at ps i p h e) some (omega (arith, size))
          (λ n. elim (cases_lt (i + 1) (length ps)) [ inl m ↦ let z = before m in omega (arith, size, z) | inr m ↦ absurd (n (last_has_none ps i p h e m)) ])
          (elim b [
            | inl none ↦ absurd (omega (arith, ap length none, length-append (front_of ps i) (take k (line_bytes ps i))))
            | inr b ↦ elim b.1 [ inl f ↦ inl (sym last ∙ f) | inr f ↦ inr (sym last ∙ f.0, λ g. f.1 (next ∙ g)) ]
          ])

-- ---- the line of a place
pub line_at-is : (ps : List RowValue) (n i : ℕ) → i < length ps → line_start ps i ≤ n → (i + 1 < length ps → n < line_start ps (i + 1)) → line_at ps n ≡ i
line_at-is [] n i l s e = absurd (omega (arith, l))
line_at-is (p ∷ []) n zero l s e = refl
line_at-is (p ∷ []) n (suc i) l s e = absurd (omega (arith, l))
line_at-is (p ∷ q ∷ ps) n zero l s e = cond-true _ _ _ (lt-ltb n (length (row_bytes p)) (omega (arith, e (omega arith), ap length (append-nil (row_bytes p)))))
line_at-is (p ∷ q ∷ ps) n (suc i) l s e =
    let start : line_start (p ∷ q ∷ ps) (suc i) ≡ length (row_bytes p) + line_start (q ∷ ps) i = length-append (row_bytes p) (text_of (take i (q ∷ ps))) in
    let n1 : suc i + 1 ≡ suc (i + 1) = omega arith in
    let next : line_start (p ∷ q ∷ ps) (suc i + 1) ≡ length (row_bytes p) + line_start (q ∷ ps) (i + 1) = ap (λ (m : ℕ). line_start (p ∷ q ∷ ps) m) n1 ∙ length-append (row_bytes p) (text_of (take (i + 1) (q ∷ ps))) in
    let rest = line_at-is (q ∷ ps) (n - length (row_bytes p)) i (omega (arith, l)) (omega (arith, start, s)) (λ m. let z = e (omega (arith, m)) in omega (arith, next, z, start, s)) in
    cond-false _ _ _ (le-ltb n (length (row_bytes p)) (omega (arith, start, s))) ∙ ap (λ (m : ℕ). 1 + m) rest ∙ omega arith

pub line_of-is : (ps : List RowValue) (n i k : ℕ) → IsBytePlace ps n i k → line_at ps n ≡ i
line_of-is ps n i k at = line_at-is ps n i at.line (omega (arith, at.place)) (λ m. let z = at.inside m in omega (arith, at.place, start_more ps i, z))

-- bytes cut before all of them, and behind
pub start_cut : (bs : List ℕ) → IsCut bs 0
start_cut bs = record { within = omega arith; front = λ u. ([], (refl, refl)); back = λ u. u }

pub end_cut : (bs : List ℕ) → IsCut bs (length bs)
end_cut bs =
    record {
      within = omega arith;
      front = λ u. subst IsUtf8 (sym (take_all (length bs) bs (omega arith))) u;
      back = λ u. subst IsUtf8 (sym (drop_all (length bs) bs (omega arith))) ([], (refl, refl));
    }
