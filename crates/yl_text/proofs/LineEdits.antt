-- An edit between two places is made by lines.
use Rattle.std.proofs.Common.{◌≡◌, ◌≢◌, ℕ, zero, suc, ◌+◌, ◌-◌, ◌<◌, ◌≤◌, ◌⊎◌, inl, inr, Bool, true, false, true≢false, List, [], ◌∷◌, ◌++◌, length, take, drop, get_or, cond, refl, sym, ◌∙◌, ap, subst, arith, append_assoc, length-append}
use Rattle.std.proofs.lemmas.Bool.{cases_lt, cases_order, cases_Bool, and_parts, and_from, and_left, and_right, cond-true, cond-false, eq-eqb, ne_eqb, false_from_ne_true}
use Rattle.std.proofs.lemmas.List.{append-nil, take_all, drop_all, take-take, get_or-take, get_or-drop, length-take, length-take-le, length-drop, nil_from_length}
use Rattle.std.proofs.lemmas.Str.{IsUtf8-append}
use Rattle.std.specs.Prelude.{◌↔◌}
use Rattle.std.specs.Str.{IsUtf8}
use Rattle.yl_text.specs.declared.position.Pos.{Pos}
use Rattle.yl_text.specs.Lines.{RowValue, text_of}
use Rattle.yl_text.specs.Store.{AreLines}
use Rattle.yl_text.specs.Edit.{last_byte, offset, front_at, back_at, begins_line, line_of, is_behind_cr, is_line_kept, first_line, end_line, edited_text, CanEdit}
use Rattle.yl_text.specs.PutLines.{first_byte, Joins, LeavesOpenEnd, IsLineEdit, front_of, back_of, put_text}
use Rattle.yl_text.specs.Places.{line_bytes, line_start, IsCut, IsBytePlace, IsBehind, IsFrontCut, BeginsBehind}
use Rattle.yl_text.proofs.Edited.{first_of, has_last, last_of}
use Rattle.yl_text.proofs.Seams.{ends_at, length-front}
use Rattle.yl_text.proofs.ByBytes.{apart_at, back_parts, begins, begins_at, broken_at, cut_text, end_cut, found, front_parts, line_of-is, some_bytes, start_more, start_within}

-- ---- one place before another
start_before : (ps : List RowValue) (i j : ℕ) → i ≤ j → line_start ps i ≤ line_start ps j
start_before ps i j l = omega (arith, length-front (take j ps) i, ap (λ (l : List RowValue). length (text_of l)) (take-take i j ps l))

pub in_line_before : (ps : List RowValue) (n m i k j l : ℕ) → IsBytePlace ps n i k → IsBytePlace ps m j l → j < i → m < n
in_line_before ps n m i k j l at other before =
    let within = other.inside (let z = at.line in omega arith) in
    omega (arith, at.place, other.place, within, start_more ps j, start_before ps (j + 1) i (omega arith))

-- ---- the first line of an edit
apart_some : (ps : List RowValue) (a k : ℕ) (t : List ℕ) → AreLines ps → 0 < k → k ≤ length (line_bytes ps a) → ¬ (Joins (front_of ps a) (take k (line_bytes ps a) ++ t))
apart_some ps a k t h some within j =
    let bs = line_bytes ps a in
    let long : length (take k bs) ≡ k = length-take-le k bs within in
    let first : first_byte (take k bs ++ t) ≡ first_byte (back_of ps a) = first_of (take k bs) t (omega arith) ∙ get_or-take k bs 0 0 some ∙ sym (ap (λ (u : List ℕ). first_byte u) (back_parts ps a) ∙ first_of bs (back_of ps (a + 1)) (omega arith)) in
    apart_at ps a h (j.0, sym first ∙ j.1)

pub front_cut_here : (ps : List RowValue) (p : Pos) (i k : ℕ) → AreLines ps → IsBytePlace ps (offset ps p) i k → (0 < k) ⊎ ((k ≡ 0) × (last_byte (front_of ps i) ≢ 13)) → IsFrontCut ps p i k
front_cut_here ps p i k h at which =
    let cut = cut_text ps (offset ps p) i k at.place at.cut.within in
    let x = front_at ps p in
    let y = back_at ps p in
    let no : is_behind_cr ps p ≡ false = elim which [
      | inl some ↦ and_left (begins_line x y) _ (false_from_ne_true (begins_line x y) (λ t. let z = (begins_at ps (offset ps p) i k h at).0 t in omega arith))
      | inr none ↦
          let front : x ≡ front_of ps i = cut.0 ∙ ap (λ (m : ℕ). front_of ps i ++ take m (line_bytes ps i)) none.0 ∙ append-nil (front_of ps i) in
          and_right (begins_line x y) _ (ne_eqb (last_byte x) 13 (λ e. none.1 (sym (ap (λ (u : List ℕ). last_byte u) front) ∙ e)))
    ] in
    record {
      first = sym (cond-false (is_behind_cr ps p) (line_of ps p - 1) (line_of ps p) no ∙ line_of-is ps (offset ps p) i k at);
      line = at.line;
      front = cut.0;
      cut = at.cut;
      apart = λ t j. elim which [
        | inl some ↦ apart_some ps i k t h some at.cut.within j
        | inr none ↦ none.1 j.0
      ];
      begins = λ z. elim (broken_at ps i h at.line) [
        | inl none ↦ inl none
        | inr ends ↦ elim ends [
          | inl lf ↦ inr lf
          | inr cr ↦ elim which [ inl some ↦ absurd (omega arith) | inr none ↦ absurd (none.1 cr) ]
        ]
      ];
    }

pub behind_some : (ps : List RowValue) (i : ℕ) → last_byte (front_of ps i) ≡ 13 → 0 < i
behind_some ps zero e = absurd (omega (arith, e))
behind_some ps (suc i) e = omega arith

pub front_cut_back : (ps : List RowValue) (p : Pos) (i k n : ℕ) → AreLines ps → IsBytePlace ps (offset ps p) i k → k ≡ 0 → 0 < i → last_byte (front_of ps i) ≡ 13 → n ≡ length (line_bytes ps (i - 1)) → IsFrontCut ps p (i - 1) n
front_cut_back ps p i k n h at none some cr size =
    let a = i - 1 in
    let back : a + 1 ≡ i = omega arith in
    let cut = cut_text ps (offset ps p) i k at.place at.cut.within in
    let front : front_at ps p ≡ front_of ps i = cut.0 ∙ ap (λ (m : ℕ). front_of ps i ++ take m (line_bytes ps i)) none ∙ append-nil (front_of ps i) in
    let yes : is_behind_cr ps p ≡ true = and_from (begins_line (front_at ps p) (back_at ps p)) _ ((begins_at ps (offset ps p) i k h at).1 none) (eq-eqb (last_byte (front_at ps p)) 13 (ap (λ (u : List ℕ). last_byte u) front ∙ cr)) in
    let all : take n (line_bytes ps a) ≡ line_bytes ps a = take_all n (line_bytes ps a) (omega arith) in
    let more : a + 1 < length ps = let z = at.line in omega arith in
    let long = some_bytes ps a h more in
    record {
      first = sym (cond-true (is_behind_cr ps p) (line_of ps p - 1) (line_of ps p) yes ∙ ap (λ (m : ℕ). m - 1) (line_of-is ps (offset ps p) i k at));
      line = omega arith;
      front = front ∙ ap (λ (m : ℕ). front_of ps m) (sym back) ∙ front_parts ps a ∙ ap (λ (u : List ℕ). front_of ps a ++ u) (sym all);
      cut = subst (λ (m : ℕ). IsCut (line_bytes ps a) m) (sym size) (end_cut (line_bytes ps a));
      apart = λ t j. apart_some ps a n t h (omega arith) (omega arith) j;
      begins = λ z. absurd (omega arith);
    }

-- ---- whether the line of the second place is kept
joined : (x w y : List ℕ) → (length w ≡ 0 → (x ≡ []) ⊎ (last_byte x ≡ 10)) → BeginsBehind (x ++ w) y ↔ BeginsBehind w y
joined x [] y broken =
    let same = append-nil x in
    (λ b. inl refl, λ b. subst (λ (u : List ℕ). BeginsBehind u y) (sym same) (elim (broken refl) [ inl none ↦ inl none | inr lf ↦ inr (has_last x 10 (λ z. absurd (omega (arith, z))) lf, inl lf) ]))
joined x (c ∷ cs) y broken =
    let w = c ∷ cs in
    let last : last_byte (x ++ w) ≡ last_byte w = last_of x w (omega arith) in
    let long : 0 < length (x ++ w) = omega (arith, length-append x w) in (
      λ b. elim b [
        | inl none ↦ absurd (omega (arith, ap length none, long))
        | inr b ↦ inr (omega arith, elim b.1 [ inl f ↦ inl (sym last ∙ f) | inr f ↦ inr (sym last ∙ f.0, f.1) ])
      ],
      λ b. elim b [
        | inl none ↦ absurd (omega (arith, ap length none))
        | inr b ↦ inr (long, elim b.1 [ inl f ↦ inl (last ∙ f) | inr f ↦ inr (last ∙ f.0, f.1) ])
      ],
    )

-- the bytes that stand behind the lines that are kept before an edit: those of the first line, and those that come in
abbrev new_bytes : List RowValue → ℕ → ℕ → List ℕ → List ℕ
new_bytes ps a c t = take c (line_bytes ps a) ++ t

kept_is : (ps : List RowValue) (from to : Pos) (t : List ℕ) (a c j m : ℕ) → AreLines ps → IsFrontCut ps from a c → IsBytePlace ps (offset ps to) j m
    → (is_line_kept ps from to t ≡ true) ↔ ((m ≡ 0) × BeginsBehind (new_bytes ps a c t) (back_of ps j))
kept_is ps from to t a c j m h f at =
    let w = new_bytes ps a c t in
    let cut = cut_text ps (offset ps to) j m at.place at.cut.within in
    let front : front_at ps from ++ t ≡ front_of ps a ++ w = ap (λ (u : List ℕ). u ++ t) f.front ∙ append_assoc (front_of ps a) (take c (line_bytes ps a)) t in
    let back : m ≡ 0 → back_at ps to ≡ back_of ps j = λ (z : m ≡ 0). cut.1 ∙ ap (λ (k : ℕ). drop k (line_bytes ps j) ++ back_of ps (j + 1)) z ∙ sym (back_parts ps j) in
    let broken : length w ≡ 0 → (front_of ps a ≡ []) ⊎ (last_byte (front_of ps a) ≡ 10) = λ (z : length w ≡ 0). f.begins (omega (arith, z, length-append (take c (line_bytes ps a)) t, length-take-le c (line_bytes ps a) f.cut.within)) in
    let old = begins_at ps (offset ps to) j m h at in
    let new = begins (front_at ps from ++ t) (back_at ps to) in
    let same = joined (front_of ps a) w (back_of ps j) broken in
    let B : List ℕ → List ℕ → Type 0 = λ x y. BeginsBehind x y in (
      λ yes.
          let parts = and_parts (begins_line (front_at ps to) (back_at ps to)) (begins_line (front_at ps from ++ t) (back_at ps to)) yes in
          let z = old.0 parts.0 in
          (z, same.0 (subst (λ (x : List ℕ). B x (back_of ps j)) front (subst (λ (y : List ℕ). B (front_at ps from ++ t) y) (back z) (new.0 parts.1)))),
      λ b. and_from (begins_line (front_at ps to) (back_at ps to)) (begins_line (front_at ps from ++ t) (back_at ps to)) (old.1 b.0)
          (new.1 (subst (λ (y : List ℕ). B (front_at ps from ++ t) y) (sym (back b.0)) (subst (λ (x : List ℕ). B x (back_of ps j)) (sym front) (same.1 b.1)))),
    )

-- ---- the last line of an edit
-- behind the bytes w, those of the last line that are left, v, and then the lines from b on
record IsTail (ps : List RowValue) (n b : ℕ) (w v : List ℕ) : Type 0 where
  back : drop n (text_of ps) ≡ v ++ back_of ps b
  within : b ≤ length ps
  closed : ¬ (LeavesOpenEnd ps b (w ++ v))
  apart : ¬ (Joins (w ++ v) (back_of ps b))

tail_kept : (ps : List RowValue) (n j m r : ℕ) (w : List ℕ) → IsBytePlace ps n j m → m ≡ 0 → BeginsBehind w (back_of ps j) → r ≡ length (line_bytes ps j) → IsTail ps n j w (drop r (line_bytes ps j))
tail_kept ps n j m r w at z b size =
    let cut = cut_text ps n j m at.place at.cut.within in
    let none : drop r (line_bytes ps j) ≡ [] = drop_all r (line_bytes ps j) (omega arith) in
    let only : w ++ drop r (line_bytes ps j) ≡ w = ap (λ (u : List ℕ). w ++ u) none ∙ append-nil w in
    record {
      back = cut.1 ∙ ap (λ (k : ℕ). drop k (line_bytes ps j) ++ back_of ps (j + 1)) z ∙ sym (back_parts ps j) ∙ ap (λ (u : List ℕ). u ++ back_of ps j) (sym none);
      within = let l = at.line in omega arith;
      closed = subst (λ (u : List ℕ). ¬ (LeavesOpenEnd ps j u)) (sym only) (λ o. elim b [
        | inl empty ↦ o.1 empty
        | inr b ↦ o.2 (elim b.1 [ inl lf ↦ inl lf | inr cr ↦ inr cr.0 ])
      ]);
      apart = subst (λ (u : List ℕ). ¬ (Joins u (back_of ps j))) (sym only) (λ o. elim b [
        | inl empty ↦ absurd (omega (arith, sym (ap (λ (u : List ℕ). last_byte u) empty) ∙ o.0))
        | inr b ↦ elim b.1 [ inl lf ↦ absurd (omega (arith, lf, o.0)) | inr cr ↦ cr.1 o.1 ]
      ]);
    }

tail_cut : (ps : List RowValue) (n j m : ℕ) (w : List ℕ) → AreLines ps → IsBytePlace ps n j m → IsTail ps n (j + 1) w (drop m (line_bytes ps j))
tail_cut ps n j m w h at =
    let cut = cut_text ps n j m at.place at.cut.within in
    record {
      back = cut.1;
      within = let l = at.line in omega arith;
      closed = λ o.
          let last = last_of_rest ps n j m w at o.0 in
          o.2 (elim (ends_at ps j _ h o.0 (found ps j at.line)) [ inl lf ↦ inl (last ∙ lf) | inr cr ↦ inr (last ∙ cr) ]);
      apart = λ o. elim (cases_lt (j + 1) (length ps)) [
        | inl more ↦ apart_at ps (j + 1) h (sym (last_of_rest ps n j m w at more) ∙ o.0, o.1)
        | inr end ↦ absurd (omega (arith, ap (λ (l : List RowValue). first_byte (text_of l)) (drop_all (j + 1) ps end), o.1))
      ];
    } where
      last_of_rest : (ps : List RowValue) (n j m : ℕ) (w : List ℕ) → IsBytePlace ps n j m → j + 1 < length ps → last_byte (w ++ drop m (line_bytes ps j)) ≡ last_byte (front_of ps (j + 1))
      last_of_rest ps n j m w at more =
          let bs = line_bytes ps j in
          let inside = at.inside more in
          let size : length (drop m bs) ≡ length bs - m = length-drop m bs in
          let place : m + (length (drop m bs) - 1) ≡ length bs - 1 = omega arith in
          last_of w (drop m bs) (omega arith) ∙ get_or-drop m bs (length (drop m bs) - 1) 0 ∙ ap (λ (k : ℕ). get_or bs k 0) place ∙ sym (ap (λ (u : List ℕ). last_byte u) (front_parts ps j) ∙ last_of (front_of ps j) bs (omega arith))

-- ---- the edit
-- the first line is none behind the last
ordered : (ps : List RowValue) (from : Pos) (m a c j k : ℕ) → IsFrontCut ps from a c → IsBytePlace ps m j k → offset ps from ≤ m → a ≤ j
ordered ps from m a c j k f at o =
    elim (cases_lt j a) [
      | inl behind ↦
          let within = at.inside (let z = f.line in omega arith) in
          absurd (omega (arith, at.place, within, start_more ps j, start_before ps (j + 1) a (omega arith), ap length f.front, length-append (front_of ps a) (take c (line_bytes ps a)), length-take (offset ps from) (text_of ps)))
      | inr not ↦ not
    ]

by_tail : (ps : List RowValue) (from to : Pos) (t : List ℕ) (a b c j m r : ℕ) → CanEdit ps from to t → IsFrontCut ps from a c → a ≡ first_line ps from → b ≡ end_line ps from to t → a ≤ b
    → IsUtf8 (line_bytes ps a) → IsUtf8 (drop r (line_bytes ps j)) → IsTail ps (offset ps to) b (new_bytes ps a c t) (drop r (line_bytes ps j))
    → IsLineEdit ps from to t a b (new_bytes ps a c t ++ drop r (line_bytes ps j))
by_tail ps from to t a b c j m r can f first end o u8 v8 tail =
    let u = take c (line_bytes ps a) in
    let v = drop r (line_bytes ps j) in
    let parts : (u ++ t) ++ v ≡ u ++ (t ++ v) = append_assoc u t v in
    let same : put_text ps a b ((u ++ t) ++ v) ≡ edited_text ps from to t =
    ap (λ (z : List ℕ). front_of ps a ++ z) (append_assoc (u ++ t) v (back_of ps b) ∙ ap (λ (z : List ℕ). (u ++ t) ++ z) (sym tail.back) ∙ append_assoc u t (back_at ps to))
    ∙ sym (append_assoc (front_of ps a) u (t ++ back_at ps to)) ∙ ap (λ (z : List ℕ). z ++ (t ++ back_at ps to)) (sym f.front) in
    record {
      first = first;
      end = end;
      can = record {
        utf8 = IsUtf8-append (u ++ t) v (IsUtf8-append u t (f.cut.front u8) can.utf8) v8;
        range = record { starts = f.line; ordered = o; within = tail.within };
        closed = tail.closed;
        apart = λ j. elim j [
          | inl j ↦ elim j [
            | inl j ↦ f.apart (t ++ v) (j.0, ap (λ (z : List ℕ). first_byte z) (sym parts) ∙ j.1)
            | inr j ↦ tail.apart j
          ]
          | inr j ↦
              let none : u ≡ [] = nil_from_length u (omega (arith, ap length j.0, length-append (u ++ t) v, length-append u t)) in
              f.apart (back_of ps b) (j.1.0, ap (λ (z : List ℕ). first_byte (z ++ back_of ps b)) none ∙ j.1.1)
        ];
        short = omega (arith, ap length same, can.short);
      };
      same = same;
    }

pub line_edit_is : (ps : List RowValue) (from to : Pos) (t : List ℕ) (a b c j m r : ℕ) (kept : Bool) → AreLines ps → CanEdit ps from to t → IsFrontCut ps from a c → IsBytePlace ps (offset ps to) j m
    → (kept ≡ true) ↔ ((m ≡ 0) × BeginsBehind (new_bytes ps a c t) (back_of ps j)) → b ≡ cond kept j (j + 1) → r ≡ cond kept (length (line_bytes ps j)) m
    → IsUtf8 (line_bytes ps a) → IsUtf8 (line_bytes ps j) → IsLineEdit ps from to t a b (new_bytes ps a c t ++ drop r (line_bytes ps j))
line_edit_is ps from to t a b c j m r kept h can f at is end rest u8 v8 =
    let told = kept_is ps from to t a c j m h f at in
    let line = line_of-is ps (offset ps to) j m at in
    let before = ordered ps from (offset ps to) a c j m f at can.range.ordered in
    elim (cases_Bool kept) [
      | inl stays ↦
          let place : b ≡ j = end ∙ cond-true kept j (j + 1) stays in
          let size : r ≡ length (line_bytes ps j) = rest ∙ cond-true kept (length (line_bytes ps j)) m stays in
          let both = is.0 stays in
          let last : b ≡ end_line ps from to t = place ∙ sym (cond-true (is_line_kept ps from to t) (line_of ps to) (line_of ps to + 1) (told.1 both) ∙ line) in
          by_tail ps from to t a b c j m r can f f.first last (omega arith) u8
          (subst (λ (k : ℕ). IsUtf8 (drop k (line_bytes ps j))) (sym size) ((end_cut (line_bytes ps j)).back v8))
          (subst (λ (k : ℕ). IsTail ps (offset ps to) k (new_bytes ps a c t) (drop r (line_bytes ps j))) (sym place) (tail_kept ps (offset ps to) j m r (new_bytes ps a c t) at both.0 both.1 size))
      | inr goes ↦
          let place : b ≡ j + 1 = end ∙ cond-false kept j (j + 1) goes in
          let byte : r ≡ m = rest ∙ cond-false kept (length (line_bytes ps j)) m goes in
          let not : is_line_kept ps from to t ≡ false = false_from_ne_true (is_line_kept ps from to t) (λ t. true≢false (sym (is.1 (told.0 t)) ∙ goes)) in
          let last : b ≡ end_line ps from to t = place ∙ sym (cond-false (is_line_kept ps from to t) (line_of ps to) (line_of ps to + 1) not ∙ ap (λ (k : ℕ). k + 1) line) in
          by_tail ps from to t a b c j m r can f f.first last (omega arith) u8
          (subst (λ (k : ℕ). IsUtf8 (drop k (line_bytes ps j))) (sym byte) (at.cut.back v8))
          (subst (λ (k : ℕ). IsTail ps (offset ps to) k (new_bytes ps a c t) (drop r (line_bytes ps j))) (sym place)
          (subst (λ (k : ℕ). IsTail ps (offset ps to) (j + 1) (new_bytes ps a c t) (drop k (line_bytes ps j))) (sym byte) (tail_cut ps (offset ps to) j m (new_bytes ps a c t) h at)))
    ]

-- the bytes of a line edit, as they are put together
pub put_together : (u t v l r : List ℕ) (none first more last : List ℕ) → none ≡ [] → first ≡ none ++ l → more ≡ first ++ t → last ≡ more ++ r → l ≡ u → r ≡ v → last ≡ (u ++ t) ++ v
put_together u t v l r none first more last a b c d e f = rw (d, c, b, a, e, f) refl

-- ---- what a check of an edit tells
pub behind_later : (ps : List RowValue) (n m i k j l : ℕ) → IsBytePlace ps n i k → IsBytePlace ps m j l → IsBehind i k j l → m < n
behind_later ps n m i k j l at other b = elim b [
  | inl before ↦ in_line_before ps n m i k j l at other before
  | inr same ↦ omega (arith, at.place, other.place, same.1, ap (λ (h : ℕ). line_start ps h) same.0)
]

pub not_behind : (ps : List RowValue) (n m i k j l : ℕ) → IsBytePlace ps n i k → IsBytePlace ps m j l → ¬ (IsBehind i k j l) → (i ≤ j) × (n ≤ m)
not_behind ps n m i k j l at other b = elim (cases_order i j) [
  | inl same ↦
      let least : k ≤ l = elim (cases_lt l k) [ inl less ↦ absurd (b (inr (sym same, less))) | inr not ↦ not ] in
      (omega arith, omega (arith, at.place, other.place, least, ap (λ (h : ℕ). line_start ps h) same))
  | inr differ ↦ elim differ [
    | inl before ↦ let z = in_line_before ps m n j l i k other at before in (omega arith, omega arith)
    | inr behind ↦ absurd (b (inl behind))
  ]
]

pub place_within : (ps : List RowValue) (n i k : ℕ) → IsBytePlace ps n i k → n ≤ length (text_of ps)
place_within ps n i k at = omega (arith, at.place, at.cut.within, start_within ps i)

pub length_edited : (ps : List RowValue) (from to : Pos) (t : List ℕ) → offset ps from ≤ offset ps to → offset ps to ≤ length (text_of ps) → length (edited_text ps from to t) + offset ps to ≡ offset ps from + length t + length (text_of ps)
length_edited ps from to t o within =
    omega (arith, length-append (front_at ps from) (t ++ back_at ps to), length-append t (back_at ps to), length-take-le (offset ps from) (text_of ps) (omega arith), length-drop (offset ps to) (text_of ps))
