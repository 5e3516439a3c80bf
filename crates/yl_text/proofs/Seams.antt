-- What stands at a seam, told from the rows there.
use Rattle.std.proofs.Common.{◌≡◌, ◌≢◌, ℕ, ◌+◌, ◌<◌, ◌≤◌, inl, inr, Some, List, [], ◌∷◌, ◌++◌, length, take, drop, get_or, refl, sym, ◌∙◌, ap, subst, arith, add-one, length-append}
use Rattle.std.proofs.Math.Seq.{drop-cons}
use Rattle.std.proofs.lemmas.Option.{slice_get_within, get_or_from_slice_get}
use Rattle.std.proofs.lemmas.List.{append-nil, take_more, take-append-drop, get_or-take, length-take}
use Rattle.std.proofs.lemmas.List.Elements.{All-head, All-get_or, All-drop}
use Rattle.std.proofs.lemmas.List.Concat.{flat_map-append}
use Rattle.std.specs.Prelude.{All, ◌↔◌}
use Rattle.std.specs.List.{slice_get}
use Rattle.yl_text.specs.declared.row.Break.{Break}
use Rattle.yl_text.specs.declared.row.Break.TheVariants.{No, Lf, CrLf, Cr}
use Rattle.yl_text.specs.Lines.{RowValue, break_bytes, row_bytes, text_of, HasNoBreak, AreEnded}
use Rattle.yl_text.specs.Store.{AreLines}
use Rattle.yl_text.specs.Edit.{last_byte}
use Rattle.yl_text.specs.PutLines.{first_byte, EndsInBreak, front_of, back_of}
use Rattle.yl_text.proofs.Edited.{take_closed, ended_back, last_of, some_byte}

pub drop_here : {X : Type 0} (xs : List X) (i : ℕ) (x : X) → slice_get xs i ≡ Some x → drop i xs ≡ x ∷ drop (i + 1) xs
drop_here xs i x e =
    let l : i < length xs = slice_get_within xs i x e in
    rw (add-one i, drop-cons xs i x, get_or_from_slice_get xs i x x e)

pub take_here : {X : Type 0} (xs : List X) (i : ℕ) (x : X) → slice_get xs i ≡ Some x → take (i + 1) xs ≡ take i xs ++ x ∷ []
take_here xs i x e = take_more xs i x (slice_get_within xs i x e) ∙ ap (λ y. take i xs ++ y ∷ []) (get_or_from_slice_get xs i x x e)

pub back_starts : (ps : List RowValue) (b : ℕ) (p : RowValue) → AreLines ps → slice_get ps b ≡ Some p → (first_byte (back_of ps b) ≡ 10) ↔ ((p.text ≡ []) × (p.end ≡ Lf))
back_starts ps b p h e =
    let l : b < length ps = slice_get_within ps b p e in
    let here = drop_here ps b p e in
    let ended = subst (λ (l : List RowValue). AreEnded l) here (ended_back ps b l h.lines.ended) in
    let plain = All-head (λ (p : RowValue). HasNoBreak p.text) p (drop (b + 1) ps) (subst (λ (l : List RowValue). All (λ p. HasNoBreak p.text) l) here (All-drop (λ (p : RowValue). HasNoBreak p.text) b ps h.lines.unbroken)) in
    let P : List RowValue → Type 0 = λ l. (first_byte (text_of l) ≡ 10) ↔ ((p.text ≡ []) × (p.end ≡ Lf)) in
    subst P (sym here) (at p.text p.end (drop (b + 1) ps) plain (λ n. alone p (drop (b + 1) ps) n ended)) where
      alone : (p : RowValue) (ps : List RowValue) → p.end ≡ No → AreEnded (p ∷ ps) → ps ≡ []
      alone p [] n e = refl
      alone p (q ∷ ps) n e = absurd (e.0 n)

      at : (xs : List ℕ) (e : Break) (ps : List RowValue) → HasNoBreak xs → (e ≡ No → ps ≡ []) → (first_byte ((xs ++ break_bytes e) ++ text_of ps) ≡ 10) ↔ ((xs ≡ []) × (e ≡ Lf))
      at (x ∷ xs) e ps n a = (λ f. absurd ((All-head (λ (b : ℕ). (b ≢ 10) × (b ≢ 13)) x xs n).0 f), λ f. let z : x ∷ xs ≡ [] = f.0 in cc)
      at [] No ps n a = (λ f. absurd (omega (arith, ap (λ (l : List RowValue). first_byte (text_of l)) (a refl), f)), λ f. let z : No ≡ Lf = f.1 in cc)
      at [] Lf ps n a = (λ f. (refl, refl), λ f. refl)
      at [] CrLf ps n a = (λ f. absurd (omega (arith, f)), λ f. let z : CrLf ≡ Lf = f.1 in cc)
      at [] Cr ps n a = (λ f. absurd (omega (arith, f)), λ f. let z : Cr ≡ Lf = f.1 in cc)

-- a line that another follows ends in a break, and its last byte is that of the text before the other
pub last_at : (ps : List RowValue) (a : ℕ) (p : RowValue) → AreLines ps → a + 1 < length ps → slice_get ps a ≡ Some p → (p.end ≢ No) × (last_byte (front_of ps (a + 1)) ≡ last_byte (row_bytes p))
last_at ps a p h l e =
    let here = take_here ps a p e in
    let E : RowValue → Type 0 = λ p. p.end ≢ No in
    let closed = take_closed ps (a + 1) l h.lines.ended h.lines.unbroken h.lines.whole in
    let at_a : get_or (take (a + 1) ps) a p ≡ p = get_or-take (a + 1) ps a p (omega arith) ∙ get_or_from_slice_get ps a p p e in
    let ends : p.end ≢ No = subst E at_a (All-get_or E (take (a + 1) ps) a p (omega (arith, length-take (a + 1) ps)) closed.ended) in
    let front : front_of ps (a + 1) ≡ front_of ps a ++ row_bytes p = ap (λ (l : List RowValue). text_of l) here ∙ flat_map-append row_bytes (take a ps) (p ∷ []) ∙ ap (λ (u : List ℕ). front_of ps a ++ u) (append-nil (row_bytes p)) in
    (ends, ap (λ (u : List ℕ). last_byte u) front ∙ last_of (front_of ps a) (row_bytes p) (some_byte p ends))

-- the last byte of a line that ends in a break
last_of_row : (xs : List ℕ) (e : Break) → e ≢ No → EndsInBreak (xs ++ break_bytes e) × ((last_byte (xs ++ break_bytes e) ≡ 13) ↔ (e ≡ Cr))
last_of_row xs No n = absurd (n refl)
last_of_row xs Lf n = let f = last_of xs (10 ∷ []) (omega arith) in (inl f, (λ g. absurd (omega (arith, f, g)), λ g. cc))
last_of_row xs CrLf n = let f = last_of xs (13 ∷ 10 ∷ []) (omega arith) in (inl f, (λ g. absurd (omega (arith, f, g)), λ g. cc))
last_of_row xs Cr n = let f = last_of xs (13 ∷ []) (omega arith) in (inr f, (λ g. refl, λ g. f))

pub front_ends : (ps : List RowValue) (a : ℕ) (p : RowValue) → AreLines ps → a + 1 < length ps → slice_get ps a ≡ Some p → (last_byte (front_of ps (a + 1)) ≡ 13) ↔ (p.end ≡ Cr)
front_ends ps a p h l e =
    let last = last_at ps a p h l e in
    let t = (last_of_row p.text p.end last.0).1 in
    (λ f. t.0 (sym last.1 ∙ f), λ f. last.1 ∙ t.1 f)

pub ends_at : (ps : List RowValue) (a : ℕ) (p : RowValue) → AreLines ps → a + 1 < length ps → slice_get ps a ≡ Some p → EndsInBreak (front_of ps (a + 1))
ends_at ps a p h l e =
    let last = last_at ps a p h l e in
    elim (last_of_row p.text p.end last.0).0 [ inl f ↦ inl (last.1 ∙ f) | inr f ↦ inr (last.1 ∙ f) ]

-- one more row
pub length-more : (ps : List RowValue) (i n : ℕ) (p : RowValue) → slice_get ps i ≡ Some p → n ≡ length p.text + length (break_bytes p.end) → length (text_of (take (i + 1) ps)) ≡ length (text_of (take i ps)) + n
length-more ps i n p e size =
    let joined : text_of (take (i + 1) ps) ≡ text_of (take i ps) ++ row_bytes p = ap (λ (l : List RowValue). text_of l) (take_here ps i p e) ∙ flat_map-append row_bytes (take i ps) (p ∷ []) ∙ ap (λ (u : List ℕ). text_of (take i ps) ++ u) (append-nil (row_bytes p)) in
    omega (arith, ap length joined, length-append (text_of (take i ps)) (row_bytes p), length-append p.text (break_bytes p.end), size)

pub length-front : (ps : List RowValue) (i : ℕ) → length (text_of (take i ps)) ≤ length (text_of ps)
length-front ps i = omega (arith, ap (λ (l : List RowValue). length (text_of l)) (sym (take-append-drop i ps)), ap length (flat_map-append row_bytes (take i ps) (drop i ps)), length-append (text_of (take i ps)) (text_of (drop i ps)))
