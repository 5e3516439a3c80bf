-- What is left of a text from a line on, and places in it.
use Rattle.std.proofs.Common.{◌≡◌, ◌≢◌, ℕ, ◌+◌, ◌-◌, ◌<◌, ◌≤◌, List, [], ◌∷◌, ◌++◌, length, take, drop, get_or, sym, ◌∙◌, ap, subst, arith, length-append, append_assoc, inl, inr}
use Rattle.std.proofs.lemmas.Bool.{cases_lt}
use Rattle.std.proofs.Math.Seq.{take-add, drop-append-add}
use Rattle.std.proofs.lemmas.List.{append-nil, take-append-drop, take_at, drop_at, drop-drop, drop_all, take_all, drop_more, length-drop}
use Rattle.std.proofs.lemmas.List.Concat.{flat_map-append}
use Rattle.std.proofs.lemmas.Str.{encodes-chars, IsCharBoundary-from_drop}
use Rattle.std.specs.Str.{IsUtf8, IsCharBoundary, chars, encode_utf8_all}
use Rattle.yl_text.specs.declared.position.Pos.{Pos}
use Rattle.yl_text.specs.declared.row.Break.{Break}
use Rattle.yl_text.specs.declared.row.Break.TheVariants.{No}
use Rattle.yl_text.specs.Lines.{RowValue, row_bytes, text_of, lines_of}
use Rattle.yl_text.specs.Split.{lines_behind}
use Rattle.yl_text.specs.Places.{line_bytes}
use Rattle.yl_text.specs.PutLines.{front_of}
use Rattle.yl_text.specs.Edit.{line_chars, offset, front_at, back_at}
use Rattle.yl_text.proofs.ByBytes.{text_parts, front_parts}
use Rattle.yl_text.proofs.Computed.{lines_of-IsLines}
use Rattle.yl_text.proofs.Cut.{behind_break, behind_none}
use Rattle.yl_text.proofs.Edited.{length-lines}
use Rattle.yl_difference.specs.Rest.{IsRest, IsFrom, AreAlike}
use Rattle.yl_difference.specs.Difference.{IsDifference}

abbrev at : ℕ → ℕ → Pos
at line col = record { line = line; col = col }

-- the bytes of lines that were cut
pub text_is : (t : List ℕ) → text_of (lines_of t) ≡ t
text_is t = (lines_of-IsLines t).joined

pub cut_is : (t : List ℕ) (row : RowValue) (e : Break) (rest : List ℕ) → lines_of t ≡ row ∷ lines_behind e rest → e ≢ No → t ≡ row_bytes row ++ rest
cut_is t row e rest first more =
    sym (text_is t) ∙ ap (λ (l : List RowValue). text_of l) first ∙ ap (λ (l : List RowValue). row_bytes row ++ text_of l) (behind_break e rest more) ∙ ap (λ (u : List ℕ). row_bytes row ++ u) (text_is rest)

pub last_is : (t : List ℕ) (row : RowValue) (e : Break) (rest : List ℕ) → lines_of t ≡ row ∷ lines_behind e rest → e ≡ No → lines_of t ≡ row ∷ []
last_is t row e rest first last = first ∙ ap (λ (l : List RowValue). row ∷ l) (behind_none e rest last)

-- ---- lines

pub rest_more : (text : List ℕ) (i : ℕ) (rest : List ℕ) (row : RowValue) (e : Break) (next : List ℕ) → IsRest text i rest → lines_of rest ≡ row ∷ lines_behind e next → e ≢ No → IsRest text (i + 1) next
rest_more text i rest row e next h first more = sym (drop-drop 1 i (lines_of text)) ∙ ap (λ (l : List RowValue). drop 1 l) (h ∙ first) ∙ behind_break e next more

some_lines : (t : List ℕ) → 0 < length (lines_of t)
some_lines t = omega arith

pub rest_inside : (text : List ℕ) (i : ℕ) (rest : List ℕ) → IsRest text i rest → i < length (lines_of text)
rest_inside text i rest h = omega (arith, ap length h, length-drop i (lines_of text), some_lines rest)

pub front_rest : (text : List ℕ) (i : ℕ) (rest : List ℕ) → IsRest text i rest → text ≡ front_of (lines_of text) i ++ rest
front_rest text i rest h =
    let ps = lines_of text in
    sym (text_is text) ∙ text_parts ps i ∙ ap (λ (l : List RowValue). front_of ps i ++ text_of l) h ∙ ap (λ (u : List ℕ). front_of ps i ++ u) (text_is rest)

pub rest_short : (text : List ℕ) (i : ℕ) (rest : List ℕ) → IsRest text i rest → length rest ≤ length text
rest_short text i rest h = omega (arith, ap length (front_rest text i rest h), length-append (front_of (lines_of text) i) rest)

pub few : (text : List ℕ) → length (lines_of text) ≤ length text + 1
few text = omega (arith, length-lines (lines_of text) (lines_of-IsLines text).ended, ap length (text_is text))

-- a line more at the front of both
pub front_more : (old new : List ℕ) (i : ℕ) (left right : List ℕ) (row : RowValue) (e f : Break) (left2 right2 : List ℕ)
    → IsRest old i left → front_of (lines_of old) i ++ right ≡ new → lines_of left ≡ row ∷ lines_behind e left2 → lines_of right ≡ row ∷ lines_behind f right2 → f ≢ No
    → front_of (lines_of old) (i + 1) ++ right2 ≡ new
front_more old new i left right row e f left2 right2 h is first second more =
    let ps = lines_of old in
    let x = front_of ps i in
    let line : line_bytes ps i ≡ row_bytes row = ap (λ (l : List RowValue). text_of (take 1 l)) (h ∙ first) ∙ append-nil (row_bytes row) in
    ap (λ (u : List ℕ). u ++ right2) (front_parts ps i ∙ ap (λ (u : List ℕ). x ++ u) line)
    ∙ append_assoc x (row_bytes row) right2
    ∙ ap (λ (u : List ℕ). x ++ u) (sym (cut_is right row f right2 second more)) ∙ is

-- ---- places

pub start_from : (text : List ℕ) (i : ℕ) (rest : List ℕ) → IsRest text i rest → IsFrom text (at i 0) rest
start_from text i rest h =
    let ps = lines_of text in
    let parts : text_of ps ≡ front_of ps i ++ rest = text_is text ∙ front_rest text i rest h in
    record {
      inside = record { line = rest_inside text i rest h; column = omega arith };
      rest_is = ap (λ (u : List ℕ). drop (offset ps (at i 0)) u) parts ∙ drop_at (front_of ps i) rest (offset ps (at i 0)) (omega arith);
    }

pub end_from : (text : List ℕ) (i : ℕ) (rest : List ℕ) (row : RowValue) (n : ℕ) → IsRest text i rest → lines_of rest ≡ row ∷ [] → IsUtf8 rest → n ≡ length (chars rest) → IsFrom text (at i n) []
end_from text i rest row n h only u is =
    let ps = lines_of text in
    let one : text_of (row ∷ []) ≡ rest = ap (λ (l : List RowValue). text_of l) (sym only) ∙ text_is rest in
    let line : line_chars ps i ≡ chars rest = ap (λ (l : List RowValue). chars (text_of (take 1 l))) (h ∙ only) ∙ ap (λ (t : List ℕ). chars t) one in
    let all : encode_utf8_all (take n (line_chars ps i)) ≡ rest =
    ap (λ (cs : List ℕ). encode_utf8_all (take n cs)) line ∙ ap (λ (cs : List ℕ). encode_utf8_all cs) (take_all n (chars rest) (omega (arith, is))) ∙ encodes-chars rest u in
    let parts : text_of ps ≡ front_of ps i ++ rest = text_is text ∙ front_rest text i rest h in
    record {
      inside = record { line = rest_inside text i rest h; column = omega (arith, is, ap length line) };
      rest_is = drop_all (offset ps (at i n)) (text_of ps) (omega (arith, ap length parts, length-append (front_of ps i) rest, ap length all));
    }

-- a place of the rest is one of the text
line_moved : (text : List ℕ) (a i : ℕ) (rest : List ℕ) → IsRest text a rest → drop (a + i) (lines_of text) ≡ drop i (lines_of rest)
line_moved text a i rest h = sym (drop-drop i a (lines_of text)) ∙ ap (λ (l : List RowValue). drop i l) h

front_moved : (text : List ℕ) (a i : ℕ) (rest : List ℕ) → IsRest text a rest → front_of (lines_of text) (a + i) ≡ front_of (lines_of text) a ++ front_of (lines_of rest) i
front_moved text a i rest h =
    let ps = lines_of text in
    ap (λ (l : List RowValue). text_of l) (take-add a i ps ∙ ap (λ (l : List RowValue). take a ps ++ take i l) h) ∙ flat_map-append row_bytes (take a ps) (take i (lines_of rest))

pub offset_moved : (text : List ℕ) (a : ℕ) (rest : List ℕ) (p : Pos) → IsRest text a rest → offset (lines_of text) (at (a + p.line) p.col) ≡ length (front_of (lines_of text) a) + offset (lines_of rest) p
offset_moved text a rest p h =
    let line = ap (λ (l : List RowValue). length (encode_utf8_all (take p.col (chars (text_of (take 1 l)))))) (line_moved text a p.line rest h) in
    omega (arith, ap length (front_moved text a p.line rest h), length-append (front_of (lines_of text) a) (front_of (lines_of rest) p.line), line)

pub from_moved : (text : List ℕ) (a : ℕ) (rest : List ℕ) (p : Pos) (tail : List ℕ) → IsRest text a rest → IsFrom rest p tail → IsFrom text (at (a + p.line) p.col) tail
from_moved text a rest p tail h f =
    let ps = lines_of text in
    let qs = lines_of rest in
    let parts : text_of ps ≡ front_of ps a ++ text_of qs = text_is text ∙ front_rest text a rest h ∙ ap (λ (u : List ℕ). front_of ps a ++ u) (sym (text_is rest)) in
    let line = f.inside.line in
    let column = f.inside.column in
    record {
      inside = record {
        line = omega (arith, line, ap length h, length-drop a ps);
        column = subst (λ (l : List RowValue). p.col ≤ length (chars (text_of (take 1 l)))) (sym (line_moved text a p.line rest h)) column;
      };
      rest_is = ap (λ n. drop n (text_of ps)) (offset_moved text a rest p h) ∙ ap (λ (u : List ℕ). drop (length (front_of ps a) + offset qs p) u) parts
          ∙ drop-append-add (front_of ps a) (text_of qs) (offset qs p) ∙ f.rest_is;
    }

-- ---- ends that are alike

pub alike_none : (xs ys : List ℕ) → AreAlike xs ys 0
alike_none xs ys = record { first = omega arith; second = omega arith; same = drop_all (length xs - 0) xs (omega arith) ∙ sym (drop_all (length ys - 0) ys (omega arith)) }

from_last : (xs : List ℕ) (n i : ℕ) → n < length xs → i ≡ length xs - 1 - n → drop (length xs - (n + 1)) xs ≡ get_or xs i 0 ∷ drop (length xs - n) xs
from_last xs n i l is =
    let k : length xs - (n + 1) ≡ i = omega (arith, is) in
    let m : i + 1 ≡ length xs - n = omega (arith, is) in
    ap (λ j. drop j xs) k ∙ drop_more xs i 0 (omega (arith, is)) ∙ ap (λ j. get_or xs i 0 ∷ drop j xs) m

pub alike_more : (xs ys : List ℕ) (n i j : ℕ) → AreAlike xs ys n → n < length xs → n < length ys → i ≡ length xs - 1 - n → j ≡ length ys - 1 - n → get_or xs i 0 ≡ get_or ys j 0 → AreAlike xs ys (n + 1)
alike_more xs ys n i j h a b is js e = record {
  first = omega arith;
  second = omega arith;
  same = from_last xs n i a is ∙ ap (λ (x : ℕ). x ∷ drop (length xs - n) xs) e ∙ ap (λ (t : List ℕ). get_or ys j 0 ∷ t) h.same ∙ sym (from_last ys n j b js);
}

shorter : (xs : List ℕ) (n m : ℕ) → n ≤ length xs → m ≤ n → drop (n - m) (drop (length xs - n) xs) ≡ drop (length xs - m) xs
shorter xs n m a b = let k : length xs - n + (n - m) ≡ length xs - m = omega arith in drop-drop (n - m) (length xs - n) xs ∙ ap (λ j. drop j xs) k

pub alike_less : (xs ys : List ℕ) (n m : ℕ) → AreAlike xs ys n → m ≤ n → drop (length xs - m) xs ≡ drop (length ys - m) ys
alike_less xs ys n m h l =
    sym (shorter xs n m h.first l) ∙ ap (λ (t : List ℕ). drop (n - m) t) h.same ∙ shorter ys n m h.second l

-- what stands from a place on is as many of the last bytes
last_bytes : (t : List ℕ) (k : ℕ) (tail : List ℕ) → drop k t ≡ tail → drop (length t - length tail) t ≡ tail
last_bytes t k tail h = elim (cases_lt k (length t)) [
  | inl less ↦ let e : length t - length tail ≡ k = omega (arith, ap length h, length-drop k t) in ap (λ j. drop j t) e ∙ h
  | inr more ↦
      let none : tail ≡ [] = sym h ∙ drop_all k t (omega arith) in
      drop_all (length t - length tail) t (omega (arith, ap length none)) ∙ sym none
]

-- ---- the edit

pub kept_is : (rest new : List ℕ) (p : Pos) (tail : List ℕ) (n : ℕ) → IsFrom rest p tail → AreAlike rest new n → length tail ≤ n → drop (length new - length tail) new ≡ tail
kept_is rest new p tail n f h l =
    let at_end : drop (offset (lines_of rest) p) rest ≡ tail = ap (λ (u : List ℕ). drop (offset (lines_of rest) p) u) (sym (text_is rest)) ∙ f.rest_is in
    sym (alike_less rest new n (length tail) h l) ∙ last_bytes rest (offset (lines_of rest) p) tail at_end

pub kept_boundary : (rest new : List ℕ) (p : Pos) (tail : List ℕ) (n : ℕ) → IsFrom rest p tail → AreAlike rest new n → length tail ≤ n → IsUtf8 tail → IsCharBoundary new (length new - length tail)
kept_boundary rest new p tail n f h l u =
    IsCharBoundary-from_drop new (length new - length tail) (omega arith) (subst IsUtf8 (sym (kept_is rest new p tail n f h l)) u)

pub is_difference : (old new : List ℕ) (a : ℕ) (left right : List ℕ) (p : Pos) (tail : List ℕ) (n : ℕ)
    → IsRest old a left → front_of (lines_of old) a ++ right ≡ new → IsFrom left p tail → AreAlike left right n → length tail ≤ n
    → IsDifference old new (at a 0) (at (a + p.line) p.col) (take (length right - length tail) right)
is_difference old new a left right p tail n h is f alike l =
    let ps = lines_of old in
    let from = start_from old a left h in
    let to = from_moved old a left p tail h f in
    let parts : text_of ps ≡ front_of ps a ++ left = text_is old ∙ front_rest old a left h in
    let start : offset ps (at a 0) ≡ length (front_of ps a) = omega arith in
    let front : front_at ps (at a 0) ≡ front_of ps a = ap (λ (u : List ℕ). take (offset ps (at a 0)) u) parts ∙ take_at (front_of ps a) left (offset ps (at a 0)) (sym start) in
    let mid = take (length right - length tail) right in
    let whole : mid ++ back_at ps (at (a + p.line) p.col) ≡ right =
    ap (λ (u : List ℕ). mid ++ u) (to.rest_is ∙ sym (kept_is left right p tail n f alike l)) ∙ take-append-drop (length right - length tail) right in
    record {
      range = record { first = from.inside; last = to.inside; ordered = omega (arith, start, offset_moved old a left p h) };
      made = ap (λ (u : List ℕ). u ++ (mid ++ back_at ps (at (a + p.line) p.col))) front ∙ ap (λ (u : List ℕ). front_of ps a ++ u) whole ∙ is;
    }

-- two lines that are alike are one
pub row_is : (xs ys : List ℕ) (e f : Break) → xs ≡ ys → e ≡ f → ◌≡◌ {A = RowValue} (record { text = xs; end = e }) (record { text = ys; end = f })
row_is xs ys e f p q =
    let line : List ℕ → Break → RowValue = λ zs g. record { text = zs; end = g } in
    ap (λ zs. line zs e) p ∙ ap (λ g. line ys g) q

pub both_alike : (xs ys zs ws : List ℕ) (n : ℕ) → xs ≡ zs → ys ≡ ws → AreAlike xs ys n → AreAlike zs ws n
both_alike xs ys zs ws n p q h = subst (λ (t : List ℕ). AreAlike t ws n) p (subst (λ (t : List ℕ). AreAlike xs t n) q h)
