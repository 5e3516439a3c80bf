-- The characters of a line, its break with them, and how many bytes the first of them have.
use Rattle.std.proofs.Common.{◌≡◌, ℕ, ◌+◌, ◌-◌, ◌<◌, ◌≤◌, ◌⊎◌, inl, inr, min, List, [], ◌∷◌, ◌++◌, length, take, drop, get_or, true, refl, sym, ◌∙◌, ap, subst, arith, length-append}
use Rattle.std.proofs.lemmas.Bool.{and_parts, and_from, cases_lt}
use Rattle.std.proofs.lemmas.List.{append-nil, take-append-drop, take-append-le, drop-append-le, take_all, take_at, drop_at, length-take-le, drop_all, take_more}
use Rattle.std.proofs.Math.Seq.{take-append-add, drop-append-add}
use Rattle.std.proofs.Math.Utf8.{scalars, scalar, encode}
use Rattle.std.specs.Char.{len_utf8}
use Rattle.std.proofs.lemmas.Str.{chars-append, chars-IsAscii, encodes-IsAscii, encodes-append, encodes-chars, scalars-chars, IsAscii-take, IsUtf8-append, IsUtf8-from_ascii, chars-nil, length-encode}
use Rattle.std.proofs.lemmas.Str.Ascii.{IsAscii-nil, IsAscii-cons}
use Rattle.std.specs.Str.{IsUtf8, IsAscii, chars, encode_utf8_all}
use Rattle.yl_text.specs.declared.row.Break.{Break}
use Rattle.yl_text.specs.declared.row.Break.TheVariants.{No, Lf, CrLf, Cr}
use Rattle.yl_text.specs.Lines.{break_bytes}
use Rattle.yl_text.specs.Places.{IsByteOf, IsCut}

scalars_parts : (xs ys : List ℕ) → scalars (xs ++ ys) ≡ true → (scalars xs ≡ true) × (scalars ys ≡ true)
scalars_parts [] ys h = (refl, h)
scalars_parts (x ∷ xs) ys h =
    let here = and_parts (scalar x) (scalars (xs ++ ys)) h in
    let rest = scalars_parts xs ys here.1 in
    (and_from (scalar x) (scalars xs) here.0 rest.0, rest.1)

-- the first characters of a text, and the others
cut_chars : (bs : List ℕ) (n : ℕ) → IsUtf8 bs → (take (length (encode_utf8_all (take n (chars bs)))) bs ≡ encode_utf8_all (take n (chars bs))) × (drop (length (encode_utf8_all (take n (chars bs)))) bs ≡ encode_utf8_all (drop n (chars bs)))
cut_chars bs n u =
    let front = encode_utf8_all (take n (chars bs)) in
    let back = encode_utf8_all (drop n (chars bs)) in
    let parts : bs ≡ front ++ back = sym (encodes-chars bs u) ∙ ap (λ (cs : List ℕ). encode_utf8_all cs) (sym (take-append-drop n (chars bs))) ∙ encodes-append (take n (chars bs)) (drop n (chars bs)) in
    (ap (λ (l : List ℕ). take (length front) l) parts ∙ take_at front back (length front) refl, ap (λ (l : List ℕ). drop (length front) l) parts ∙ drop_at front back (length front) refl)

-- bytes that are cut behind some of their characters
pub cut_behind : (bs : List ℕ) (n : ℕ) → IsUtf8 bs → IsCut bs (length (encode_utf8_all (take n (chars bs))))
cut_behind bs n u =
    let front = encode_utf8_all (take n (chars bs)) in
    let back = encode_utf8_all (drop n (chars bs)) in
    let same = cut_chars bs n u in
    let are = scalars_parts (take n (chars bs)) (drop n (chars bs)) (subst (λ (cs : List ℕ). scalars cs ≡ true) (sym (take-append-drop n (chars bs))) (scalars-chars bs u)) in
    let size : length bs ≡ length (take (length front) bs) + length (drop (length front) bs) = ap length (sym (take-append-drop (length front) bs)) ∙ length-append (take (length front) bs) (drop (length front) bs) in
    record {
      within = omega (arith, size, ap length same.0);
      front = λ w. subst IsUtf8 (sym same.0) (take n (chars bs), (are.0, refl));
      back = λ w. subst IsUtf8 (sym same.1) (drop n (chars bs), (are.1, refl));
    }

pub break_ascii : (e : Break) → IsAscii (break_bytes e)
break_ascii No = IsAscii-nil
break_ascii Lf = IsAscii-cons 10 [] (omega arith) IsAscii-nil
break_ascii CrLf = IsAscii-cons 13 (10 ∷ []) (omega arith) (IsAscii-cons 10 [] (omega arith) IsAscii-nil)
break_ascii Cr = IsAscii-cons 13 [] (omega arith) IsAscii-nil

-- a line with its break is UTF-8 where its text is
pub row_utf8 : (xs : List ℕ) (e : Break) → IsUtf8 xs → IsUtf8 (xs ++ break_bytes e)
row_utf8 xs e u = IsUtf8-append xs (break_bytes e) u (IsUtf8-from_ascii (break_bytes e) (break_ascii e))

-- its characters
row_chars : (xs : List ℕ) (e : Break) → IsUtf8 xs → chars (xs ++ break_bytes e) ≡ chars xs ++ break_bytes e
row_chars xs e u = chars-append xs (break_bytes e) u ∙ ap (λ (l : List ℕ). chars xs ++ l) (chars-IsAscii (break_bytes e) (break_ascii e))

pub length_row_chars : (xs : List ℕ) (e : Break) → IsUtf8 xs → length (chars (xs ++ break_bytes e)) ≡ length (chars xs) + length (break_bytes e)
length_row_chars xs e u = ap length (row_chars xs e u) ∙ length-append (chars xs) (break_bytes e)

-- the first of them, where the text has too few, or not
first_chars : (xs : List ℕ) (e : Break) (n : ℕ) → IsUtf8 xs → n - length (chars xs) ≤ length (break_bytes e)
    → length (encode_utf8_all (take n (chars (xs ++ break_bytes e)))) ≡ length (encode_utf8_all (take n (chars xs))) + (n - length (chars xs))
first_chars xs e n u few =
    let cs = chars xs in
    let es = break_bytes e in
    let is = ap (λ (l : List ℕ). length (encode_utf8_all (take n l))) (row_chars xs e u) in
    elim (cases_lt (length cs) n) [
      | inl more ↦
          let left = n - length cs in
          let at : n ≡ length cs + left = omega arith in
          let front : take n (cs ++ es) ≡ cs ++ take left es = ap (λ (k : ℕ). take k (cs ++ es)) at ∙ take-append-add cs es left in
          let whole : take n cs ≡ cs = take_all n cs (omega arith) in
          let plain = encodes-IsAscii (take left es) (IsAscii-take es left (break_ascii e)) in
          is ∙ ap (λ (l : List ℕ). length (encode_utf8_all l)) front ∙ ap length (encodes-append cs (take left es)) ∙ length-append (encode_utf8_all cs) (encode_utf8_all (take left es))
          ∙ ap (λ (k : ℕ). length (encode_utf8_all cs) + k) (ap length plain ∙ length-take-le left es few) ∙ ap (λ (l : List ℕ). length (encode_utf8_all l) + left) (sym whole)
      | inr enough ↦
          let none : n - length cs ≡ 0 = omega arith in
          is ∙ ap (λ (l : List ℕ). length (encode_utf8_all l)) (take-append-le n cs es enough) ∙ omega (arith, none)
    ]

-- so many bytes are those of the first characters of a line
pub byte_of_row : (xs : List ℕ) (e : Break) (n byte left : ℕ) → IsUtf8 xs → byte ≡ length (encode_utf8_all (take n (chars xs))) → left ≡ n - length (chars xs) → left ≤ length (break_bytes e) → IsByteOf (xs ++ break_bytes e) n (byte + left)
byte_of_row xs e n byte left u b l few =
    let same : byte + left ≡ length (encode_utf8_all (take n (chars (xs ++ break_bytes e)))) = omega (arith, b, l, first_chars xs e n u (omega (arith, l))) in
    record {
      enough = omega (arith, l, length_row_chars xs e u);
      same = same;
      cut = subst (λ (k : ℕ). IsCut (xs ++ break_bytes e) k) (sym same) (cut_behind (xs ++ break_bytes e) n (row_utf8 xs e u));
    }

-- the first characters of a text that begins in ASCII
pub ascii_front : (bs : List ℕ) (n front : ℕ) → front ≡ n ⊎ ((length bs ≤ n) × (front ≡ length bs)) → front ≤ length bs → IsAscii (take front bs) → (front ≡ length (encode_utf8_all (take n (chars bs)))) × (n - front ≡ n - length (chars bs))
ascii_front bs n front which within plain =
    let xs = take front bs in
    let long : length xs ≡ front = length-take-le front bs within in
    let is : chars bs ≡ xs ++ chars (drop front bs) = ap (λ (l : List ℕ). chars l) (sym (take-append-drop front bs)) ∙ chars-append xs (drop front bs) (IsUtf8-from_ascii xs plain) ∙ ap (λ (l : List ℕ). l ++ chars (drop front bs)) (chars-IsAscii xs plain) in
    let size : length (chars bs) ≡ front + length (chars (drop front bs)) = ap length is ∙ length-append xs (chars (drop front bs)) ∙ ap (λ (k : ℕ). k + length (chars (drop front bs))) long in
    elim which [
      | inl same ↦
          let first : take n (chars bs) ≡ xs = ap (λ (l : List ℕ). take n l) is ∙ take_at xs (chars (drop front bs)) n (long ∙ same) in
          (sym long ∙ ap length (sym (encodes-IsAscii xs plain)) ∙ ap (λ (l : List ℕ). length (encode_utf8_all l)) (sym first), omega (arith, size))
      | inr all ↦
          let none : chars (drop front bs) ≡ [] = ap (λ (l : List ℕ). chars l) (drop_all front bs (omega arith)) ∙ chars-nil in
          let whole : chars bs ≡ xs = is ∙ ap (λ (l : List ℕ). xs ++ l) none ∙ append-nil xs in
          let first : take n (chars bs) ≡ xs = ap (λ (l : List ℕ). take n l) whole ∙ take_all n xs (omega (arith, long)) in
          (sym long ∙ ap length (sym (encodes-IsAscii xs plain)) ∙ ap (λ (l : List ℕ). length (encode_utf8_all l)) (sym first), omega (arith, size, ap length none))
    ]

-- one character after another: what was passed is the front of the characters
pub longer : (xs : List ℕ) (c : ℕ) → length (encode_utf8_all (xs ++ c ∷ [])) ≡ length (encode_utf8_all xs) + len_utf8 c
longer xs c =
    let one : encode_utf8_all (c ∷ []) ≡ encode c = append-nil (encode c) in
    ap length (encodes-append xs (c ∷ [])) ∙ length-append (encode_utf8_all xs) (encode_utf8_all (c ∷ [])) ∙ ap (λ (k : ℕ). length (encode_utf8_all xs) + k) (ap length one ∙ length-encode c)

pub still_within : (bs xs : List ℕ) (c : ℕ) → IsUtf8 bs → xs ≡ take (length xs) (chars bs) → length xs < length (chars bs) → c ≡ get_or (chars bs) (length xs) c → length (encode_utf8_all xs) + len_utf8 c ≤ length bs
still_within bs xs c u is l at =
    let more : take (length xs + 1) (chars bs) ≡ xs ++ c ∷ [] = take_more (chars bs) (length xs) c l ∙ ap (λ (d : ℕ). take (length xs) (chars bs) ++ d ∷ []) (sym at) ∙ ap (λ (l : List ℕ). l ++ c ∷ []) (sym is) in
    let most = (cut_behind bs (length xs + 1) u).within in
    omega (arith, longer xs c, ap (λ (l : List ℕ). length (encode_utf8_all l)) more, most)

-- the front and the rest of two texts that follow one another
pub take_parts : (xs ys : List ℕ) (n : ℕ) → take n (xs ++ ys) ≡ take (min n (length xs)) xs ++ take (n - length xs) ys
take_parts xs ys n = elim (cases_lt (length xs) n) [
  | inl past ↦
      let at : n ≡ length xs + (n - length xs) = omega arith in
      let least : min n (length xs) ≡ length xs = omega arith in
      ap (λ (m : ℕ). take m (xs ++ ys)) at ∙ take-append-add xs ys (n - length xs) ∙ ap (λ (u : List ℕ). u ++ take (n - length xs) ys) (sym (ap (λ (m : ℕ). take m xs) least ∙ take_all (length xs) xs (omega arith)))
  | inr within ↦
      let none : n - length xs ≡ 0 = omega arith in
      let least : min n (length xs) ≡ n = omega arith in
      take-append-le n xs ys within ∙ sym (append-nil (take n xs)) ∙ ap (λ (u : List ℕ). take n xs ++ u) (sym (ap (λ (m : ℕ). take m ys) none)) ∙ ap (λ (m : ℕ). take m xs ++ take (n - length xs) ys) (sym least)
]

pub drop_parts : (xs ys : List ℕ) (n : ℕ) → drop n (xs ++ ys) ≡ drop (min n (length xs)) xs ++ drop (n - length xs) ys
drop_parts xs ys n = elim (cases_lt (length xs) n) [
  | inl past ↦
      let at : n ≡ length xs + (n - length xs) = omega arith in
      let least : min n (length xs) ≡ length xs = omega arith in
      ap (λ (m : ℕ). drop m (xs ++ ys)) at ∙ drop-append-add xs ys (n - length xs) ∙ ap (λ (u : List ℕ). u ++ drop (n - length xs) ys) (sym (ap (λ (m : ℕ). drop m xs) least ∙ drop_all (length xs) xs (omega arith)))
  | inr within ↦
      let none : n - length xs ≡ 0 = omega arith in
      let least : min n (length xs) ≡ n = omega arith in
      drop-append-le n xs ys within ∙ ap (λ (u : List ℕ). drop n xs ++ u) (sym (ap (λ (m : ℕ). drop m ys) none)) ∙ ap (λ (m : ℕ). drop m xs ++ drop (n - length xs) ys) (sym least)
]
