-- Rows of a text and places in them.
use Rattle.std.proofs.Common.{◌≡◌, ℕ, zero, suc, ◌+◌, ◌-◌, ◌≤◌, ◌<◌, ◌*◌, ◌^◌, ◌⊎◌, inl, inr, min, Bool, true, cond, ltb, List, [], ◌∷◌, ◌++◌, length, take, drop, get_or, refl, sym, ◌∙◌, ap, subst, arith, length-append, Option, Some, None, slice_get}
use Rattle.std.proofs.lemmas.Bool.{and_parts}
use Rattle.std.proofs.lemmas.Bool.Decides.{nat_tests}
use Rattle.std.proofs.lemmas.List.{take-append-drop, drop_at, take_more, take-take, length-take, length-drop, take_min}
use Rattle.std.proofs.Math.Seq.{take-add}
use Rattle.std.proofs.lemmas.Str.{chars-encodes, encodes-chars, encodes-append, scalars-chars, IsCharBoundary-from_drop, length-encode, len_utf8_bounds}
use Rattle.std.proofs.Math.Utf8.{encode, encodes, scalar, scalars}
use Rattle.std.specs.Option.{option_map_or}
use Rattle.std.specs.Str.{IsUtf8, IsCharBoundary, chars, encode_utf8_all}
use Rattle.yl_text.specs.declared.position.Pos.{Pos}
use Rattle.yl_text.specs.Edit.{IsInText}
use Rattle.yl_text.specs.Lines.{RowValue, AreEnded}
use Rattle.yl_text.specs.Store.{AreLines, end_of_lines}
use Rattle.yl_text.proofs.ByBytes.{line_is}
use Rattle.yl_text.proofs.Columns.{cut_behind, length_row_chars}
use Rattle.yl_text.proofs.Fitting.{found_short}
use Rattle.yl_text.specs.Bounds.{IsShort}
use Rattle.yl_units.specs.declared.encoding.Encoding.{Encoding}
use Rattle.yl_units.specs.declared.place.EditorPlace.{EditorPlace}
use Rattle.yl_units.specs.declared.walk.Reached.{Reached}
use Rattle.yl_units.specs.Units.{units_of, column_of}
use Rattle.yl_units.specs.Places.{PlacesLeadBack, IsReached, row_chars, row_start, told_place}
use Rattle.yl_units.proofs.Counting.{column_back, units-append}

pub row_at : (ps : List RowValue) (i : ℕ) (p : RowValue) → slice_get ps i ≡ Some p → row_chars ps i ≡ chars p.text
row_at ps i p e = ap (λ o. option_map_or (λ (q : RowValue). chars q.text) o []) e

some : (ps : List RowValue) → AreEnded ps → 0 < length ps
some [] h = absurd h
some (p ∷ ps) h = omega arith

pub some_line : (ps : List RowValue) → AreLines ps → 0 < length ps
some_line ps h = some ps h.lines.ended

pub lead_back : PlacesLeadBack
lead_back e ps p h =
    let row = row_chars ps p.line in
    let at : ℕ → Pos = λ n. record { line = p.line; col = n } in
    let is : ltb p.line (length ps) ≡ true = let line = h.line in grind (arith, nat_tests) in
    ap (λ b. cond b (at (column_of e row (units_of e (take p.col row)))) (end_of_lines ps)) is ∙ ap at (column_back e row p.col h.column)

-- a place before a line's break is in the text
pub in_text : (ps : List RowValue) (i n : ℕ) (p : RowValue) → i < length ps → slice_get ps i ≡ Some p → IsUtf8 p.text → n ≤ length (chars p.text) → IsInText ps (record { line = i; col = n })
in_text ps i n p l e u within = record {
  line = l;
  column = omega (arith, ap (λ (bs : List ℕ). length (chars bs)) (line_is ps i p e), length_row_chars p.text p.end u);
}

scalars_back : (xs ys : List ℕ) → scalars (xs ++ ys) ≡ true → scalars ys ≡ true
scalars_back [] ys h = h
scalars_back (x ∷ xs) ys h = scalars_back xs ys (and_parts (scalar x) (scalars (xs ++ ys)) h).1

-- a text from the place after its first characters on
pub chars_behind : (bs : List ℕ) (n : ℕ) → IsUtf8 bs → chars (drop (length (encodes (take n (chars bs)))) bs) ≡ drop n (chars bs)
chars_behind bs n u =
    let cs = chars bs in
    let front = encodes (take n cs) in
    let back = encodes (drop n cs) in
    let parts : bs ≡ front ++ back = sym (encodes-chars bs u) ∙ ap (λ (l : List ℕ). encodes l) (sym (take-append-drop n cs)) ∙ encodes-append (take n cs) (drop n cs) in
    let are : scalars (drop n cs) ≡ true = scalars_back (take n cs) (drop n cs) (subst (λ (l : List ℕ). scalars l ≡ true) (sym (take-append-drop n cs)) (scalars-chars bs u)) in
    ap (λ (l : List ℕ). chars (drop (length front) l)) parts ∙ ap (λ (l : List ℕ). chars l) (drop_at front back (length front) refl) ∙ chars-encodes (drop n cs) are

pub boundary : (bs : List ℕ) (n byte : ℕ) → IsUtf8 bs → byte ≡ length (encodes (take n (chars bs))) → IsCharBoundary bs byte
boundary bs n byte u e =
    let cut = cut_behind bs n u in
    subst (λ k. IsCharBoundary bs k) (sym e) (IsCharBoundary-from_drop bs (length (encodes (take n (chars bs)))) cut.within (cut.back u))

-- one character more of the first ones of a text
pub next_within : (bs all xs : List ℕ) (n c : ℕ) → IsUtf8 bs → all ≡ take n (chars bs) → xs ≡ take (length xs) all → length xs < length all → c ≡ get_or all (length xs) c → length (encodes (xs ++ c ∷ [])) ≤ length bs
next_within bs all xs n c u is front l at =
    let more : take (length xs + 1) all ≡ xs ++ c ∷ [] = take_more all (length xs) c l ∙ ap (λ (d : ℕ). take (length xs) all ++ d ∷ []) (sym at) ∙ ap (λ (t : List ℕ). t ++ c ∷ []) (sym front) in
    let few : length xs + 1 ≤ n = omega (arith, ap length is, length-take n (chars bs)) in
    let same : xs ++ c ∷ [] ≡ take (length xs + 1) (chars bs) = sym more ∙ ap (λ (t : List ℕ). take (length xs + 1) t) is ∙ take-take (length xs + 1) n (chars bs) few in
    omega (arith, ap (λ (t : List ℕ). length (encodes t)) same, (cut_behind bs (length xs + 1) u).within)

-- the end of the last line
pub end_is : (ps : List RowValue) (len n : ℕ) (p : RowValue) → len ≡ length ps → slice_get ps (len - 1) ≡ Some p → n ≡ length (chars p.text) → ◌≡◌ {A = Pos} (record { line = len - 1; col = n }) (end_of_lines ps)
end_is ps len n p l e is =
    let at : ℕ → ℕ → Pos = λ i k. record { line = i; col = k } in
    let long : Option RowValue → ℕ = λ o. option_map_or (λ (q : RowValue). length (chars q.text)) o 0 in
    ap (λ k. at (len - 1) k) (is ∙ sym (ap long e)) ∙ ap (λ m. at (m - 1) (long (slice_get ps (m - 1)))) l

-- a line has few characters, and few bytes
short_at : (o : Option RowValue) → ((p : RowValue) → o ≡ Some p → IsShort p) → length (option_map_or (λ (q : RowValue). chars q.text) o []) < 2 ^ 31
short_at None h = omega arith
short_at (Some p) h = h p refl

pub short_row : (ps : List RowValue) → AreLines ps → (i : ℕ) → length (row_chars ps i) < 2 ^ 31
short_row ps h i = short_at (slice_get ps i) (λ p e. found_short ps h i p e)

pub bytes_most : (cs : List ℕ) → length (encodes cs) ≤ 4 * length cs
bytes_most [] = omega arith
bytes_most (c ∷ cs) = let h = len_utf8_bounds c in omega (arith, h.1, length-encode c, bytes_most cs, length-append (encode c) (encodes cs))

-- a walk at a line's start, and further on
pub reached_start : (e : Encoding) (ps : List RowValue) (i : ℕ) → IsReached e ps (row_start i)
reached_start e ps i = record { column = omega arith; byte = refl; units = refl }

pub reached_from : (e : Encoding) (ps : List RowValue) (old from : Reached) (i : ℕ) → IsReached e ps old → (from ≡ old) ⊎ (from ≡ row_start i) → IsReached e ps from
reached_from e ps old from i h which = elim which [
  | inl same ↦ subst (λ (r : Reached). IsReached e ps r) (sym same) h
  | inr start ↦ subst (λ (r : Reached). IsReached e ps r) (sym start) (reached_start e ps i)
]

pub reached_on : (e : Encoding) (ps : List RowValue) (from : Reached) (i n characters byte units : ℕ) (rest : List ℕ) → from.line ≡ i → IsReached e ps from
    → rest ≡ drop from.col (row_chars ps from.line) → characters ≡ min n (length rest) → byte ≡ length (encodes (take n rest)) → units ≡ units_of e (take n rest)
    → IsReached e ps (record { line = i; col = from.col + characters; byte = from.byte + byte; units = from.units + units })
reached_on e ps from i n characters byte units rest line h is long bytes counted =
    let cs = row_chars ps from.line in
    let front = take from.col cs in
    let same : row_chars ps from.line ≡ row_chars ps i = ap (λ k. row_chars ps k) line in
    let whole : take (from.col + characters) (row_chars ps i) ≡ front ++ take n rest =
    ap (λ (l : List ℕ). take (from.col + characters) l) (sym same) ∙ take-add from.col characters cs ∙ ap (λ (l : List ℕ). front ++ take characters l) (sym is) ∙ ap (λ k. front ++ take k rest) long ∙ ap (λ (l : List ℕ). front ++ l) (take_min n rest) in
    let column = h.column in
    let before = h.byte in
    let count = h.units in
    record {
      column = omega (arith, column, long, ap length is, length-drop from.col cs, ap length same);
      byte = omega (arith, before, bytes, ap (λ (l : List ℕ). length (encodes l)) whole, ap length (encodes-append front (take n rest)), length-append (encodes front) (encodes (take n rest)));
      units = omega (arith, count, counted, ap (λ (l : List ℕ). units_of e l) whole, units-append e front (take n rest));
    }

-- what an editor is told of the place that a walk has reached
pub told_is : (e : Encoding) (ps : List RowValue) (r : Reached) (p : Pos) → IsReached e ps r → r.line ≡ p.line → r.col ≡ min p.col (length (row_chars ps p.line)) → ◌≡◌ {A = EditorPlace} (record { line = r.line; units = r.units }) (told_place e ps p)
told_is e ps r p h line col =
    let at : ℕ → ℕ → EditorPlace = λ i n. record { line = i; units = n } in
    let units : r.units ≡ units_of e (take p.col (row_chars ps p.line)) =
    h.units ∙ ap (λ i. units_of e (take r.col (row_chars ps i))) line ∙ ap (λ k. units_of e (take k (row_chars ps p.line))) col ∙ ap (λ (l : List ℕ). units_of e l) (take_min p.col (row_chars ps p.line)) in
    ap (λ n. at r.line n) units ∙ ap (λ i. at i (units_of e (take p.col (row_chars ps p.line)))) line
