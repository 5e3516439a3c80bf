-- The lines of a text that is not too large are few and short.
use Rattle.std.proofs.Common.{◌≡◌, ◌≢◌, ℕ, zero, suc, ◌+◌, ◌<◌, ◌≤◌, ◌*◌, ◌-◌, List, [], ◌∷◌, ◌++◌, length, All, refl, length-append, arith, ap, ◌∙◌, subst, Some, slice_get}
use Rattle.std.proofs.lemmas.List.Elements.{All-nil, All-cons, All-weaker}
use Rattle.std.proofs.lemmas.Option.{get_or_from_slice_get, slice_get_within}
use Rattle.std.specs.Str.{chars, chars_after, continuation_len, lead_bits}
use Rattle.yl_text.specs.declared.row.Break.{Break}
use Rattle.yl_text.specs.declared.row.Break.TheVariants.{No, Lf, CrLf, Cr}
use Rattle.yl_text.specs.Lines.{RowValue, break_bytes, text_of, AreEnded}
use Rattle.yl_text.specs.Store.{AreLines}
use Rattle.yl_text.specs.Bounds.{IsShort, LinesAreFew, LinesAreShort}

length-chars_after : (n c : ℕ) (bs : List ℕ) → length (chars_after n c bs) ≤ length bs + 1
length-chars_after zero c [] = omega arith
length-chars_after zero c (b ∷ bs) = omega (arith, length-chars_after (continuation_len b) (lead_bits b) bs)
length-chars_after (suc n) c [] = omega arith
length-chars_after (suc n) c (b ∷ bs) = omega (arith, length-chars_after n (c * 64 + (b - 128)) bs)

-- a text has no more characters than bytes
pub length-chars : (bs : List ℕ) → length (chars bs) ≤ length bs
unfolding chars
length-chars [] = omega arith
length-chars (b ∷ bs) = omega (arith, length-chars_after (continuation_len b) (lead_bits b) bs)

-- a break has a byte at the least
break_long : (e : Break) → e ≢ No → 0 < length (break_bytes e)
break_long No h = absurd (h refl)
break_long Lf h = omega arith
break_long CrLf h = omega arith
break_long Cr h = omega arith

-- the bytes of a line, of its break and of what follows
parts : (p : RowValue) (ps : List RowValue) → length (text_of (p ∷ ps)) ≡ length p.text + length (break_bytes p.end) + length (text_of ps)
parts p ps = length-append (p.text ++ break_bytes p.end) (text_of ps) ∙ ap (λ n. n + length (text_of ps)) (length-append p.text (break_bytes p.end))

-- there is at most one line more than bytes
few : (ps : List RowValue) → AreEnded ps → length ps ≤ length (text_of ps) + 1
few [] h = omega arith
few (p ∷ []) h = omega arith
few (p ∷ q ∷ ps) h =
    let long : 0 < length (break_bytes p.end) = break_long p.end h.0 in
    omega (arith, long, parts p (q ∷ ps), few (q ∷ ps) h.1)

-- and each has no more characters than the text has bytes
each_short : (most : ℕ) (ps : List RowValue) → length (text_of ps) ≤ most → All (λ p. length (chars p.text) ≤ most) ps
each_short most [] h = All-nil (λ p. length (chars p.text) ≤ most)
each_short most (p ∷ ps) h =
    let own = parts p ps in
    All-cons (λ p. length (chars p.text) ≤ most) p ps (omega (arith, own, length-chars p.text)) (each_short most ps (omega (arith, own)))

pub lines_are_few : LinesAreFew
lines_are_few ps h = let short = h.short in omega (arith, short, few ps h.lines.ended)

pub lines_are_short : LinesAreShort
lines_are_short ps h = All-weaker (λ p. length (chars p.text) ≤ 67108864) IsShort (λ p short. omega arith) ps (each_short 67108864 ps h.short)

-- each that is found by its number
pub found_short : (ps : List RowValue) → AreLines ps → (i : ℕ) (p : RowValue) → slice_get ps i ≡ Some p → IsShort p
found_short ps h i p e = subst IsShort (get_or_from_slice_get ps i p p e) (lines_are_short ps h i p (slice_get_within ps i p e))
