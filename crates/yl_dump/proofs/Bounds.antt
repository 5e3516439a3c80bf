-- The lines of a text that is not too large fit.
use Rattle.std.proofs.Common.{◌≡◌, ℕ, zero, suc, ◌+◌, ◌<◌, ◌≤◌, ◌*◌, ◌-◌, List, [], ◌∷◌, ◌++◌, length, drop, refl, length-append, arith, ap, ◌∙◌, subst}
use Rattle.std.specs.Str.{chars, chars_after, continuation_len, lead_bits}
use Rattle.yl_text.specs.Lines.{RowValue, break_bytes, text_of, IsLines, lines_of}
use Rattle.yl_text.proofs.Computed.{lines_of-IsLines}

length-chars_after : (n c : ℕ) (bs : List ℕ) → length (chars_after n c bs) ≤ length bs + 1
length-chars_after zero c [] = omega arith
length-chars_after zero c (b ∷ bs) = omega (arith, length-chars_after (continuation_len b) (lead_bits b) bs)
length-chars_after (suc n) c [] = omega arith
length-chars_after (suc n) c (b ∷ bs) = omega (arith, length-chars_after n (c * 64 + (b - 128)) bs)

-- a text has no more characters than bytes
pub length-chars : (bs : List ℕ) → length (chars bs) ≤ length bs
unfolding chars
length-chars [] = omega arith
length-chars (b ∷ bs) = omega (arith, length-chars_after (continuation_len b) (lead_bits b) bs)

-- the first line of a text has no more bytes than the text
pub first_short : (t : List ℕ) (p : RowValue) (ps : List RowValue) → lines_of t ≡ p ∷ ps → length p.text ≤ length t
first_short t p ps first =
    let lines : IsLines t (p ∷ ps) = subst (λ (qs : List RowValue). IsLines t qs) first (lines_of-IsLines t) in
    let own : length (text_of (p ∷ ps)) ≡ (length p.text + length (break_bytes p.end)) + length (text_of ps) =
    length-append (p.text ++ break_bytes p.end) (text_of ps) ∙ ap (λ n. n + length (text_of ps)) (length-append p.text (break_bytes p.end)) in
    omega (arith, own, ap length lines.joined)

-- and no more characters
pub first_fits : (t : List ℕ) (p : RowValue) (ps : List RowValue) → lines_of t ≡ p ∷ ps → length (chars p.text) ≤ length t
first_fits t p ps first = omega (arith, length-chars p.text, first_short t p ps first)

-- behind a line that was read there are fewer
pub fewer : (rows : List RowValue) → (rows ≡ [] → ⊥) → length (drop 1 rows) < length rows
fewer [] h = absurd (h refl)
fewer (p ∷ ps) h = omega arith
