-- Words of a line and the ranges that they make.
use Rattle.std.proofs.Common.{◌≡◌, ℕ, zero, suc, ◌+◌, ◌≤◌, ◌<◌, min, max, Bool, true, false, not, cond, eqb, List, [], ◌∷◌, ◌++◌, length, take, drop, get_or, refl, sym, ◌∙◌, ap, arith}
use Rattle.std.proofs.lemmas.List.{take_min, drop_min, length-take, at_drop_more, drop_all, append-nil, append_assoc, length_push}
use Rattle.std.proofs.lemmas.List.Sums.{take_while-cons}
use Rattle.std.specs.List.{take_while, prefix_len}
use Rattle.yl_text.specs.Lines.{RowValue}
use Rattle.yl_text.specs.declared.finding.RuleId.{RuleId}
use Rattle.yl_units.specs.declared.encoding.Encoding.{Encoding}
use Rattle.yl_units.specs.declared.place.EditorPlace.{EditorPlace}
use Rattle.yl_units.specs.Units.{units_of}
use Rattle.yl_units.specs.Places.{row_chars, told_place}
use Rattle.yl_lsp.specs.Words.{ends_word, without_colon, word_len, is_to_line_end, end_column}

-- a word goes on with this character
abbrev pub goes_on : ℕ → Bool
goes_on c = not (ends_word c)

-- one character more, which is a `:` or not
pub push_colon : (xs : List ℕ) (c : ℕ) → eqb c 58 ≡ true → length (without_colon (xs ++ c ∷ [])) ≡ length xs
push_colon [] c h = ap (λ b. length (cond b [] (c ∷ []))) h
push_colon (x ∷ []) c h = omega (arith, push_colon [] c h)
push_colon (x ∷ y ∷ xs) c h = omega (arith, push_colon (y ∷ xs) c h)

pub push_other : (xs : List ℕ) (c : ℕ) → eqb c 58 ≡ false → length (without_colon (xs ++ c ∷ [])) ≡ length xs + 1
push_other [] c h = ap (λ b. length (cond b [] (c ∷ []))) h
push_other (x ∷ []) c h = omega (arith, push_other [] c h)
push_other (x ∷ y ∷ xs) c h = omega (arith, push_other (y ∷ xs) c h)

one_at_most : (b : Bool) (c : ℕ) → length (cond b [] (c ∷ [])) ≤ 1
one_at_most true c = omega arith
one_at_most false c = omega arith

without_le : (xs : List ℕ) → length (without_colon xs) ≤ length xs
without_le [] = omega arith
without_le (c ∷ []) = omega (arith, one_at_most (eqb c 58) c)
without_le (c ∷ d ∷ cs) = omega (arith, without_le (d ∷ cs))

pub word_most : (cs : List ℕ) → word_len cs ≤ 256
word_most cs =
    let front = take 256 cs in
    omega (arith, without_le (take_while goes_on front), length-take (prefix_len goes_on front) front, length-take 256 cs)

-- the characters of a word, of which some were passed over
run_at : (cs : List ℕ) (n c : ℕ) → (n < length cs) × (c ≡ get_or cs n c) → take_while goes_on (drop n cs) ≡ cond (goes_on c) (c ∷ take_while goes_on (drop (n + 1) cs)) []
run_at cs n c h =
    at_drop_more (λ l. take_while goes_on l) cs n c h.0 ∙ ap (λ d. take_while goes_on (d ∷ drop (n + 1) cs)) (sym h.1) ∙ take_while-cons goes_on c (drop (n + 1) cs)

pub run_ends : (cs xs : List ℕ) (c : ℕ) → (length xs < length cs) × (c ≡ get_or cs (length xs) c) → ends_word c ≡ true → take_while goes_on cs ≡ xs ++ take_while goes_on (drop (length xs) cs) → take_while goes_on cs ≡ xs
run_ends cs xs c h e rest =
    rest ∙ ap (λ l. xs ++ l) (run_at cs (length xs) c h ∙ ap (λ b. cond (not b) (c ∷ take_while goes_on (drop (length xs + 1) cs)) []) e) ∙ append-nil xs

pub run_goes : (cs xs : List ℕ) (c : ℕ) → (length xs < length cs) × (c ≡ get_or cs (length xs) c) → ends_word c ≡ false → take_while goes_on cs ≡ xs ++ take_while goes_on (drop (length xs) cs)
    → take_while goes_on cs ≡ (xs ++ c ∷ []) ++ take_while goes_on (drop (length (xs ++ c ∷ [])) cs)
run_goes cs xs c h e rest =
    let more = take_while goes_on (drop (length xs + 1) cs) in
    rest ∙ ap (λ l. xs ++ l) (run_at cs (length xs) c h ∙ ap (λ b. cond (not b) (c ∷ more) []) e) ∙ sym (append_assoc xs (c ∷ []) more)
    ∙ ap (λ n. (xs ++ c ∷ []) ++ take_while goes_on (drop n cs)) (sym (length_push xs c))

pub run_done : (cs xs : List ℕ) → length cs ≤ length xs → take_while goes_on cs ≡ xs ++ take_while goes_on (drop (length xs) cs) → take_while goes_on cs ≡ xs
run_done cs xs h rest = rest ∙ ap (λ l. xs ++ take_while goes_on l) (drop_all (length xs) cs h) ∙ append-nil xs

-- a line that is not there has no characters
pub row_past : (ps : List RowValue) (i : ℕ) → length ps ≤ i → row_chars ps i ≡ []
row_past [] i h = refl
row_past (p ∷ ps) zero h = absurd (omega arith)
row_past (p ∷ ps) (suc i) h = row_past ps i (omega arith)

-- columns past a line's end are told as the line's end
pub same_told : (e : Encoding) (ps : List RowValue) (i k m : ℕ) → min k (length (row_chars ps i)) ≡ min m (length (row_chars ps i))
    → ◌≡◌ {A = EditorPlace} (told_place e ps (record { line = i; col = k })) (told_place e ps (record { line = i; col = m }))
same_told e ps i k m h =
    let row = row_chars ps i in
    let at : List ℕ → EditorPlace = λ cs. record { line = i; units = units_of e cs } in
    ap at (sym (take_min k row) ∙ ap (λ n. take n row) h ∙ take_min m row)

clamped : (b : Bool) (len col w : ℕ) → min (cond b len (min col len + max 1 w)) len ≡ min (cond b len (col + max 1 w)) len
clamped true len col w = refl
clamped false len col w = omega arith

pub end_clamped : (rule : RuleId) (row : List ℕ) (col : ℕ) → min (end_column rule row (min col (length row))) (length row) ≡ min (end_column rule row col) (length row)
end_clamped rule row col =
    let len = length row in
    ap (λ (l : List ℕ). min (cond (is_to_line_end rule) len (min col len + max 1 (word_len l))) len) (drop_min col row) ∙ clamped (is_to_line_end rule) len col (word_len (drop col row))
