-- The lexemes of rows, line by line.
use Rattle.std.proofs.Common.{◌≡◌, ◌<◌, ◌≤◌, ◌+◌, ℕ, List, [], ◌∷◌, ◌++◌, length, map, refl, sym, ◌∙◌, ap, append_assoc, append-nil, arith}
use Rattle.yl_lexeme.specs.Lexeme.{LexemeValue}
use Rattle.yl_marks.specs.declared.facts.KeyFacts.{KeyFacts}
use Rattle.yl_marks.specs.declared.symbol.Symbol.{Symbol}
use Rattle.yl_marks.specs.declared.token.Token.{Token}
use Rattle.yl_marks.specs.Keys.{lexeme_at_line, token_of}
use Rattle.yl_marks.specs.ByLine.{HaveIndices, MarkerValue, behind_line, by_line, marks_of_line}
use Rattle.yl_marks.specs.FactsByLine.{KeyMarkerValue, behind_keyed_line, facts_by_lines, facts_of_line}
use Rattle.yl_marks.specs.MarksAlike.{after_rows, marks_of_rows}
use Rattle.yl_marks.proofs.Indices.{indices_of_both, indices_of_line}
use Rattle.yl_record.specs.Records.{RecordValue}
use Rattle.yl_sections.specs.Sections.{lexemes_from}
use Rattle.yl_sections.proofs.Lines.{line_cut}
use Rattle.yl_sections.proofs.RowJudging.{below, lexemes_of_both, placed_here}
use Rattle.yl_pieces.specs.Told.{tokens_in}

-- ---- the lines of rows

abbrev pub row_lexemes : ℕ → RecordValue → List LexemeValue
row_lexemes line r = map (lexeme_at_line line) r.entry.lexemes

abbrev pub row_tokens : ℕ → RecordValue → List Token
row_tokens line r = map token_of (row_lexemes line r)

abbrev line_if : List Token → List (List Token)
line_if [] = []
line_if (x ∷ xs) = (x ∷ xs) ∷ []

by_row : (line : ℕ) (ys : List LexemeValue) (rest : List RecordValue)
    → by_line (map token_of (map (lexeme_at_line line) ys ++ lexemes_from (line + 1) rest)) ≡ line_if (map token_of (map (lexeme_at_line line) ys)) ++ by_line (tokens_in (line + 1) rest)
by_row line [] rest = refl
by_row line (y ∷ ys) rest = line_cut line (map (lexeme_at_line line) (y ∷ ys)) (lexemes_from (line + 1) rest) (omega arith) (placed_here line (y ∷ ys)) (below line (line + 1) rest (omega arith))

pub lines_of_both : (line : ℕ) (rs more : List RecordValue) → by_line (tokens_in line (rs ++ more)) ≡ by_line (tokens_in line rs) ++ by_line (tokens_in (line + length rs) more)
lines_of_both line [] more = ap (λ k. by_line (tokens_in k more)) {x = line} {y = line + 0} (omega arith)
lines_of_both line (r ∷ rs) more =
    let here = line_if (row_tokens line r) in
    let next = line + length (r ∷ rs) in
    by_row line r.entry.lexemes (rs ++ more)
    ∙ (ap (λ (ls : List (List Token)). here ++ ls) (lines_of_both (line + 1) rs more ∙ ap (λ k. by_line (tokens_in (line + 1) rs) ++ by_line (tokens_in k more)) {x = line + 1 + length rs} {y = next} (omega arith))
    ∙ (sym (append_assoc here (by_line (tokens_in (line + 1) rs)) (by_line (tokens_in next more)))
    ∙ ap (λ (ls : List (List Token)). ls ++ by_line (tokens_in next more)) (sym (by_row line r.entry.lexemes rs))))

line_some : (line : ℕ) (ys : List LexemeValue) (ls : List (List Token)) → 0 < length ys
    → line_if (map token_of (map (lexeme_at_line line) ys)) ++ ls ≡ map token_of (map (lexeme_at_line line) ys) ∷ ls
line_some line [] ls h = absurd (omega (arith, h))
line_some line (y ∷ ys) ls h = refl

-- a row with lexemes is one line more
pub line_more : (line : ℕ) (rs more : List RecordValue) (r : RecordValue) → 0 < length r.entry.lexemes
    → by_line (tokens_in line (rs ++ r ∷ more)) ≡ by_line (tokens_in line rs) ++ (row_tokens (line + length rs) r ∷ by_line (tokens_in (line + length rs + 1) more))
line_more line rs more r h =
    let at = line + length rs in
    lines_of_both line rs (r ∷ more)
    ∙ ap (λ (ls : List (List Token)). by_line (tokens_in line rs) ++ ls) (by_row at r.entry.lexemes more ∙ line_some at r.entry.lexemes (by_line (tokens_in (at + 1) more)) h)

pub lexemes_more : (line : ℕ) (rs more : List RecordValue) (r : RecordValue)
    → lexemes_from line (rs ++ r ∷ more) ≡ lexemes_from line rs ++ (row_lexemes (line + length rs) r ++ lexemes_from (line + length rs + 1) more)
lexemes_more line rs more r = lexemes_of_both line rs (r ∷ more)

-- a row without lexemes is none
pub no_lexemes : (line : ℕ) (rs : List RecordValue) (r : RecordValue) → r.entry.lexemes ≡ [] → lexemes_from line (rs ++ r ∷ []) ≡ lexemes_from line rs
no_lexemes line rs r none =
    let at = line + length rs in
    lexemes_of_both line rs (r ∷ [])
    ∙ (ap (λ (ys : List LexemeValue). lexemes_from line rs ++ (map (lexeme_at_line at) ys ++ [])) none ∙ append-nil (lexemes_from line rs))

-- ---- marks and keys of some lines, and then others

pub marks_of_both : (k : KeyMarkerValue) (xs ys : List (List Token)) → marks_of_rows k.marks (xs ++ ys) ≡ marks_of_rows k.marks xs ++ marks_of_rows (after_rows k xs).marks ys
marks_of_both k [] ys = refl
marks_of_both k (x ∷ xs) ys =
    let next = behind_keyed_line k x in
    ap (λ (ws : List Symbol). marks_of_line k.marks x ++ ws) (marks_of_both next xs ys)
    ∙ sym (append_assoc (marks_of_line k.marks x) (marks_of_rows next.marks xs) (marks_of_rows (after_rows next xs).marks ys))

pub after_both : (k : KeyMarkerValue) (xs ys : List (List Token)) → after_rows k (xs ++ ys) ≡ after_rows (after_rows k xs) ys
after_both k [] ys = refl
after_both k (x ∷ xs) ys = after_both (behind_keyed_line k x) xs ys

pub keys_of_both : (k : KeyMarkerValue) (xs ys : List (List Token)) → facts_by_lines k (xs ++ ys) ≡ facts_by_lines k xs ++ facts_by_lines (after_rows k xs) ys
keys_of_both k [] ys = refl
keys_of_both k (x ∷ xs) ys =
    let next = behind_keyed_line k x in
    ap (λ (ks : List KeyFacts). facts_of_line k x ++ ks) (keys_of_both next xs ys)
    ∙ sym (append_assoc (facts_of_line k x) (facts_by_lines next xs) (facts_by_lines (after_rows next xs) ys))

pub indices_of_rows : (Is : ℕ → Type 0) (b : MarkerValue) (ls : List (List Token)) → ((j : ℕ) → b.count ≤ j → Is j) → HaveIndices Is (marks_of_rows b ls)
indices_of_rows Is b [] h = tt
indices_of_rows Is b (x ∷ ls) h =
    indices_of_both Is (marks_of_line b x) (marks_of_rows (behind_line b x) ls) (indices_of_line Is b x (λ j l k. h j l))
    (indices_of_rows Is (behind_line b x) ls (λ j l. h j (let more : b.count + length x ≤ j = l in omega (arith, more))))
