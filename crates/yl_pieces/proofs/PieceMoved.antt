-- The lexemes of rows that count from line 1.
use Rattle.std.proofs.Common.{◌≡◌, ◌+◌, ◌-◌, ℕ, cond, List, [], ◌∷◌, ◌++◌, map, refl, sym, ◌∙◌, ap, zero-add, arith}
use Rattle.std.specs.Prelude.{◌==◌}
use Rattle.std.proofs.lemmas.List.{map-append}
use Rattle.yl_text.specs.Finding.{FindingValue}
use Rattle.yl_lexeme.specs.Lexeme.{LexemeValue}
use Rattle.yl_marks.specs.declared.symbol.Symbol.{Symbol}
use Rattle.yl_marks.specs.declared.symbol.Symbol.TheVariants.{OpenSequence, OpenMapping, BeginKey, Close, One}
use Rattle.yl_marks.specs.declared.token.Token.{Token}
use Rattle.yl_marks.specs.Keys.{lexeme_at_line, token_of}
use Rattle.yl_marks.specs.ByLine.{before_lines, by_line}
use Rattle.yl_marks.specs.MarksAlike.{rows_below, symbol_after, token_below}
use Rattle.yl_marks.proofs.MarksAlikeKeys.{choice, same_place}
use Rattle.yl_indentation.specs.declared.fact.Fact.{Fact}
use Rattle.yl_indentation.specs.FactsAlike.{fact_below}
use Rattle.yl_lexeme_rules.specs.LexemesAlike.{finding_below, lexeme_below}
use Rattle.yl_record.specs.Records.{RecordValue}
use Rattle.yl_sections.specs.Sections.{lexemes_from}
use Rattle.yl_pieces.specs.Told.{tokens_in}

-- ---- lexemes

abbrev in_lines : LexemeValue → ℕ → ℕ → LexemeValue
in_lines x first last = record { kind = x.kind; start = record { line = first; col = x.start.col }; end = record { line = last; col = x.end.col }; value = x.value }

row_moved : (line : ℕ) (xs : List LexemeValue) → map (lexeme_at_line (1 + line)) xs ≡ map (lexeme_below 1) (map (lexeme_at_line line) xs)
row_moved line [] = refl
row_moved line (x ∷ xs) =
    let last : 1 + line + x.end.line ≡ 1 + (line + x.end.line) = omega arith in
    ap (λ (l : ℕ). in_lines x (1 + line) l ∷ map (lexeme_at_line (1 + line)) xs) last
    ∙ ap (λ (ys : List LexemeValue). lexeme_below 1 (lexeme_at_line line x) ∷ ys) (row_moved line xs)

lexemes_moved : (line : ℕ) (rs : List RecordValue) → lexemes_from (1 + line) rs ≡ map (lexeme_below 1) (lexemes_from line rs)
lexemes_moved line [] = refl
lexemes_moved line (r ∷ rs) =
    let row = map (lexeme_at_line line) r.entry.lexemes in
    let next : 1 + line + 1 ≡ 1 + (line + 1) = omega arith in
    ap (λ (xs : List LexemeValue). xs ++ lexemes_from (1 + line + 1) rs) (row_moved line r.entry.lexemes)
    ∙ ap (λ (l : ℕ). map (lexeme_below 1) row ++ lexemes_from l rs) next
    ∙ ap (λ (xs : List LexemeValue). map (lexeme_below 1) row ++ xs) (lexemes_moved (line + 1) rs)
    ∙ sym (map-append (lexeme_below 1) row (lexemes_from (line + 1) rs))

pub lexemes_there : (rs : List RecordValue) → lexemes_from 1 rs ≡ map (lexeme_below 1) (lexemes_from 0 rs)
lexemes_there rs = lexemes_moved 0 rs

tokens_moved : (xs : List LexemeValue) → map token_of (map (lexeme_below 1) xs) ≡ map (token_below 1) (map token_of xs)
tokens_moved [] = refl
tokens_moved (x ∷ xs) = ap (λ (ts : List Token). token_below 1 (token_of x) ∷ ts) (tokens_moved xs)

pub tokens_there : (rs : List RecordValue) → tokens_in 1 rs ≡ map (token_below 1) (tokens_in 0 rs)
tokens_there rs = ap (λ (xs : List LexemeValue). map token_of xs) (lexemes_there rs) ∙ tokens_moved (lexemes_from 0 rs)

before_moved : (n : ℕ) (x : Token) (ls : List (List Token)) → before_lines (token_below n x) (rows_below n ls) ≡ rows_below n (before_lines x ls)
before_moved n x [] = refl
before_moved n x ([] ∷ ls) = refl
before_moved n x ((y ∷ ys) ∷ ls) =
    let below : List (List Token) → List (List Token) = rows_below n in
    let same : List (List Token) = (x ∷ y ∷ ys) ∷ ls in
    let other : List (List Token) = (x ∷ []) ∷ (y ∷ ys) ∷ ls in
    ap (λ b. cond b (below same) (below other)) (same_place n x.start.line y.start.line) ∙ choice below (x.start.line == y.start.line) same other _ _ refl refl

lines_moved : (n : ℕ) (xs : List Token) → by_line (map (token_below n) xs) ≡ rows_below n (by_line xs)
lines_moved n [] = refl
lines_moved n (x ∷ xs) = ap (λ (ls : List (List Token)). before_lines (token_below n x) ls) (lines_moved n xs) ∙ before_moved n x (by_line xs)

pub lines_there : (rs : List RecordValue) → by_line (tokens_in 1 rs) ≡ rows_below 1 (by_line (tokens_in 0 rs))
lines_there rs = ap by_line (tokens_there rs) ∙ lines_moved 1 (tokens_in 0 rs)

-- ---- symbols after none

same_symbol : (w : Symbol) → symbol_after 0 w ≡ w
same_symbol (OpenSequence i) = ap OpenSequence (zero-add i)
same_symbol (OpenMapping i) = ap OpenMapping (zero-add i)
same_symbol (BeginKey i) = ap BeginKey (zero-add i)
same_symbol Close = refl
same_symbol (One kind i) = ap (One kind) (zero-add i)

pub same_symbols : (ws : List Symbol) → map (symbol_after 0) ws ≡ ws
same_symbols [] = refl
same_symbols (w ∷ ws) = ap (λ v. v ∷ map (symbol_after 0) ws) (same_symbol w) ∙ ap (λ vs. w ∷ vs) (same_symbols ws)

-- ---- what stands one line below is the same where what stands there is

raised : Fact → Fact
raised f = record f { line = f.line - 1 }

facts_back : (fs : List Fact) → map raised (map (fact_below 1) fs) ≡ fs
unfolding raised
facts_back [] = refl
facts_back (f ∷ fs) =
    let there : 1 + f.line - 1 ≡ f.line = omega arith in
    ap (λ k. record { line = k; column = f.column; expectation = f.expectation } ∷ map raised (map (fact_below 1) fs)) there ∙ ap (λ gs. f ∷ gs) (facts_back fs)

pub facts_there : (fs gs : List Fact) → map (fact_below 1) fs ≡ map (fact_below 1) gs → fs ≡ gs
facts_there fs gs e = sym (facts_back fs) ∙ (ap (map raised) e ∙ facts_back gs)

raised_finding : FindingValue → FindingValue
raised_finding f = record f { line = f.line - 1 }

one_back : (f : FindingValue) → raised_finding (finding_below 1 f) ≡ f
unfolding raised_finding
one_back f = let there : 1 + f.line - 1 ≡ f.line = omega arith in ap (λ k. record f { line = k }) there

findings_back : (fs : List FindingValue) → map raised_finding (map (finding_below 1) fs) ≡ fs
findings_back [] = refl
findings_back (f ∷ fs) = ap (λ g. g ∷ map raised_finding (map (finding_below 1) fs)) (one_back f) ∙ ap (λ gs. f ∷ gs) (findings_back fs)

pub findings_there : (fs gs : List FindingValue) → map (finding_below 1) fs ≡ map (finding_below 1) gs → fs ≡ gs
findings_there fs gs e = sym (findings_back fs) ∙ (ap (map raised_finding) e ∙ findings_back gs)
