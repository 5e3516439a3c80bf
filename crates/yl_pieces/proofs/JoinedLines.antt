-- The lexemes of rows and of the rows after them, line by line, and how far down they stand.
use Rattle.std.proofs.Common.{◌≡◌, ◌≤◌, ◌<◌, ◌+◌, ℕ, Bool, cond, eqb, List, [], ◌∷◌, ◌++◌, length, map, take, drop, refl, sym, ◌∙◌, ap, append_assoc, arith}
use Rattle.std.specs.Prelude.{replicate}
use Rattle.std.specs.List.{AllByRecursion}
use Rattle.std.proofs.lemmas.Bool.{ne_eqb}
use Rattle.std.proofs.lemmas.List.{length-append, length-map, length-replicate, map-append}
use Rattle.yl_lexeme.specs.Lexeme.{LexemeValue}
use Rattle.yl_marks.specs.declared.token.Token.{Token}
use Rattle.yl_marks.specs.Keys.{lexeme_at_line, token_of}
use Rattle.yl_marks.specs.ByLine.{before_lines, by_line}
use Rattle.yl_marks.specs.MarksAlike.{rows_below, token_below}
use Rattle.yl_marks.proofs.MarksAlikeKeys.{choice, same_place}
use Rattle.yl_marks.proofs.Runs.{one_run, run_len}
use Rattle.yl_indentation.specs.LineFacts.{BeginElsewhere}
use Rattle.yl_lexeme_rules.specs.LexemesAlike.{lexeme_below}
use Rattle.yl_record.specs.Records.{RecordValue}
use Rattle.yl_sections.specs.Judging.{spaces_of}
use Rattle.yl_sections.specs.Sections.{lexemes_from}
use Rattle.yl_sections.proofs.RowJudging.{below, lexemes_of_both}
use Rattle.yl_pieces.specs.Laws.{AreClosed}
use Rattle.yl_pieces.specs.Told.{spaces_in, tokens_in}

-- ---- lines

-- the others do not begin in the line of one of these lexemes
abbrev pub Apart : List Token → List Token → Type 0
Apart [] ys = Unit {0}
Apart (x ∷ xs) ys = BeginElsewhere x.start.line ys × Apart xs ys

new_line : (x : Token) (ys : List Token) → BeginElsewhere x.start.line ys → before_lines x (by_line ys) ≡ (x ∷ []) ∷ by_line ys
new_line x [] h = refl
new_line x (y ∷ ys) h =
    let n = run_len y.start.line ys in
    ap (before_lines x) (one_run y ys)
    ∙ ap (λ (b : Bool). cond b ((x ∷ y ∷ take n ys) ∷ by_line (drop n ys)) ((x ∷ []) ∷ (y ∷ take n ys) ∷ by_line (drop n ys))) (ne_eqb x.start.line y.start.line (λ e. h (sym e)))
    ∙ ap (λ (ls : List (List Token)). (x ∷ []) ∷ ls) (sym (one_run y ys))

onto_lines : (x : Token) (ls ms : List (List Token)) → before_lines x ms ≡ (x ∷ []) ∷ ms → before_lines x (ls ++ ms) ≡ before_lines x ls ++ ms
onto_lines x [] ms h = h
onto_lines x ([] ∷ ls) ms h = refl
onto_lines x ((y ∷ ys) ∷ ls) ms h = choice (λ (ns : List (List Token)). ns ++ ms) (eqb x.start.line y.start.line) ((x ∷ y ∷ ys) ∷ ls) ((x ∷ []) ∷ (y ∷ ys) ∷ ls) _ _ refl refl

-- the lines of both, one after another
pub lines_both : (xs ys : List Token) → Apart xs ys → by_line (xs ++ ys) ≡ by_line xs ++ by_line ys
lines_both [] ys h = refl
lines_both (x ∷ xs) ys h =
    ap (before_lines x) (lines_both xs ys h.1) ∙ onto_lines x (by_line xs) (by_line ys) (new_line x ys h.0)

first_lower : (n : ℕ) (x : Token) (ls : List (List Token)) → before_lines (token_below n x) (rows_below n ls) ≡ rows_below n (before_lines x ls)
first_lower n x [] = refl
first_lower n x ([] ∷ ls) = refl
first_lower n x ((y ∷ ys) ∷ ls) =
    let joined = rows_below n ((x ∷ y ∷ ys) ∷ ls) in
    let parted = rows_below n ((x ∷ []) ∷ (y ∷ ys) ∷ ls) in
    ap (λ (b : Bool). cond b joined parted) (same_place n x.start.line y.start.line)
    ∙ choice (rows_below n) (eqb x.start.line y.start.line) ((x ∷ y ∷ ys) ∷ ls) ((x ∷ []) ∷ (y ∷ ys) ∷ ls) joined parted refl refl

pub lines_lower : (n : ℕ) (xs : List Token) → by_line (map (token_below n) xs) ≡ rows_below n (by_line xs)
lines_lower n [] = refl
lines_lower n (x ∷ xs) = ap (before_lines (token_below n x)) (lines_lower n xs) ∙ first_lower n x (by_line xs)

-- ---- lexemes of rows

pub tokens_both : (line : ℕ) (front rest : List RecordValue) → tokens_in line (front ++ rest) ≡ tokens_in line front ++ tokens_in (line + length front) rest
tokens_both line front rest =
    ap (λ (xs : List LexemeValue). map token_of xs) (lexemes_of_both line front rest)
    ∙ map-append token_of (lexemes_from line front) (lexemes_from (line + length front) rest)

pub apart_rows : (line high : ℕ) (front rest : List RecordValue) → line + length front ≤ high → Apart (tokens_in line front) (tokens_in high rest)
apart_rows line high [] rest h = tt
apart_rows line high (r ∷ rs) rest h = by_row r.entry.lexemes (omega (arith, h)) (apart_rows (line + 1) high rs rest (omega (arith, h)))
  where
    by_row : (xs : List LexemeValue) → line < high → Apart (tokens_in (line + 1) rs) (tokens_in high rest)
        → Apart (map token_of (map (lexeme_at_line line) xs ++ lexemes_from (line + 1) rs)) (tokens_in high rest)
    by_row [] l m = m
    by_row (x ∷ xs) l m = (below line high rest l, by_row xs l m)

-- they begin and end above the line after the rows
abbrev pub StandsAbove : ℕ → Token → Type 0
StandsAbove high x = (x.start.line < high) × (x.end_line < high)

stand_above : (line high : ℕ) (rs : List RecordValue) → AreClosed rs → line + length rs ≤ high → AllByRecursion (StandsAbove high) (tokens_in line rs)
stand_above line high [] c h = tt
stand_above line high (r ∷ rs) c h = by_row r.entry.lexemes c.0 h (stand_above (line + 1) high rs c.1 (omega (arith, h)))
  where
    by_row : (xs : List LexemeValue) → AllByRecursion (λ x. x.end.line < length (r ∷ rs)) xs → line + length (r ∷ rs) ≤ high → AllByRecursion (StandsAbove high) (tokens_in (line + 1) rs)
        → AllByRecursion (StandsAbove high) (map token_of (map (lexeme_at_line line) xs ++ lexemes_from (line + 1) rs))
    by_row [] c h m = m
    by_row (x ∷ xs) c h m = ((omega (arith, h), omega (arith, h, c.0)), by_row xs c.1 h m)

pub closed_above : (line : ℕ) (rs : List RecordValue) → AreClosed rs → AllByRecursion (StandsAbove (line + length rs)) (tokens_in line rs)
closed_above line rs c = stand_above line (line + length rs) rs c (omega arith)

begin_above : (line high : ℕ) (rs : List RecordValue) → line + length rs ≤ high → AllByRecursion (λ (x : LexemeValue). x.start.line < high) (lexemes_from line rs)
begin_above line high [] h = tt
begin_above line high (r ∷ rs) h = by_row r.entry.lexemes (omega (arith, h)) (begin_above (line + 1) high rs (omega (arith, h)))
  where
    by_row : (xs : List LexemeValue) → line < high → AllByRecursion (λ (x : LexemeValue). x.start.line < high) (lexemes_from (line + 1) rs)
        → AllByRecursion (λ (x : LexemeValue). x.start.line < high) (map (lexeme_at_line line) xs ++ lexemes_from (line + 1) rs)
    by_row [] l m = m
    by_row (x ∷ xs) l m = (l, by_row xs l m)

pub all_above : (line : ℕ) (rs : List RecordValue) → AllByRecursion (λ (x : LexemeValue). x.start.line < line + length rs) (lexemes_from line rs)
all_above line rs = begin_above line (line + length rs) rs (omega arith)

pub tokens_above : (high : ℕ) (xs : List LexemeValue) → AllByRecursion (λ (x : LexemeValue). x.start.line < high) xs → AllByRecursion (λ (x : Token). x.start.line < high) (map token_of xs)
tokens_above high [] h = tt
tokens_above high (x ∷ xs) h = (h.0, tokens_above high xs h.1)

begin_below : (low line : ℕ) (rs : List RecordValue) → low ≤ line → AllByRecursion (λ (x : LexemeValue). low ≤ x.start.line) (lexemes_from line rs)
begin_below low line [] h = tt
begin_below low line (r ∷ rs) h = by_row r.entry.lexemes h (begin_below low (line + 1) rs (omega (arith, h)))
  where
    by_row : (xs : List LexemeValue) → low ≤ line → AllByRecursion (λ (x : LexemeValue). low ≤ x.start.line) (lexemes_from (line + 1) rs)
        → AllByRecursion (λ (x : LexemeValue). low ≤ x.start.line) (map (lexeme_at_line line) xs ++ lexemes_from (line + 1) rs)
    by_row [] l m = m
    by_row (x ∷ xs) l m = (l, by_row xs l m)

pub all_below : (line : ℕ) (rs : List RecordValue) → AllByRecursion (λ (x : LexemeValue). line ≤ x.start.line) (lexemes_from line rs)
all_below line rs = begin_below line line rs (omega arith)

-- ---- so many lines below

abbrev in_lines : LexemeValue → ℕ → ℕ → LexemeValue
in_lines x first last = record x { start = record x.start { line = first }; end = record x.end { line = last } }

lexeme_lower : (n line : ℕ) (x : LexemeValue) → lexeme_at_line (n + line) x ≡ lexeme_below n (lexeme_at_line line x)
lexeme_lower n line x =
    let last : n + line + x.end.line ≡ n + (line + x.end.line) = omega arith in
    ap (λ (l : ℕ). in_lines x (n + line) l) last

row_lower : (n line : ℕ) (xs : List LexemeValue) → map (lexeme_at_line (n + line)) xs ≡ map (lexeme_below n) (map (lexeme_at_line line) xs)
row_lower n line [] = refl
row_lower n line (x ∷ xs) =
    ap (λ (y : LexemeValue). y ∷ map (lexeme_at_line (n + line)) xs) (lexeme_lower n line x)
    ∙ ap (λ (ys : List LexemeValue). lexeme_below n (lexeme_at_line line x) ∷ ys) (row_lower n line xs)

lexemes_lower : (n line : ℕ) (rs : List RecordValue) → lexemes_from (n + line) rs ≡ map (lexeme_below n) (lexemes_from line rs)
lexemes_lower n line [] = refl
lexemes_lower n line (r ∷ rs) =
    let next : n + line + 1 ≡ n + (line + 1) = omega arith in
    ap (λ (ys : List LexemeValue). ys ++ lexemes_from (n + line + 1) rs) (row_lower n line r.entry.lexemes)
    ∙ ap (λ (ys : List LexemeValue). map (lexeme_below n) (map (lexeme_at_line line) r.entry.lexemes) ++ ys) (ap (λ (k : ℕ). lexemes_from k rs) next ∙ lexemes_lower n (line + 1) rs)
    ∙ sym (map-append (lexeme_below n) (map (lexeme_at_line line) r.entry.lexemes) (lexemes_from (line + 1) rs))

-- the lexemes of rows, by those of the same rows at the top
pub lexemes_there : (n : ℕ) (rs : List RecordValue) → lexemes_from n rs ≡ map (lexeme_below n) (lexemes_from 0 rs)
lexemes_there n rs =
    let top : n ≡ n + 0 = omega arith in
    ap (λ (k : ℕ). lexemes_from k rs) top ∙ lexemes_lower n 0 rs

tokens_lower : (n : ℕ) (xs : List LexemeValue) → map token_of (map (lexeme_below n) xs) ≡ map (token_below n) (map token_of xs)
tokens_lower n [] = refl
tokens_lower n (x ∷ xs) = ap (λ (ts : List Token). token_below n (token_of x) ∷ ts) (tokens_lower n xs)

pub tokens_there : (n : ℕ) (rs : List RecordValue) → tokens_in n rs ≡ map (token_below n) (tokens_in 0 rs)
tokens_there n rs = ap (λ (xs : List LexemeValue). map token_of xs) (lexemes_there n rs) ∙ tokens_lower n (lexemes_from 0 rs)

pub lines_there : (n : ℕ) (rs : List RecordValue) → by_line (tokens_in n rs) ≡ rows_below n (by_line (tokens_in 0 rs))
lines_there n rs = ap by_line (tokens_there n rs) ∙ lines_lower n (tokens_in 0 rs)

-- ---- leading spaces

pub spaces_both : (line : ℕ) (front rest : List RecordValue) → spaces_in line (front ++ rest) ≡ spaces_in line front ++ spaces_of rest
spaces_both line front rest =
    ap (λ (ns : List ℕ). replicate line 0 ++ ns) (map-append (λ (r : RecordValue). r.indentation) front rest)
    ∙ sym (append_assoc (replicate line 0) (spaces_of front) (spaces_of rest))

pub length-spaces_in : (line : ℕ) (rs : List RecordValue) → length (spaces_in line rs) ≡ line + length rs
length-spaces_in line rs =
    omega (arith, length-append (replicate line 0) (spaces_of rs), length-replicate {A = ℕ} line 0, length-map rs (λ (r : RecordValue). r.indentation))
