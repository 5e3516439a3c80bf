-- The lexemes and the comments of rows further down.
use Rattle.std.proofs.Common.{◌≡◌, ◌+◌, ℕ, cond, ◌&&◌, ◌||◌, List, [], ◌∷◌, ◌++◌, map, length, take, Option, Some, None, refl, sym, ◌∙◌, ap, arith}
use Rattle.std.specs.Prelude.{option_map, option_and_then, ◌==◌}
use Rattle.std.specs.Bool.{then_some}
use Rattle.std.proofs.lemmas.List.{length-map, map-append, take-map}
use Rattle.yl_lexeme.specs.Lexeme.{CommentValue, LexemeValue, PlacedCommentValue}
use Rattle.yl_lexeme.specs.Directives.{is_directive}
use Rattle.yl_lexeme.specs.Version.{is_yaml_1_2}
use Rattle.yl_marks.specs.declared.token.Token.{Token}
use Rattle.yl_marks.specs.Keys.{lexeme_at_line, token_of}
use Rattle.yl_marks.specs.ByLine.{before_lines, by_line}
use Rattle.yl_marks.specs.MarksAlike.{rows_below, token_below}
use Rattle.yl_marks.proofs.MarksAlikeKeys.{choice, same_place}
use Rattle.yl_lexeme_rules.specs.LexemesAlike.{lexeme_below}
use Rattle.yl_lexeme_rules.specs.Version.{is_1_2_document}
use Rattle.yl_record.specs.Records.{RecordValue}
use Rattle.yl_sections.specs.declared.comments.LexemeEnd.{LexemeEnd}
use Rattle.yl_sections.specs.Kept.{comment_at, comments_from, last_lexeme_end}
use Rattle.yl_sections.specs.Sections.{lexemes_from, lexemes_of}
use Rattle.yl_pieces.specs.Told.{tokens_in}
use Rattle.yl_pieces.specs.Laws.{comment_below}

-- ---- lexemes

-- the lexeme, from one line to another
abbrev in_lines : LexemeValue → ℕ → ℕ → LexemeValue
in_lines x first last = record { kind = x.kind; start = record { line = first; col = x.start.col }; end = record { line = last; col = x.end.col }; value = x.value }

row_moved : (n line : ℕ) (xs : List LexemeValue) → map (lexeme_at_line (n + line)) xs ≡ map (lexeme_below n) (map (lexeme_at_line line) xs)
row_moved n line [] = refl
row_moved n line (x ∷ xs) =
    let last : n + line + x.end.line ≡ n + (line + x.end.line) = omega arith in
    ap (λ (l : ℕ). in_lines x (n + line) l ∷ map (lexeme_at_line (n + line)) xs) last
    ∙ ap (λ (ys : List LexemeValue). lexeme_below n (lexeme_at_line line x) ∷ ys) (row_moved n line xs)

pub lexemes_moved : (n line : ℕ) (rs : List RecordValue) → lexemes_from (n + line) rs ≡ map (lexeme_below n) (lexemes_from line rs)
lexemes_moved n line [] = refl
lexemes_moved n line (r ∷ rs) =
    let row = map (lexeme_at_line line) r.entry.lexemes in
    let next : n + line + 1 ≡ n + (line + 1) = omega arith in
    ap (λ (xs : List LexemeValue). xs ++ lexemes_from (n + line + 1) rs) (row_moved n line r.entry.lexemes)
    ∙ ap (λ (l : ℕ). map (lexeme_below n) row ++ lexemes_from l rs) next
    ∙ ap (λ (xs : List LexemeValue). map (lexeme_below n) row ++ xs) (lexemes_moved n (line + 1) rs)
    ∙ sym (map-append (lexeme_below n) row (lexemes_from (line + 1) rs))

pub lexemes_there : (line : ℕ) (rs : List RecordValue) → lexemes_from line rs ≡ map (lexeme_below line) (lexemes_of rs)
lexemes_there line rs = let e : line ≡ line + 0 = omega arith in ap (λ (l : ℕ). lexemes_from l rs) e ∙ lexemes_moved line 0 rs

pub count_there : (line : ℕ) (rs : List RecordValue) → length (lexemes_from line rs) ≡ length (lexemes_of rs)
count_there line rs = ap (λ (xs : List LexemeValue). length xs) (lexemes_there line rs) ∙ length-map (lexemes_of rs) (lexeme_below line)

pub taken_there : (line counted : ℕ) (rs : List RecordValue) → take counted (lexemes_from line rs) ≡ map (lexeme_below line) (take counted (lexemes_of rs))
taken_there line counted rs = ap (λ (xs : List LexemeValue). take counted xs) (lexemes_there line rs) ∙ take-map (lexeme_below line) counted (lexemes_of rs)

version_stays : (n : ℕ) (xs : List LexemeValue) → is_1_2_document (map (lexeme_below n) xs) ≡ is_1_2_document xs
version_stays n [] = refl
version_stays n (x ∷ xs) = ap (λ b. is_directive x.kind && (is_yaml_1_2 x || b)) (version_stays n xs)

pub version_there : (line : ℕ) (rs : List RecordValue) → is_1_2_document (lexemes_from line rs) ≡ is_1_2_document (lexemes_of rs)
version_there line rs = ap is_1_2_document (lexemes_there line rs) ∙ version_stays line (lexemes_of rs)

-- ---- without their values, and by lines

tokens_moved : (n : ℕ) (xs : List LexemeValue) → map token_of (map (lexeme_below n) xs) ≡ map (token_below n) (map token_of xs)
tokens_moved n [] = refl
tokens_moved n (x ∷ xs) = ap (λ (ts : List Token). token_below n (token_of x) ∷ ts) (tokens_moved n xs)

pub tokens_there : (line : ℕ) (rs : List RecordValue) → tokens_in line rs ≡ map (token_below line) (tokens_in 0 rs)
tokens_there line rs = ap (λ (xs : List LexemeValue). map token_of xs) (lexemes_there line rs) ∙ tokens_moved line (lexemes_of rs)

before_moved : (n : ℕ) (x : Token) (ls : List (List Token)) → before_lines (token_below n x) (rows_below n ls) ≡ rows_below n (before_lines x ls)
before_moved n x [] = refl
before_moved n x ([] ∷ ls) = refl
before_moved n x ((y ∷ ys) ∷ ls) =
    let below : List (List Token) → List (List Token) = rows_below n in
    let same : List (List Token) = (x ∷ y ∷ ys) ∷ ls in
    let other : List (List Token) = (x ∷ []) ∷ (y ∷ ys) ∷ ls in
    ap (λ b. cond b (below same) (below other)) (same_place n x.start.line y.start.line) ∙ choice below (x.start.line == y.start.line) same other _ _ refl refl

lines_moved : (n : ℕ) (xs : List Token) → by_line (map (token_below n) xs) ≡ rows_below n (by_line xs)
lines_moved n [] = refl
lines_moved n (x ∷ xs) = ap (λ (ls : List (List Token)). before_lines (token_below n x) ls) (lines_moved n xs) ∙ before_moved n x (by_line xs)

pub lines_there : (line : ℕ) (rs : List RecordValue) → by_line (tokens_in line rs) ≡ rows_below line (by_line (tokens_in 0 rs))
lines_there line rs = ap by_line (tokens_there line rs) ∙ lines_moved line (tokens_in 0 rs)

-- ---- comments

abbrev end_below : ℕ → LexemeEnd → LexemeEnd
end_below n e = record { line = n + e.line; col = e.col }

last_moved : (n line : ℕ) (last : Option LexemeEnd) (xs : List LexemeValue) → last_lexeme_end (option_map (end_below n) last) (n + line) xs ≡ option_map (end_below n) (last_lexeme_end last line xs)
last_moved n line last [] = refl
last_moved n line last (x ∷ xs) =
    let there : n + line + x.end.line ≡ n + (line + x.end.line) = omega arith in
    ap (λ (l : ℕ). last_lexeme_end (Some (record { line = l; col = x.end.col })) (n + line) xs) there
    ∙ last_moved n line (Some (record { line = line + x.end.line; col = x.end.col })) xs

-- the column of the last lexeme's end, if that is in this line
abbrev end_in : ℕ → Option LexemeEnd → Option ℕ
end_in line last = option_and_then (λ e. then_some (e.line == line) e.col) last

column_stays : (n line : ℕ) (last : Option LexemeEnd) → end_in (n + line) (option_map (end_below n) last) ≡ end_in line last
column_stays n line None = refl
column_stays n line (Some e) = ap (λ b. then_some b e.col) (same_place n e.line line)

abbrev comment_of : ℕ → CommentValue → Option ℕ → PlacedCommentValue
comment_of line c end = record { line = line; column = c.column; text = c.text; behind = end }

comment_moved : (n line : ℕ) (last : Option LexemeEnd) (c : Option CommentValue) → comment_at (n + line) (option_map (end_below n) last) c ≡ map (comment_below n) (comment_at line last c)
comment_moved n line last None = refl
comment_moved n line last (Some c) = ap (λ (end : Option ℕ). comment_of (n + line) c end ∷ []) (column_stays n line last)

pub comments_moved : (n line : ℕ) (last : Option LexemeEnd) (rs : List RecordValue) → comments_from (option_map (end_below n) last) (n + line) rs ≡ map (comment_below n) (comments_from last line rs)
comments_moved n line last [] = refl
comments_moved n line last (r ∷ rs) =
    let end : Option LexemeEnd = last_lexeme_end last line r.entry.lexemes in
    let end' : Option LexemeEnd = option_map (end_below n) end in
    let next : n + line + 1 ≡ n + (line + 1) = omega arith in
    ap (λ (e : Option LexemeEnd). comment_at (n + line) e r.entry.comment ++ comments_from e (n + line + 1) rs) (last_moved n line last r.entry.lexemes)
    ∙ ap (λ (l : ℕ). comment_at (n + line) end' r.entry.comment ++ comments_from end' l rs) next
    ∙ ap (λ (cs : List PlacedCommentValue). cs ++ comments_from end' (n + (line + 1)) rs) (comment_moved n line end r.entry.comment)
    ∙ ap (λ (cs : List PlacedCommentValue). map (comment_below n) (comment_at line end r.entry.comment) ++ cs) (comments_moved n (line + 1) end rs)
    ∙ sym (map-append (comment_below n) (comment_at line end r.entry.comment) (comments_from end (line + 1) rs))
