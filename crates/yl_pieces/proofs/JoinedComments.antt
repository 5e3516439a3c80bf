-- The comments of rows, and then those of the rows after them.
use Rattle.std.proofs.Common.{◌≡◌, ◌≤◌, ◌<◌, ◌+◌, ℕ, Bool, List, [], ◌∷◌, ◌++◌, length, Option, Some, None, refl, sym, ◌∙◌, ap, append_assoc, arith}
use Rattle.std.specs.Prelude.{IfSome}
use Rattle.std.specs.Bool.{then_some}
use Rattle.std.specs.List.{AllByRecursion}
use Rattle.std.proofs.lemmas.Bool.{ne_eqb}
use Rattle.yl_lexeme.specs.Lexeme.{CommentValue, LexemeValue, PlacedCommentValue}
use Rattle.yl_record.specs.Records.{RecordValue}
use Rattle.yl_sections.specs.declared.comments.LexemeEnd.{LexemeEnd}
use Rattle.yl_sections.specs.Judging.{end_after}
use Rattle.yl_sections.specs.Kept.{comment_at, comments_from, last_lexeme_end}
use Rattle.yl_pieces.specs.Laws.{AreClosed}

-- the last lexeme ends above this line
abbrev EndsAbove : ℕ → Option LexemeEnd → Type 0
EndsAbove line last = IfSome last (λ (e : LexemeEnd). e.line < line)

row_ends : (line high rows : ℕ) (last : Option LexemeEnd) (xs : List LexemeValue) → AllByRecursion (λ x. x.end.line < rows) xs → line + rows ≤ high → EndsAbove high last
    → EndsAbove high (last_lexeme_end last line xs)
row_ends line high rows last [] c h a = a
row_ends line high rows last (x ∷ xs) c h a = row_ends line high rows (Some (record { line = line + x.end.line; col = x.end.col })) xs c.1 h (omega (arith, h, c.0))

rows_end : (line high : ℕ) (last : Option LexemeEnd) (rs : List RecordValue) → AreClosed rs → line + length rs ≤ high → EndsAbove high last → EndsAbove high (end_after last line rs)
rows_end line high last [] c h a = a
rows_end line high last (r ∷ rs) c h a =
    rows_end (line + 1) high (last_lexeme_end last line r.entry.lexemes) rs c.1 (omega (arith, h)) (row_ends line high (length (r ∷ rs)) last r.entry.lexemes c.0 h a)

abbrev comment_with : ℕ → CommentValue → Option ℕ → List PlacedCommentValue
comment_with line c near = record { line = line; column = c.column; text = c.text; behind = near } ∷ []

not_near : (line : ℕ) (e : LexemeEnd) (c : Option CommentValue) → e.line < line → comment_at line (Some e) c ≡ comment_at line None c
not_near line e None h = refl
not_near line e (Some c) h = ap (λ (b : Bool). comment_with line c (then_some b e.col)) (ne_eqb e.line line (λ same. absurd (omega (arith, h, same))))

-- a lexeme that ends above has no part in the comments
comments_apart : (line : ℕ) (e : LexemeEnd) (rs : List RecordValue) → e.line < line → comments_from (Some e) line rs ≡ comments_from None line rs
comments_apart line e [] h = refl
comments_apart line e (r ∷ rs) h = by_row r.entry.lexemes h (comments_apart (line + 1) e rs (omega (arith, h)))
  where
    by_row : (xs : List LexemeValue) → e.line < line → comments_from (Some e) (line + 1) rs ≡ comments_from None (line + 1) rs
        → comment_at line (last_lexeme_end (Some e) line xs) r.entry.comment ++ comments_from (last_lexeme_end (Some e) line xs) (line + 1) rs
        ≡ comment_at line (last_lexeme_end None line xs) r.entry.comment ++ comments_from (last_lexeme_end None line xs) (line + 1) rs
    by_row [] h g =
        ap (λ (cs : List PlacedCommentValue). cs ++ comments_from (Some e) (line + 1) rs) (not_near line e r.entry.comment h)
        ∙ ap (λ (cs : List PlacedCommentValue). comment_at line None r.entry.comment ++ cs) g
    by_row (x ∷ xs) h g = refl

none_near : (line : ℕ) (last : Option LexemeEnd) (rs : List RecordValue) → EndsAbove line last → comments_from last line rs ≡ comments_from None line rs
none_near line None rs h = refl
none_near line (Some e) rs h = comments_apart line e rs h

both : (last : Option LexemeEnd) (line : ℕ) (front rest : List RecordValue)
    → comments_from last line (front ++ rest) ≡ comments_from last line front ++ comments_from (end_after last line front) (line + length front) rest
both last line [] rest = let here : line ≡ line + 0 = omega arith in ap (λ (k : ℕ). comments_from last k rest) here
both last line (r ∷ front) rest =
    let end = last_lexeme_end last line r.entry.lexemes in
    let here = comment_at line end r.entry.comment in
    let next : line + 1 + length front ≡ line + length (r ∷ front) = omega arith in
    let below = end_after end (line + 1) front in
    ap (λ (cs : List PlacedCommentValue). here ++ cs) (both end (line + 1) front rest ∙ ap (λ (k : ℕ). comments_from end (line + 1) front ++ comments_from below k rest) next)
    ∙ sym (append_assoc here (comments_from end (line + 1) front) (comments_from below (line + length (r ∷ front)) rest))

pub comments_joined : (line : ℕ) (front rest : List RecordValue) → AreClosed front
    → comments_from None line (front ++ rest) ≡ comments_from None line front ++ comments_from None (line + length front) rest
comments_joined line front rest c =
    both None line front rest
    ∙ ap (λ (cs : List PlacedCommentValue). comments_from None line front ++ cs) (none_near (line + length front) (end_after None line front) rest (rows_end line (line + length front) None front c (omega arith) tt))
