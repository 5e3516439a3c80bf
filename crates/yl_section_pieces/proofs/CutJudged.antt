-- Borders that are found one after another.
use Rattle.std.proofs.Common.{◌≡◌, ◌<◌, ◌≤◌, ◌+◌, ◌==◌, ℕ, false, List, [], ◌∷◌, ◌++◌, drop, length, take, refl, sym, ap, subst, arith}
use Rattle.std.proofs.lemmas.List.{drop_at, length-append, take_at}
use Rattle.yl_lexeme.specs.Lexeme.{LexemeValue}
use Rattle.yl_record.specs.Records.{RecordValue}
use Rattle.yl_section_pieces.specs.declared.borders.Border.{Border}
use Rattle.yl_section_pieces.specs.Pieces.{BeginsWithLexeme, IsStateAfter}
use Rattle.yl_section_pieces.specs.Borders.{AreBorders, AreDue, last_row}

-- a row that is not empty
pub some_lexeme : (xs ls : List LexemeValue) → xs ≡ ls → false ≡ (length xs == 0) → 0 < length ls
some_lexeme [] ls e empty = absurd (cc)
some_lexeme (x ∷ xs) ls e empty = let many : length ls ≡ length (x ∷ xs) = ap (λ (zs : List LexemeValue). length zs) (sym e) in omega (arith, many)

module _ {A : Type 0} where
  last_more : (low : ℕ) (bs : List (Border A)) (b : Border A) → last_row low (bs ++ b ∷ []) ≡ b.row
  last_more low [] b = refl
  last_more low (a ∷ bs) b = last_more a.row bs b

  borders_more : (rs : List RecordValue) (low : ℕ) (bs : List (Border A)) (b : Border A)
      → AreBorders rs low bs → last_row low bs < b.row → b.row < length rs → IsStateAfter (take b.row rs) b.state → BeginsWithLexeme (drop b.row rs) → AreBorders rs low (bs ++ b ∷ [])
  borders_more rs low [] b h above below there lexeme = (above, below, there, lexeme, tt)
  borders_more rs low (a ∷ bs) b h above below there lexeme = (h.0, h.1, h.2, h.3, borders_more rs a.row bs b h.4 above below there lexeme)

  -- the next border, after these rows
  pub due_more : (front : List RecordValue) (r : RecordValue) (rest : List RecordValue) (due next : ℕ) (bs : List (Border A)) (b : Border A)
      → 0 < length r.entry.lexemes → AreDue (front ++ r ∷ rest) due bs → due ≤ b.row → b.row ≡ length front → b.row < next → IsStateAfter front b.state → AreDue (front ++ r ∷ rest) next (bs ++ b ∷ [])
  due_more front r rest due next bs b lexeme h late at soon there =
      let last : last_row 0 bs < b.row = omega (arith, h.last, late) in
      let all = front ++ r ∷ rest in
      let many : length all ≡ length front + length (r ∷ rest) = length-append front (r ∷ rest) in
      let inside : b.row < length all = omega (arith, at, many) in
      let rows : take b.row all ≡ front = take_at front (r ∷ rest) b.row (sym at) in
      let below : drop b.row all ≡ r ∷ rest = drop_at front (r ∷ rest) b.row (sym at) in
      let more : last_row 0 (bs ++ b ∷ []) ≡ b.row = last_more 0 bs b in
      record {
        borders = borders_more all 0 bs b h.borders last inside (subst (λ (rs : List RecordValue). IsStateAfter rs b.state) (sym rows) there) (subst BeginsWithLexeme (sym below) lexeme);
        last = omega (arith, more, soon);
      }
