-- What a row gives from a place on, by what stands there.
use Rattle.std.proofs.Common.{◌≡◌, ℕ, zero, suc, ◌+◌, ◌-◌, ◌<◌, Bool, true, false, ◌&&◌, List, [], ◌∷◌, length, take, drop, max, length-drop, get_or, drop-cons, add-one, add-zero, Option, Some, refl, ap, sym, ◌∙◌, eqb, lt-ltb, arith}
use Rattle.std.proofs.Math.Seq.{take-length}
use Rattle.std.proofs.Math.Dec.{eqb-suc-zero}
use Rattle.std.proofs.lemmas.List.{drop-drop}
use Rattle.yl_text.specs.Character.{is_white}
use Rattle.yl_row.specs.Step.{found_at, bad_in}
use Rattle.yl_lexeme.specs.Known.{SurroundingsValue, context_of, new_row, surroundings_at, no_surroundings}
use Rattle.yl_row.specs.Entries.{comment_or, comment_of}
use Rattle.yl_row.specs.Run.{lexeme_reading_by, row_reading_by}
use Rattle.yl_row.specs.Sign.{sign_at, sign_found}
use Rattle.yl_row.proofs.Signs.{found_sign}
use Rattle.yl_lexeme.specs.declared.lexeme.Kind.{Kind}

read_skip : (rows : List (List ℕ)) (tab : Option ℕ) (skip : ℕ) (bs first : Bool) (at : ℕ) (k : SurroundingsValue) (c : ℕ) (cs : List ℕ) → 0 < skip
    → row_reading_by rows tab skip bs first at k (c ∷ cs) ≡ row_reading_by rows tab (skip - 1) false first (at + 1) k cs
read_skip rows tab skip bs first at k c cs h = rw (lt-ltb 0 skip h) refl

read_white : (rows : List (List ℕ)) (tab : Option ℕ) (bs first : Bool) (at : ℕ) (k : SurroundingsValue) (c : ℕ) (cs : List ℕ) → is_white c ≡ true
    → row_reading_by rows tab 0 bs first at k (c ∷ cs) ≡ row_reading_by rows tab 0 true first (at + 1) k cs
read_white rows tab bs first at k c cs w = rw w refl

read_comment : (rows : List (List ℕ)) (tab : Option ℕ) (bs first : Bool) (at : ℕ) (k : SurroundingsValue) (c : ℕ) (cs : List ℕ) → is_white c ≡ false → (eqb c 35 && bs) ≡ true
    → row_reading_by rows tab 0 bs first at k (c ∷ cs) ≡ comment_or (comment_of at (c ∷ cs)) (new_row k) no_surroundings (bad_in at (c ∷ cs))
read_comment rows tab bs first at k c cs w b = rw (w, b) refl

read_lexeme : (rows : List (List ℕ)) (tab : Option ℕ) (bs first : Bool) (at : ℕ) (k : SurroundingsValue) (c : ℕ) (cs : List ℕ) → is_white c ≡ false → (eqb c 35 && bs) ≡ false
    → row_reading_by rows tab 0 bs first at k (c ∷ cs)
    ≡ lexeme_reading_by tab first at (surroundings_at first at k) (λ skip k. row_reading_by rows tab skip false false (at + 1) k cs) (found_at rows tab first at (context_of (surroundings_at first at k)) c cs)
read_lexeme rows tab bs first at k c cs w b = rw (w, b) refl

-- ---- the same at a place of a row, where the character c was read

drop_here : (xs : List ℕ) (i c : ℕ) → i < length xs → c ≡ get_or xs i c → drop i xs ≡ c ∷ drop (i + 1) xs
drop_here xs i c lt read = rw add-one (drop-cons xs i c lt ∙ ap (λ x. x ∷ drop (suc i) xs) (sym read))

-- the rest of a row, as a slice
pub rest_of : (xs : List ℕ) (i : ℕ) → take (length xs - i) (drop i xs) ≡ drop i xs
rest_of xs i = ap (λ n. take n (drop i xs)) (sym (length-drop i xs)) ∙ take-length (drop i xs)

module _ (rows : List (List ℕ)) (tab : Option ℕ) (bs first : Bool) (at : ℕ) (k : SurroundingsValue) (row : List ℕ) (c : ℕ)
    (lt : at < length row) (is : c ≡ get_or row at c) where
  pub at_white : is_white c ≡ true → row_reading_by rows tab 0 bs first at k (drop at row) ≡ row_reading_by rows tab 0 true first (at + 1) k (drop (at + 1) row)
  at_white w = ap (row_reading_by rows tab 0 bs first at k) (drop_here row at c lt is) ∙ read_white rows tab bs first at k c (drop (at + 1) row) w

  pub at_comment : is_white c ≡ false → (eqb c 35 && bs) ≡ true
      → row_reading_by rows tab 0 bs first at k (drop at row) ≡ comment_or (comment_of at (drop at row)) (new_row k) no_surroundings (bad_in at (drop at row))
  at_comment w b =
      ap (row_reading_by rows tab 0 bs first at k) (drop_here row at c lt is)
      ∙ read_comment rows tab bs first at k c (drop (at + 1) row) w b
      ∙ ap (λ cs. comment_or (comment_of at cs) (new_row k) no_surroundings (bad_in at cs)) (sym (drop_here row at c lt is))

  -- k': at the place. rest: what stands behind the character, as a slice
  pub at_lexeme : (k' : SurroundingsValue) → k' ≡ surroundings_at first at k → is_white c ≡ false → (eqb c 35 && bs) ≡ false
      → row_reading_by rows tab 0 bs first at k (drop at row)
      ≡ lexeme_reading_by tab first at k' (λ skip k. row_reading_by rows tab skip false false (at + 1) k (drop (at + 1) row)) (found_at rows tab first at (context_of k') c (take (length row - (at + 1)) (drop (at + 1) row)))
  at_lexeme k' e w b =
      ap (row_reading_by rows tab 0 bs first at k) (drop_here row at c lt is)
      ∙ read_lexeme rows tab bs first at k c (drop (at + 1) row) w b
      ∙ ap (λ k. lexeme_reading_by tab first at k (λ skip k. row_reading_by rows tab skip false false (at + 1) k (drop (at + 1) row)) (found_at rows tab first at (context_of k) c (drop (at + 1) row))) (sym e)
      ∙ ap (λ cs. lexeme_reading_by tab first at k' (λ skip k. row_reading_by rows tab skip false false (at + 1) k (drop (at + 1) row)) (found_at rows tab first at (context_of k') c cs)) (sym (rest_of row (at + 1)))

  pub at_sign : (k' : SurroundingsValue) → k' ≡ surroundings_at first at k → is_white c ≡ false → (eqb c 35 && bs) ≡ false → (kind : Kind) → Some kind ≡ sign_at (context_of k') c (take (length row - (at + 1)) (drop (at + 1) row))
      → row_reading_by rows tab 0 bs first at k (drop at row)
      ≡ lexeme_reading_by tab first at k' (λ skip k. row_reading_by rows tab skip false false (at + 1) k (drop (at + 1) row)) (sign_found tab first at (context_of k') kind)
  at_sign k' e w b kind h =
      at_lexeme k' e w b
      ∙ ap (lexeme_reading_by tab first at k' (λ skip k. row_reading_by rows tab skip false false (at + 1) k (drop (at + 1) row))) (found_sign rows tab first at (context_of k') c (take (length row - (at + 1)) (drop (at + 1) row)) kind (sym h))

-- ---- what a lexeme still has of the row is passed at once

no_more : (b : Bool) → (b && false) ≡ false
no_more true = refl
no_more false = refl

module _ (rows : List (List ℕ)) (tab : Option ℕ) (first : Bool) (k : SurroundingsValue) where
  one_more : (n : ℕ) (bs : Bool) (at c : ℕ) (cs : List ℕ) → row_reading_by rows tab n false first (at + 1) k cs ≡ row_reading_by rows tab 0 false first (at + 1 + n) k (drop n cs)
      → row_reading_by rows tab (suc n) bs first at k (c ∷ cs) ≡ row_reading_by rows tab 0 false first (at + suc n) k (drop n cs)
  one_more n bs at c cs h =
      read_skip rows tab (suc n) bs first at k c cs (omega arith)
      ∙ ap (λ m. row_reading_by rows tab m false first (at + 1) k cs) (omega arith) ∙ h
      ∙ ap (λ m. row_reading_by rows tab 0 false first m k (drop n cs)) (omega arith)

  read_behind : (n at : ℕ) (cs : List ℕ) → row_reading_by rows tab n false first at k cs ≡ row_reading_by rows tab 0 false first (at + n) k (drop n cs)
  read_behind zero at cs = rw add-zero refl
  read_behind (suc n) at [] = refl
  read_behind (suc n) at (c ∷ cs) = one_more n false at c cs (read_behind n (at + 1) cs)

  pub read_from : (n : ℕ) (bs : Bool) (row : List ℕ) → row_reading_by rows tab n bs first 0 k row ≡ row_reading_by rows tab 0 (bs && eqb n 0) first n k (drop n row)
  read_from zero true row = refl
  read_from zero false row = refl
  read_from (suc n) bs [] = refl
  read_from (suc n) bs (c ∷ cs) =
      one_more n bs 0 c cs (read_behind n 1 cs) ∙ ap (λ m. row_reading_by rows tab 0 false first m k (drop n cs)) (omega arith)
      ∙ ap (λ b. row_reading_by rows tab 0 b first (suc n) k (drop n cs)) (sym (ap (λ b. bs && b) (eqb-suc-zero n) ∙ no_more bs))

  pub behind_column : (column at : ℕ) (row : List ℕ)
      → row_reading_by rows tab (column - at - 1) false first (at + 1) k (drop (at + 1) row) ≡ row_reading_by rows tab 0 false first (max column (at + 1)) k (drop (max column (at + 1)) row)
  behind_column column at row =
      let e : at + 1 + (column - at - 1) ≡ max column (at + 1) = omega arith in
      read_behind (column - at - 1) (at + 1) (drop (at + 1) row)
      ∙ ap (row_reading_by rows tab 0 false first (at + 1 + (column - at - 1)) k) (drop-drop (column - at - 1) (at + 1) row)
      ∙ ap (λ n. row_reading_by rows tab 0 false first n k (drop n row)) e
