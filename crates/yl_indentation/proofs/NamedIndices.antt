-- The lexemes that a line's symbols name are the line's own.
use Rattle.std.proofs.Common.{◌≤◌, ◌<◌, ◌+◌, ◌≡◌, ℕ, suc, Bool, true, false, cond, List, [], ◌∷◌, ◌++◌, length, Option, Some, None, refl, ap, arith}
use Rattle.yl_lexeme.specs.Keys.{Spot}
use Rattle.yl_marks.specs.declared.token.Token.{Token}
use Rattle.yl_marks.specs.declared.symbol.Symbol.{Symbol}
use Rattle.yl_marks.specs.declared.symbol.Symbol.TheVariants.{OpenSequence, OpenMapping, BeginKey, Close, One}
use Rattle.yl_marks.specs.declared.symbol.KeyedToken.{KeyedToken}
use Rattle.yl_marks.specs.declared.symbol.KeyStart.{KeyStart}
use Rattle.yl_marks.specs.declared.symbol.OpenBlock.{OpenBlock}
use Rattle.yl_marks.specs.declared.symbol.Marking.{Marking}
use Rattle.yl_marks.specs.Marks.{closes_collection, collections_left, closings, closings_of_all, collection_to_open, opening, key_mark, marks_at, open_behind, marking, marks}
use Rattle.yl_marks.specs.ByLine.{MarkerValue, line_pieces, keyed_tokens_of_line, marks_of_line}
use Rattle.yl_indentation.specs.LineFacts.{NameIndices}

module _ (Is : ℕ → Type 0) where
  pub names_of_both : (ws vs : List Symbol) → NameIndices Is ws → NameIndices Is vs → NameIndices Is (ws ++ vs)
  names_of_both [] vs a b = b
  names_of_both (OpenSequence i ∷ ws) vs a b = (a.0, names_of_both ws vs a.1 b)
  names_of_both (OpenMapping i ∷ ws) vs a b = (a.0, names_of_both ws vs a.1 b)
  names_of_both (BeginKey i ∷ ws) vs a b = names_of_both ws vs a b
  names_of_both (Close ∷ ws) vs a b = names_of_both ws vs a b
  names_of_both (One kind i ∷ ws) vs a b = (a.0, names_of_both ws vs a.1 b)

  -- those that close all collections name none
  pub names_of_closings : (cs : List OpenBlock) → NameIndices Is (closings_of_all cs)
  names_of_closings [] = tt
  names_of_closings (c ∷ cs) = names_of_closings cs

  of_closings : (m : Marking) (cs : List OpenBlock) → NameIndices Is (closings m cs)
  of_closings m [] = tt
  of_closings m (c ∷ cs) = by_case (closes_collection m c) (of_closings m cs)
    where
      by_case : (b : Bool) → NameIndices Is (closings m cs) → NameIndices Is (cond b (Close ∷ closings m cs) [])
      by_case true h = h
      by_case false h = tt

  of_opening : (new : Option Bool) (i : ℕ) → Is i → NameIndices Is (opening new i)
  of_opening None i h = tt
  of_opening (Some true) i h = (h, tt)
  of_opening (Some false) i h = (h, tt)

  of_key : (b : Bool) (i : ℕ) → NameIndices Is (key_mark b i)
  of_key true i = tt
  of_key false i = tt

  of_one : (m : Marking) (i : ℕ) (cs : List OpenBlock) → Is i → NameIndices Is (marks_at m i cs)
  of_one m i cs h =
      let new = collection_to_open m (collections_left m cs) in
      names_of_both (closings m cs ++ opening new i ++ key_mark m.begins_key i) (One m.piece.kind i ∷ [])
      (names_of_both (closings m cs ++ opening new i) (key_mark m.begins_key i) (names_of_both (closings m cs) (opening new i) (of_closings m cs) (of_opening new i h)) (of_key m.begins_key i))
      (h, tt)

  of_marks : (all : List KeyedToken) (cs : List OpenBlock) (i : ℕ) (xs : List KeyedToken) → ((j : ℕ) → i ≤ j → j < i + length xs → Is j) → NameIndices Is (marks all cs i xs)
  of_marks all cs i [] h = tt
  of_marks all cs i (x ∷ xs) h =
      let m = marking all i x in
      names_of_both (marks_at m i cs) _ (of_one m i cs (h i (omega arith) (omega arith)))
      (of_marks all (open_behind m cs) (suc i) xs (λ j l k. h j (omega arith) (omega arith)))

  of_line : (b : MarkerValue) (xs : List Token) → ((j : ℕ) → b.count ≤ j → j < b.count + length xs → Is j) → NameIndices Is (marks_of_line b xs)
  of_line b xs h =
      let n : length (keyed_tokens_of_line b xs) ≡ length xs = pieces_len b.count b.depth b.latest [] xs in
      of_marks (keyed_tokens_of_line b xs) b.open_ones b.count (keyed_tokens_of_line b xs) (λ j l k. h j l (omega (arith, n, k)))
    where
      pieces_len : (count depth : ℕ) (latest : Option KeyedToken) (line : List (Spot KeyStart)) (ts : List Token) → length (line_pieces count depth latest line ts) ≡ length ts
      pieces_len count depth latest line [] = refl
      pieces_len count depth latest line (t ∷ ts) = ap suc (pieces_len (suc count) _ _ _ ts)

-- the marks of a line, as `FactReader::read_line` asks
pub names_of_line : (b : MarkerValue) (xs : List Token) (first count : ℕ) → b.count ≡ first → count ≡ length xs
    → NameIndices (λ i. (first ≤ i) × (i < first + count)) (marks_of_line b xs)
names_of_line b xs first count at many =
    of_line (λ i. (first ≤ i) × (i < first + count)) b xs (λ j l h. (omega (arith, at, l), omega (arith, at, many, h)))
