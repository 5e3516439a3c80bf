-- The index of the first lexeme of a row.
use Rattle.std.proofs.Common.{◌≡◌, ◌<◌, ℕ, suc, Bool, true, false, cond, List, [], ◌∷◌, ◌++◌, Option, Some, None, length, refl, ◌∙◌, ap, append_assoc, arith}
use Rattle.std.specs.Prelude.{if◌then◌else◌}
use Rattle.yl_marks.specs.declared.symbol.KeyedToken.{KeyedToken}
use Rattle.yl_marks.specs.declared.symbol.Marking.{Marking}
use Rattle.yl_marks.specs.declared.symbol.OpenBlock.{OpenBlock}
use Rattle.yl_marks.specs.declared.symbol.Symbol.{Symbol}
use Rattle.yl_marks.specs.declared.symbol.Symbol.TheVariants.{Close, One}
use Rattle.yl_marks.specs.declared.token.Token.{Token}
use Rattle.yl_marks.specs.Marks.{closes_collection, closings, collection_to_open, collections_left, key_mark, marking, marks, marks_at, open_behind, opening}
use Rattle.yl_marks.specs.ByLine.{MarkerValue, keyed_tokens_of_line, marks_of_line}
use Rattle.yl_events.proofs.Counts.{line_pieces_count}
use Rattle.yl_sections.specs.RowReading.{first_index}

after_closings : (m : Marking) (cs : List OpenBlock) (vs : List Symbol) → first_index (closings m cs ++ vs) ≡ first_index vs
after_closings m [] vs = refl
after_closings m (c ∷ cs) vs = by_case (closes_collection m c) (after_closings m cs vs)
  where
    by_case : (b : Bool) → first_index (closings m cs ++ vs) ≡ first_index vs → first_index (cond b (Close ∷ closings m cs) [] ++ vs) ≡ first_index vs
    by_case true h = h
    by_case false h = refl

after_opening : (new : Option Bool) (i : ℕ) (vs : List Symbol) → first_index (opening new i ++ vs) ≡ first_index vs
after_opening None i vs = refl
after_opening (Some true) i vs = refl
after_opening (Some false) i vs = refl

after_key : (b : Bool) (i : ℕ) (vs : List Symbol) → first_index (key_mark b i ++ vs) ≡ first_index vs
after_key true i vs = refl
after_key false i vs = refl

first_at : (m : Marking) (i : ℕ) (cs : List OpenBlock) (rest : List Symbol) → first_index (marks_at m i cs ++ rest) ≡ i
first_at m i cs rest =
    let new = collection_to_open m (collections_left m cs) in
    let key = key_mark m.begins_key i in
    let one = One m.piece.kind i ∷ [] in
    ap first_index (append_assoc (closings m cs ++ opening new i ++ key) one rest ∙ (append_assoc (closings m cs ++ opening new i) key (one ++ rest) ∙ append_assoc (closings m cs) (opening new i) (key ++ (one ++ rest))))
    ∙ (after_closings m cs (opening new i ++ (key ++ (one ++ rest)))
    ∙ (after_opening new i (key ++ (one ++ rest)) ∙ after_key m.begins_key i (one ++ rest)))

first_mark : (all : List KeyedToken) (cs : List OpenBlock) (i : ℕ) (ps : List KeyedToken) → 0 < length ps → first_index (marks all cs i ps) ≡ i
first_mark all cs i [] h = absurd (omega (arith, h))
first_mark all cs i (p ∷ ps) h = first_at (marking all i p) i cs (marks all (open_behind (marking all i p) cs) (suc i) ps)

pub first_of_line : (b : MarkerValue) (xs : List Token) → 0 < length xs → first_index (marks_of_line b xs) ≡ b.count
first_of_line b xs h =
    first_mark (keyed_tokens_of_line b xs) b.open_ones b.count (keyed_tokens_of_line b xs) (omega (arith, h, line_pieces_count b.count b.depth b.latest [] xs))

-- ---- the number of lexemes before a row

pub first_is : (known : Bool) (count n : ℕ) (ws : List Symbol) → (known ≡ true → count ≡ n) → first_index ws ≡ n → (if known then count else first_index ws) ≡ n
first_is true count n ws a e = a refl
first_is false count n ws a e = e
