-- The marked document has the document's lexemes.
use Rattle.std.specs.Prelude.{ℕ, suc, ◌≡◌, ◌≤◌, ◌+◌, refl, Bool, true, false, List, [], ◌∷◌, ◌++◌, length, map, Option, Some, None, if◌then◌else◌}
use Rattle.std.proofs.Common.{◌∙◌, ap, arith}
use Rattle.std.proofs.lemmas.List.{length-map}
use Rattle.yl_lexeme.specs.Lexeme.{LexemeValue}
use Rattle.yl_marks.specs.declared.symbol.Symbol.{Symbol}
use Rattle.yl_marks.specs.declared.symbol.Symbol.TheVariants.{Close, One}
use Rattle.yl_marks.specs.declared.symbol.KeyedToken.{KeyedToken}
use Rattle.yl_marks.specs.declared.symbol.OpenBlock.{OpenBlock}
use Rattle.yl_marks.specs.declared.symbol.Marking.{Marking}
use Rattle.yl_marks.specs.declared.symbol.KeyStart.{KeyStart}
use Rattle.yl_marks.specs.declared.token.Token.{Token}
use Rattle.yl_lexeme.specs.declared.lexeme.Kind.{Kind}
use Rattle.yl_lexeme.specs.Keys.{Spot}
use Rattle.yl_marks.specs.Keys.{token_of, keyed_token, keyed_tokens}
use Rattle.yl_marks.specs.ByLine.{MarkerValue, line_pieces, keyed_tokens_of_line, marks_of_line}
use Rattle.yl_marks.specs.Marks.{closes_collection, collections_left, closings, collection_to_open, opening, key_mark, closings_of_all, marks_at, open_behind, marking, marks, open_behind_all, symbols_of_lexemes}
use Rattle.yl_events.specs.Derives.{lexeme_count, HasFaultAt}
use Rattle.yl_events.specs.SymbolParsing.{is_whole}

count-append : (a b : List Symbol) → lexeme_count (a ++ b) ≡ lexeme_count a + lexeme_count b
count-append [] b = omega arith
count-append (One kind s ∷ a) b = omega (arith, count-append a b)
count-append (x ∷ a) b = count-append a b

pub all_closed_count : (cs : List OpenBlock) → lexeme_count (closings_of_all cs) ≡ 0
all_closed_count [] = refl
all_closed_count (c ∷ cs) = all_closed_count cs

closings_count : (m : Marking) (cs : List OpenBlock) → lexeme_count (closings m cs) ≡ 0
closings_count m [] = refl
closings_count m (c ∷ cs) = go (closes_collection m c) (closings_count m cs)
  where
    go : (b : Bool) → lexeme_count (closings m cs) ≡ 0 → lexeme_count (if b then Close ∷ closings m cs else []) ≡ 0
    go true e = e
    go false e = refl

opening_count : (new : Option Bool) (i : ℕ) → lexeme_count (opening new i) ≡ 0
opening_count None i = refl
opening_count (Some true) i = refl
opening_count (Some false) i = refl

key_count : (b : Bool) (i : ℕ) → lexeme_count (key_mark b i) ≡ 0
key_count true i = refl
key_count false i = refl

marks_at_count : (m : Marking) (i : ℕ) (cs : List OpenBlock) → lexeme_count (marks_at m i cs) ≡ 1
marks_at_count m i cs =
    let new = collection_to_open m (collections_left m cs) in
    omega (
      arith,
      count-append (closings m cs ++ opening new i ++ key_mark m.begins_key i) (One m.piece.kind i ∷ []),
      count-append (closings m cs ++ opening new i) (key_mark m.begins_key i),
      count-append (closings m cs) (opening new i),
      closings_count m cs,
      opening_count new i,
      key_count m.begins_key i,
    )

marks_count : (all : List KeyedToken) (cs : List OpenBlock) (i : ℕ) (xs : List KeyedToken) → lexeme_count (marks all cs i xs) ≡ length xs
marks_count all cs i [] = refl
marks_count all cs i (x ∷ xs) =
    let m : Marking = marking all i x in
    omega (
      arith,
      count-append (marks_at m i cs) (marks all (open_behind m cs) (suc i) xs),
      marks_at_count m i cs,
      marks_count all (open_behind m cs) (suc i) xs,
    )

pieces_count : (before : List KeyedToken) (xs : List Token) → length (keyed_tokens before xs) ≡ length xs
pieces_count before [] = refl
pieces_count before (x ∷ xs) = ap suc (pieces_count (keyed_token x before ∷ before) xs)

marked_count : (xs : List LexemeValue) → lexeme_count (symbols_of_lexemes xs) ≡ length xs
marked_count xs =
    let all = keyed_tokens [] (map token_of xs) in
    omega (
      arith,
      count-append (marks all [] 0 all) (closings_of_all (open_behind_all all [] 0 all)),
      marks_count all [] 0 all,
      all_closed_count (open_behind_all all [] 0 all),
      pieces_count [] (map token_of xs),
      length-map xs token_of,
    )

-- a fault stands at a lexeme or behind the last one
pub fault_inside : (xs : List LexemeValue) (i : ℕ) → HasFaultAt (symbols_of_lexemes xs) i → i ≤ length xs
fault_inside xs i f = let inside : i ≤ lexeme_count (symbols_of_lexemes xs) = f.inside in omega (arith, inside, marked_count xs)

-- ---- a line's lexemes

pub line_pieces_count : (count depth : ℕ) (latest : Option KeyedToken) (line : List (Spot KeyStart)) (xs : List Token) → length (line_pieces count depth latest line xs) ≡ length xs
line_pieces_count count depth latest line [] = refl
line_pieces_count count depth latest line (x ∷ xs) = ap suc (line_pieces_count (suc count) _ _ _ xs)

pub line_count : (b : MarkerValue) (xs : List Token) → lexeme_count (marks_of_line b xs) ≡ length xs
line_count b xs = marks_count (keyed_tokens_of_line b xs) b.open_ones b.count (keyed_tokens_of_line b xs) ∙ line_pieces_count b.count b.depth b.latest [] xs

-- no mark stands behind the last lexeme of a line
whole_on : (b : Bool) (ms rest : List Symbol) (kind : Kind) (i : ℕ) → is_whole b (ms ++ One kind i ∷ [] ++ rest) ≡ is_whole true rest
whole_on b [] rest kind i = refl
whole_on b (One k j ∷ ms) rest kind i = whole_on true ms rest kind i
whole_on b (w ∷ ms) rest kind i = whole_on false ms rest kind i

marks_whole : (all : List KeyedToken) (cs : List OpenBlock) (i : ℕ) (xs : List KeyedToken) → is_whole true (marks all cs i xs) ≡ true
marks_whole all cs i [] = refl
marks_whole all cs i (x ∷ xs) =
    let m : Marking = marking all i x in
    whole_on true (closings m cs ++ opening (collection_to_open m (collections_left m cs)) i ++ key_mark m.begins_key i) (marks all (open_behind m cs) (suc i) xs) x.kind i
    ∙ marks_whole all (open_behind m cs) (suc i) xs

pub line_whole : (b : MarkerValue) (xs : List Token) → is_whole true (marks_of_line b xs) ≡ true
line_whole b xs = marks_whole (keyed_tokens_of_line b xs) b.open_ones b.count (keyed_tokens_of_line b xs)
