-- Meaning: the marks of a document: where block collections open and close, by the columns of their
-- lexemes (YAML 1.2.2, 8.2).
use Rattle.std.specs.Prelude.{ℕ, suc, ◌≡◌, ◌<◌, ◌+◌, Bool, true, false, not, ◌&&◌, ◌||◌, ◌==◌, nat_lt, if◌then◌else◌, List, [], ◌∷◌, ◌++◌, map, Option, Some, None, is_some, slice_get, slice_index_or, length}
use Rattle.std.specs.List.{list_any}
use Rattle.std.specs.Option.{option_map_or}
use Rattle.yl_lexeme.specs.Lexeme.{LexemeValue, is_document_marker, is_entry, is_key, is_value}
use Rattle.yl_marks.specs.declared.symbol.Symbol.{Symbol}
use Rattle.yl_marks.specs.declared.symbol.Symbol.TheVariants.{OpenSequence, OpenMapping, BeginKey, Close, One}
use Rattle.yl_marks.specs.declared.symbol.KeyedToken.{KeyedToken}
use Rattle.yl_marks.specs.declared.symbol.OpenBlock.{OpenBlock}
use Rattle.yl_marks.specs.declared.symbol.Marking.{Marking}
use Rattle.yl_marks.specs.declared.symbol.Collection.TheVariants.{Sequence, Mapping}
use Rattle.yl_marks.specs.declared.symbol.Marked.{Marked}
use Rattle.yl_marks.specs.declared.symbol.Marked.TheVariants as is
use Rattle.yl_marks.specs.declared.token.Token.{Token}
use Rattle.yl_marks.specs.Keys.{token_of, keyed_tokens}

-- the lexeme belongs to a mapping in its column
abbrev pub is_in_mapping : Marking → Bool
is_in_mapping m = m.begins_key || is_key m.piece.kind || (is_value m.piece.kind && not (is_some m.piece.key))

-- the lexeme continues a collection in its column
abbrev pub continues : Marking → OpenBlock → Bool
continues m c = is_entry m.piece.kind || (c.is_mapping && is_in_mapping m)

-- the lexeme closes the collection
abbrev pub closes_collection : Marking → OpenBlock → Bool
closes_collection m c =
    is_document_marker m.piece.kind || (m.piece.depth == 0 && m.piece.is_first
    && (nat_lt m.piece.start.col c.column || (c.column == m.piece.start.col && not (continues m c))))

-- the collections that the lexeme leaves open, the innermost first, and a Close for each of the
-- others (`closings`)
abbrev pub collections_left : Marking → List OpenBlock → List OpenBlock
collections_left m [] = []
collections_left m (c ∷ cs) = if closes_collection m c then collections_left m cs else c ∷ cs

abbrev pub closings : Marking → List OpenBlock → List Symbol
closings m [] = []
closings m (c ∷ cs) = if closes_collection m c then Close ∷ closings m cs else []

-- the innermost collection has this column, and is a mapping if `only_mapping` is true
abbrev pub is_in : Bool → ℕ → List OpenBlock → Bool
is_in only_mapping column [] = false
is_in only_mapping column (c ∷ cs) = c.column == column && (c.is_mapping || not only_mapping)

-- what opens before the lexeme: nothing, a mapping (true) or a sequence (false)
abbrev pub collection_to_open : Marking → List OpenBlock → Option Bool
collection_to_open m cs =
    if nat_lt 0 m.piece.depth || is_document_marker m.piece.kind then None
    else if is_in_mapping m && not (is_in true m.piece.start.col cs) then Some true
    else if is_entry m.piece.kind && not (is_in false m.piece.start.col cs) then Some false else None

abbrev pub with_collection : Option Bool → ℕ → List OpenBlock → List OpenBlock
with_collection None column cs = cs
with_collection (Some mapping) column cs = record { is_mapping = mapping; column = column } ∷ cs

abbrev pub opening : Option Bool → ℕ → List Symbol
opening new i = option_map_or (λ mapping. if mapping then OpenMapping i ∷ [] else OpenSequence i ∷ []) new []

-- the lexeme of this index is the one at which this key begins
abbrev pub is_at : ℕ → Option ℕ → Bool
is_at i key = option_map_or (λ k. k == i) key false

abbrev pub begins_key : ℕ → List KeyedToken → Bool
begins_key i xs = list_any (λ p. is_at i p.key) xs

-- for each lexeme from this index on, whether a key begins at it
pub record AreBegins (begins : List Bool) (first : ℕ) (xs : List KeyedToken) : Type 0 where
  pub len : length begins ≡ length xs
  pub each : (i : ℕ) → i < length xs → slice_index_or begins i false ≡ begins_key (first + i) xs

abbrev pub key_mark : Bool → ℕ → List Symbol
key_mark begins i = if begins then BeginKey i ∷ [] else []

abbrev pub closings_of_all : List OpenBlock → List Symbol
closings_of_all cs = map (λ c. Close) cs

-- a lexeme of this index with the marks before it, and the collections that are open after it
-- (`open_behind`)
abbrev pub marks_at : Marking → ℕ → List OpenBlock → List Symbol
marks_at m i open_ones =
    closings m open_ones ++ opening (collection_to_open m (collections_left m open_ones)) i ++ key_mark m.begins_key i ++ One m.piece.kind i ∷ []

abbrev pub open_behind : Marking → List OpenBlock → List OpenBlock
open_behind m open_ones = let left = collections_left m open_ones in with_collection (collection_to_open m left) m.piece.start.col left

-- a lexeme of this index, and whether a key of one of these lexemes begins at it
abbrev pub marking : List KeyedToken → ℕ → KeyedToken → Marking
marking all i x = record { piece = x; begins_key = begins_key i all }

-- the lexemes from this index on with their marks, where these collections are open before them,
-- and the collections that are open after them (`open_behind_all`)
abbrev pub marks : List KeyedToken → List OpenBlock → ℕ → List KeyedToken → List Symbol
marks all open_ones i [] = []
marks all open_ones i (x ∷ xs) = marks_at (marking all i x) i open_ones ++ marks all (open_behind (marking all i x) open_ones) (suc i) xs

abbrev pub open_behind_all : List KeyedToken → List OpenBlock → ℕ → List KeyedToken → List OpenBlock
open_behind_all all open_ones i [] = open_ones
open_behind_all all open_ones i (x ∷ xs) = open_behind_all all (open_behind (marking all i x) open_ones) (suc i) xs

-- the lexemes of a document with their marks
abbrev pub symbols_of_tokens : List Token → List Symbol
symbols_of_tokens xs = let all = keyed_tokens [] xs in marks all [] 0 all ++ closings_of_all (open_behind_all all [] 0 all)

abbrev pub symbols_of_lexemes : List LexemeValue → List Symbol
symbols_of_lexemes xs = symbols_of_tokens (map token_of xs)

-- ---- as callers see them

-- the column of the lexeme of this index. A collection opens in the column of the lexeme before
-- which it opens
abbrev pub column_at : List Token → ℕ → ℕ
column_at xs i = option_map_or (λ x. x.start.col) (slice_get xs i) 0

-- the same lexemes and marks, except that whether a key unit begins at a lexeme is a flag of the
-- lexeme
abbrev pub as_marked : List Token → Bool → List Symbol → List Marked
as_marked xs begins [] = []
as_marked xs begins (OpenSequence i ∷ ws) = is.Open Sequence (column_at xs i) ∷ as_marked xs begins ws
as_marked xs begins (OpenMapping i ∷ ws) = is.Open Mapping (column_at xs i) ∷ as_marked xs begins ws
as_marked xs begins (BeginKey i ∷ ws) = as_marked xs true ws
as_marked xs begins (Close ∷ ws) = is.Close ∷ as_marked xs begins ws
as_marked xs begins (One kind i ∷ ws) = is.Lexeme i begins ∷ as_marked xs false ws

abbrev pub marked_lexemes : List LexemeValue → List Marked
marked_lexemes xs = as_marked (map token_of xs) false (symbols_of_lexemes xs)
