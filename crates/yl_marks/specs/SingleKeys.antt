-- Bridge: the marks and facts, lexeme by lexeme, of a line without properties in which each key is
-- one scalar or alias, directly before its Value.
use Rattle.std.specs.Prelude.{ℕ, ◌≡◌, ◌≤◌, ◌+◌, Bool, true, false, not, ◌&&◌, ◌||◌, if◌then◌else◌, List, [], ◌∷◌, ◌++◌, length, Option, Some, None, is_some}
use Rattle.yl_lexeme.specs.declared.lexeme.Kind.{Kind}
use Rattle.yl_lexeme.specs.Lexeme.{is_closing, is_leaf, is_property, is_value}
use Rattle.yl_marks.specs.declared.token.Token.{Token}
use Rattle.yl_marks.specs.declared.symbol.Symbol.{Symbol}
use Rattle.yl_marks.specs.declared.symbol.KeyedToken.{KeyedToken}
use Rattle.yl_marks.specs.declared.symbol.KeyStart.{KeyStart}
use Rattle.yl_marks.specs.declared.symbol.Earlier.{Earlier}
use Rattle.yl_marks.specs.declared.symbol.Marking.{Marking}
use Rattle.yl_marks.specs.declared.symbol.OpenBlock.{OpenBlock}
use Rattle.yl_marks.specs.declared.facts.KeyFacts.{KeyFacts}
use Rattle.yl_marks.specs.Keys.{depth_behind, key_at, keyed_token_at, place_of}
use Rattle.yl_marks.specs.Marks.{marks_at, open_behind}
use Rattle.yl_marks.specs.ByLine.{depth_behind_all}
use Rattle.yl_marks.specs.FactsByLine.{next_ahead}

-- no property, and no Value directly after a closing bracket
abbrev pub may_follow : Bool → Kind → Bool
may_follow behind_closing kind = not (is_property kind) && not (behind_closing && is_value kind)

abbrev pub has_single_keys : Bool → List Token → Bool
has_single_keys behind_closing [] = true
has_single_keys behind_closing (x ∷ xs) = may_follow behind_closing x.kind && has_single_keys (is_closing x.kind) xs

-- the place of a scalar or an alias of this index, if a key may begin at it
abbrev pub leaf_place : ℕ → KeyedToken → Option KeyStart
leaf_place index p = if is_leaf p.kind then place_of index p else None

-- the next lexeme is a Value whose key begins at this place
abbrev pub is_key_next : Option KeyStart → List Token → Bool
is_key_next place [] = false
is_key_next place (x ∷ xs) = is_value x.kind && is_some (key_at x.start.col place)

-- the lexemes of such a line. `count` lexemes of the document stand before them, `depth` brackets
-- are open before them, `latest` is the latest lexeme before them, and `place` is where a key may
-- begin at that lexeme
abbrev pub single_markings : ℕ → ℕ → Option KeyedToken → Option KeyStart → List Token → List Marking
single_markings count depth latest place [] = []
single_markings count depth latest place (x ∷ xs) =
    let p = keyed_token_at x depth latest place in
    let own = leaf_place count p in
    record { piece = p; begins_key = is_key_next own xs } ∷ single_markings (count + 1) (depth_behind x.kind depth) (Some p) own xs

-- their marks, from this index on, and the collections that are open after them
-- (`open_behind_each`)
abbrev pub marks_of : List OpenBlock → ℕ → List Marking → List Symbol
marks_of open_ones i [] = []
marks_of open_ones i (m ∷ ms) = marks_at m i open_ones ++ marks_of (open_behind m open_ones) (i + 1) ms

abbrev pub open_behind_each : List OpenBlock → List Marking → List OpenBlock
open_behind_each open_ones [] = open_ones
open_behind_each open_ones (m ∷ ms) = open_behind_each (open_behind m open_ones) ms

-- a key that begins at a lexeme ends with it
abbrev pub single_fact : KeyFacts → Marking → KeyFacts
single_fact ahead m = record { is_key = m.begins_key || ahead.is_key; has_tag = not m.begins_key && ahead.has_tag }

abbrev pub facts_of : KeyFacts → List Marking → List KeyFacts
facts_of ahead [] = []
facts_of ahead (m ∷ ms) = single_fact ahead m ∷ facts_of (next_ahead ahead m) ms

abbrev pub ahead_of_each : KeyFacts → List Marking → KeyFacts
ahead_of_each ahead [] = ahead
ahead_of_each ahead (m ∷ ms) = ahead_of_each (next_ahead ahead m) ms

abbrev pub latest_marked : Option KeyedToken → List Marking → Option KeyedToken
latest_marked latest [] = latest
latest_marked latest (m ∷ ms) = latest_marked (Some m.piece) ms

-- `behind` is the summary of the earlier lexemes and those of such a line after them, and `now`
-- contains the facts that they decide about the next lexeme
pub record HasPassed (earlier : Earlier) (said : KeyFacts) (xs : List Token) (behind : Earlier) (now : KeyFacts) : Type 0 where
  pub count : behind.count ≡ earlier.count + length xs
  pub depth : behind.depth ≡ depth_behind_all earlier.depth xs
  pub latest : behind.latest ≡ latest_marked earlier.latest (single_markings earlier.count earlier.depth earlier.latest None xs)
  pub most : behind.depth ≤ behind.count
  pub ahead : now ≡ ahead_of_each said (single_markings earlier.count earlier.depth earlier.latest None xs)
