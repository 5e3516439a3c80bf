-- Bridge: the facts about lexemes, line by line, from a summary of the lexemes before them. A key
-- and its Value begin in one line (YAML 1.2.2, 7.4.2 and 8.2.2), so whether a key begins or ends at
-- a lexeme depends only on the lexeme's own line.
use Rattle.std.specs.Prelude.{ℕ, suc, ◌≡◌, Bool, false, not, ◌&&◌, ◌||◌, if◌then◌else◌, List, [], ◌∷◌, ◌++◌, map, Option, Some, None, is_some, slice_get}
use Rattle.yl_lexeme.specs.declared.lexeme.Kind.{Kind}
use Rattle.yl_lexeme.specs.Lexeme.{LexemeValue, is_key, is_property}
use Rattle.yl_marks.specs.declared.token.Token.{Token}
use Rattle.yl_marks.specs.declared.symbol.KeyedToken.{KeyedToken}
use Rattle.yl_marks.specs.declared.symbol.Marking.{Marking}
use Rattle.yl_marks.specs.declared.facts.KeyFacts.{KeyFacts}
use Rattle.yl_marks.specs.Marks.{marking}
use Rattle.yl_marks.specs.Keys.{token_of}
use Rattle.yl_marks.specs.ByLine.{MarkerValue, marker_at_start, keyed_tokens_of_line, behind_line, by_line}
use Rattle.yl_marks.specs.Facts.{is_tag, key_facts}

-- after one more lexeme: a tag is among the properties that the lexemes end in (`has_tag_behind`),
-- or the lexemes end in a Key followed by properties only (`is_key_behind`)
abbrev pub has_tag_behind : Bool → Marking → Bool
has_tag_behind has_tag m = is_property m.piece.kind && (is_tag m.piece.kind || (not m.begins_key && has_tag))

abbrev pub is_key_behind : Bool → Kind → Bool
is_key_behind ends kind = if is_property kind then ends else is_key kind

-- it is a Value that has a key
abbrev pub has_key : Option KeyedToken → Bool
has_key None = false
has_key (Some p) = is_some p.key

-- `ahead` contains the facts that the lexemes so far decide about the next one, if no key begins or
-- ends with it

-- the facts about that lexeme, where `next` comes after it
abbrev pub fact_by : KeyFacts → Marking → Option KeyedToken → KeyFacts
fact_by ahead m next = record { is_key = has_key next || ahead.is_key; has_tag = not m.begins_key && ahead.has_tag }

-- the facts that are decided about the lexeme after it
abbrev pub next_ahead : KeyFacts → Marking → KeyFacts
next_ahead ahead m = record { is_key = is_key_behind ahead.is_key m.piece.kind; has_tag = has_tag_behind ahead.has_tag m }

abbrev pub nothing_ahead : KeyFacts
nothing_ahead = record { is_key = false; has_tag = false }

-- the facts about the lexemes from this index on
abbrev pub facts_ahead : KeyFacts → List KeyedToken → ℕ → List KeyedToken → List KeyFacts
facts_ahead ahead all i [] = []
facts_ahead ahead all i (p ∷ ps) = fact_by ahead (marking all i p) (slice_get ps 0) ∷ facts_ahead (next_ahead ahead (marking all i p)) all (suc i) ps

-- the facts that they decide about the lexeme after them
abbrev pub ahead_of_all : KeyFacts → List KeyedToken → ℕ → List KeyedToken → KeyFacts
ahead_of_all ahead all i [] = ahead
ahead_of_all ahead all i (p ∷ ps) = ahead_of_all (next_ahead ahead (marking all i p)) all (suc i) ps

-- the summary of the lexemes of earlier lines
pub record KeyMarkerValue : Type 0 where
  pub marks : MarkerValue
  pub ahead : KeyFacts

abbrev pub key_marker_at_start : KeyMarkerValue
key_marker_at_start = record { marks = marker_at_start; ahead = nothing_ahead }

-- the facts about the lexemes of a line
abbrev pub facts_of_line : KeyMarkerValue → List Token → List KeyFacts
facts_of_line b xs = let all = keyed_tokens_of_line b.marks xs in facts_ahead b.ahead all b.marks.count all

abbrev pub behind_keyed_line : KeyMarkerValue → List Token → KeyMarkerValue
behind_keyed_line b xs = let all = keyed_tokens_of_line b.marks xs in record {
  marks = behind_line b.marks xs;
  ahead = ahead_of_all b.ahead all b.marks.count all;
}

-- the facts about the lexemes of these lines
abbrev pub facts_by_lines : KeyMarkerValue → List (List Token) → List KeyFacts
facts_by_lines b [] = []
facts_by_lines b (x ∷ xs) = facts_of_line b x ++ facts_by_lines (behind_keyed_line b x) xs

-- the facts about the lexemes of a document are those of its lines, one after another
abbrev pub KeysByLines : Type 0
KeysByLines = (xs : List LexemeValue) → facts_by_lines key_marker_at_start (by_line (map token_of xs)) ≡ key_facts xs
