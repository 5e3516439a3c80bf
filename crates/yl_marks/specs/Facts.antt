-- Meaning: the facts that the keys of a document decide about its lexemes (YAML 1.2.2, 6.9 and
-- 7.4.2). Earlier lexemes are listed with the latest first.
use Rattle.std.specs.Prelude.{ℕ, suc, Bool, true, false, not, ◌&&◌, ◌||◌, if◌then◌else◌, List, [], ◌∷◌, map, is_some}
use Rattle.yl_lexeme.specs.declared.lexeme.Kind.{Kind}
use Rattle.yl_lexeme.specs.declared.lexeme.Kind.TheVariants.{Tag}
use Rattle.yl_lexeme.specs.Lexeme.{LexemeValue, is_key, is_property}
use Rattle.yl_marks.specs.declared.token.Token.{Token}
use Rattle.yl_marks.specs.declared.symbol.KeyedToken.{KeyedToken}
use Rattle.yl_marks.specs.declared.symbol.Marking.{Marking}
use Rattle.yl_marks.specs.declared.facts.KeyFacts.{KeyFacts}
use Rattle.yl_marks.specs.Keys.{token_of, keyed_tokens}
use Rattle.yl_marks.specs.Marks.{marking}

abbrev pub is_tag : Kind → Bool
is_tag Tag = true
is_tag _ = false

-- a tag is among the properties that these lexemes end in. If a key begins at one of them, the
-- properties before it are not its own
abbrev pub end_in_tag : List Marking → Bool
end_in_tag [] = false
end_in_tag (m ∷ ms) = is_property m.piece.kind && (is_tag m.piece.kind || (not m.begins_key && end_in_tag ms))

-- these lexemes end in a Key, or in a Key followed by properties only
abbrev pub end_in_key : List Marking → Bool
end_in_key [] = false
end_in_key (m ∷ ms) = if is_property m.piece.kind then end_in_key ms else is_key m.piece.kind

-- the next lexeme is a Value that has a key, so the key ends here
abbrev pub is_value_next : List KeyedToken → Bool
is_value_next [] = false
is_value_next (p ∷ ps) = is_some p.key

abbrev pub facts_at : List Marking → Marking → List KeyedToken → KeyFacts
facts_at before m after =
    record { is_key = is_value_next after || end_in_key before; has_tag = not m.begins_key && end_in_tag before }

-- the facts about the lexemes from this index on
abbrev pub facts_from : List KeyedToken → List Marking → ℕ → List KeyedToken → List KeyFacts
facts_from all before i [] = []
facts_from all before i (p ∷ ps) = facts_at before (marking all i p) ps ∷ facts_from all (marking all i p ∷ before) (suc i) ps

abbrev pub facts_of_tokens : List Token → List KeyFacts
facts_of_tokens ts = let all = keyed_tokens [] ts in facts_from all [] 0 all

-- the facts about each lexeme of a document
abbrev pub key_facts : List LexemeValue → List KeyFacts
key_facts xs = facts_of_tokens (map token_of xs)
