-- Meaning: keys, and where they may begin (YAML 1.2.2, 7.4.2 and 8.2.2). Earlier lexemes are listed
-- with the latest first.
use Rattle.std.specs.Prelude.{ℕ, Bool, true, false, ◌&&◌, ◌||◌, ◌==◌, nat_lt, if◌then◌else◌, List, [], ◌∷◌, ◌+◌, ◌-◌, length, Option, Some, None, option_map, option_and_then, slice_get}
use Rattle.std.specs.Option.{option_map_or}
use Rattle.yl_lexeme.specs.declared.lexeme.Kind.{Kind}
use Rattle.yl_lexeme.specs.Lexeme.{LexemeValue, is_document_marker, is_opening, is_closing, is_value}
use Rattle.yl_lexeme.specs.Past.{opens_item, asks_behind, is_near}
use Rattle.yl_lexeme.specs.Keys.{Spot, key_start}
use Rattle.yl_marks.specs.declared.token.Token.{Token}
use Rattle.yl_marks.specs.declared.symbol.KeyedToken.{KeyedToken}
use Rattle.yl_marks.specs.declared.symbol.KeyStart.{KeyStart}

-- a lexeme at a line of the text
abbrev pub lexeme_at_line : ℕ → LexemeValue → LexemeValue
lexeme_at_line line x = record { kind = x.kind; start = record { line = line; col = x.start.col }; end = record { line = line + x.end.line; col = x.end.col }; value = x.value }

-- a lexeme without its value
abbrev pub token_of : LexemeValue → Token
token_of x = record { kind = x.kind; start = x.start; end_line = x.end.line }

-- how many brackets are open after one more lexeme, and after all (`depth`)
abbrev pub depth_behind : Kind → ℕ → ℕ
depth_behind kind depth =
    if is_document_marker kind then 0 else if is_opening kind then depth + 1 else if is_closing kind then depth - 1 else depth

abbrev pub depth : List KeyedToken → ℕ
depth [] = 0
depth (x ∷ xs) = depth_behind x.kind (depth xs)

-- no earlier lexeme ends in this line. `latest` is the latest of them
abbrev pub is_first : ℕ → Option KeyedToken → Bool
is_first line latest = option_map_or (λ x. nat_lt x.end_line line) latest true

-- a key may begin in this line, inside `depth` brackets, after the latest lexeme. Inside brackets
-- it begins an item. Elsewhere it is the first of the line, or follows an Entry, a Key, or a Value
-- without a key in this line
abbrev pub may_begin : ℕ → ℕ → Option KeyedToken → Bool
may_begin line depth latest =
    if nat_lt 0 depth then opens_item (option_map (λ x. x.kind) latest)
    else is_first line latest || option_map_or (λ x. x.start.line == line && asks_behind x.kind x.key) latest false

-- the place of the lexeme of this index, if a key may begin at it
abbrev pub place_of : ℕ → KeyedToken → Option KeyStart
place_of index x = if x.may_begin then Some (record { index = index; column = x.start.col }) else None

-- the latest lexemes that begin in this line
abbrev pub tokens_of_line : ℕ → List KeyedToken → List (Spot KeyStart)
tokens_of_line line [] = []
tokens_of_line line (x ∷ xs) = if x.start.line == line then record { kind = x.kind; start = place_of (length xs) x } ∷ tokens_of_line line xs else []

-- the number of lexemes before the key of a Value in this column. The key begins at most 1024
-- characters before the Value
abbrev pub key_at : ℕ → Option KeyStart → Option ℕ
key_at column key = option_and_then (λ k. if is_near column k.column then Some k.index else None) key

-- a lexeme inside `depth` brackets, after the latest lexeme. `key` is the place where the key would
-- begin if it is a Value
abbrev pub keyed_token_at : Token → ℕ → Option KeyedToken → Option KeyStart → KeyedToken
keyed_token_at x depth latest key = record {
  kind = x.kind;
  start = x.start;
  end_line = x.end_line;
  depth = depth;
  is_first = is_first x.start.line latest;
  may_begin = may_begin x.start.line depth latest;
  key = if is_value x.kind then key_at x.start.col key else None;
}

-- the key of a Value is the unit directly before it, all of which is in the Value's line
abbrev pub keyed_token : Token → List KeyedToken → KeyedToken
keyed_token x before = keyed_token_at x (depth before) (slice_get before 0) (key_start (tokens_of_line x.start.line before))

-- the lexemes after these earlier ones, each with what the lexemes before it decide about it
abbrev pub keyed_tokens : List KeyedToken → List Token → List KeyedToken
keyed_tokens before [] = []
keyed_tokens before (x ∷ xs) = keyed_token x before ∷ keyed_tokens (keyed_token x before ∷ before) xs
