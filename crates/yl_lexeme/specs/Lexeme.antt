-- Meaning: lexemes and comments, as contracts see them, and the kinds of lexemes.
use Rattle.std.specs.Prelude.{ℕ, Bool, true, false, List, Option}
use Rattle.yl_text.specs.declared.position.Pos.{Pos}
use Rattle.yl_lexeme.specs.declared.lexeme.Kind.{Kind}
use Rattle.yl_lexeme.specs.declared.lexeme.Kind.TheVariants.{DocStart, DocEnd, Entry, Key, Value, Comma, SeqOpen, SeqClose, MapOpen, MapClose, Alias, Anchor, Tag, Scalar}

-- a lexeme; its lines count from the one in which it begins, and its value is in UTF-8
pub record LexemeValue : Type 0 where
  pub kind : Kind
  pub start : Pos
  pub end : Pos
  pub value : List ℕ

-- a comment: the column of its `#`, and its text in UTF-8
pub record CommentValue : Type 0 where
  pub column : ℕ
  pub text : List ℕ

-- a comment in a text: its line and column, from 0; its text, from the `#` up to the break, in
-- UTF-8; and the column after the lexeme before it, if one ends in its line
pub record PlacedCommentValue : Type 0 where
  pub line : ℕ
  pub column : ℕ
  pub text : List ℕ
  pub behind : Option ℕ

abbrev pub is_document_marker : Kind → Bool
is_document_marker DocStart = true
is_document_marker DocEnd = true
is_document_marker _ = false

abbrev pub is_opening : Kind → Bool
is_opening SeqOpen = true
is_opening MapOpen = true
is_opening _ = false

abbrev pub is_closing : Kind → Bool
is_closing SeqClose = true
is_closing MapClose = true
is_closing _ = false

abbrev pub is_property : Kind → Bool
is_property Anchor = true
is_property Tag = true
is_property _ = false

abbrev pub is_anchor : Kind → Bool
is_anchor Anchor = true
is_anchor _ = false

abbrev pub is_entry : Kind → Bool
is_entry Entry = true
is_entry _ = false

abbrev pub is_key : Kind → Bool
is_key Key = true
is_key _ = false

abbrev pub is_value : Kind → Bool
is_value Value = true
is_value _ = false

abbrev pub is_comma : Kind → Bool
is_comma Comma = true
is_comma _ = false

-- an alias or a scalar
abbrev pub is_leaf : Kind → Bool
is_leaf (Scalar s) = true
is_leaf Alias = true
is_leaf _ = false
