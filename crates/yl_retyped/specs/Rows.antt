-- Bridge: rows that are the same for the rules, apart from the text of a value.
use Rattle.std.specs.Prelude.{ℕ, ◌≡◌, ◌≤◌, ◌<◌, ◌⊎◌, true, List, [], ◌∷◌, ◌++◌, Some, None, slice_get}
use Rattle.yl_lexeme.specs.Lexeme.{LexemeValue}
use Rattle.yl_marks.specs.Keys.{lexeme_at_line}
use Rattle.yl_lexeme_rules.specs.declared.options.LexemeOptions.{LexemeOptions}
use Rattle.yl_record.specs.Records.{RecordValue}
use Rattle.yl_retyped.specs.Retyped.{IsQuiet, asks_for_value, is_scalar}

-- in one row, the scalar x after the lexeme p becomes y; both begin at one position and end in the
-- row
pub record IsValueRetyped (p x y : LexemeValue) : Type 0 where
  pub before : asks_for_value p.kind ≡ true
  pub beside : p.end.line ≡ 0
  pub scalar : is_scalar x.kind ≡ true
  pub kind : y.kind ≡ x.kind
  pub start : y.start ≡ x.start
  pub ends : x.end.line ≡ 0
  pub new_ends : y.end.line ≡ 0

-- the last lexeme of a row changes its text, and the rules on values find nothing at the old text
-- and at the new one
pub record IsLastRetyped (o : LexemeOptions) (xs ys : List LexemeValue) : Type 0 where
  pub front : List LexemeValue
  pub p : LexemeValue
  pub x : LexemeValue
  pub y : LexemeValue
  pub old : xs ≡ front ++ p ∷ x ∷ []
  pub new : ys ≡ front ++ p ∷ y ∷ []
  pub retyped : IsValueRetyped p x y
  pub quiet : IsQuiet o (lexeme_at_line 0 x)
  pub new_quiet : IsQuiet o (lexeme_at_line 0 y)

-- two rows are the same for the rules
pub record IsSameRow (r s : RecordValue) : Type 0 where
  pub indentation : r.indentation ≡ s.indentation
  pub lexemes : r.entry.lexemes ≡ s.entry.lexemes
  pub comment : r.entry.comment ≡ s.entry.comment
  pub fault : r.entry.fault ≡ s.entry.fault

-- the last value of a row without a comment changes its text; the indentation and the fault stay
pub record IsRetypedRow (o : LexemeOptions) (r s : RecordValue) : Type 0 where
  pub indentation : r.indentation ≡ s.indentation
  pub lexemes : IsLastRetyped o r.entry.lexemes s.entry.lexemes
  pub comment : r.entry.comment ≡ None
  pub new_comment : s.entry.comment ≡ None
  pub fault : r.entry.fault ≡ s.entry.fault

abbrev pub IsRowAlike : LexemeOptions → RecordValue → RecordValue → Type 0
IsRowAlike o r s = IsSameRow r s ⊎ IsRetypedRow o r s

-- the rows from `from` on, before `end`, are alike in both lists
abbrev pub AreRowsAlike : LexemeOptions → (old new : List RecordValue) (from end : ℕ) → Type 0
AreRowsAlike o old new from end =
    (i : ℕ) (r s : RecordValue) → from ≤ i → i < end → slice_get old i ≡ Some r → slice_get new i ≡ Some s → IsRowAlike o r s
