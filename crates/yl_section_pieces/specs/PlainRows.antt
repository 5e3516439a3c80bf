-- Bridge: rows in whose place others may come without a change of other rows: each of their lexemes ends in one of them, no scan fault begins in
-- them, and they have no anchor and no alias.
use Rattle.std.specs.Prelude.{ℕ, suc, ◌≡◌, ◌<◌, Bool, true, false, List, [], ◌∷◌, length, None}
use Rattle.std.specs.List.{AllByRecursion}
use Rattle.yl_lexeme.specs.declared.lexeme.Kind.{Kind}
use Rattle.yl_lexeme.specs.Lexeme.{LexemeValue}
use Rattle.yl_record.specs.Records.{RecordValue}

-- a lexeme of this kind is an anchor or an alias
abbrev pub is_reference_kind : Kind → Bool
is_reference_kind Kind.Anchor = true
is_reference_kind Kind.Alias = true
is_reference_kind _ = false

-- a lexeme of the first of so many rows
pub record IsPlainLexeme (rows : ℕ) (x : LexemeValue) : Type 0 where
  pub ends : x.end.line < rows
  pub refers : is_reference_kind x.kind ≡ false

-- the first of so many rows
pub record IsPlainRow (rows : ℕ) (r : RecordValue) : Type 0 where
  pub lexemes : AllByRecursion (IsPlainLexeme rows) r.entry.lexemes
  pub sound : r.entry.fault ≡ None

abbrev pub ArePlain : List RecordValue → Type 0
ArePlain [] = Unit {0}
ArePlain (r ∷ rs) = IsPlainRow (suc (length rs)) r × ArePlain rs
