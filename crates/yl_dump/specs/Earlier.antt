-- Bridge: an earlier lexeme, as clauses see it.
use Rattle.std.specs.Prelude.{ℕ, Option, Some, None}
use Rattle.yl_lexeme.specs.Lexeme.{LexemeValue}
use Rattle.yl_dump.specs.declared.group.Indexed.{Indexed}

-- its index in the document, and the lexeme
abbrev pub earlier_of : {A : Type 0} → Option (Indexed A) → Option (ℕ × LexemeValue)
earlier_of None = None
earlier_of (Some x) = Some (x.index, x.lexeme)
