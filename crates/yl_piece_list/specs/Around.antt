-- Bridge: the pieces that are replaced.
use Rattle.std.specs.Prelude.{◌≡◌, ◌<◌, ◌≤◌, ◌⊎◌, ℕ, ◌+◌, ◌-◌, List, length, take, drop}
use Rattle.yl_record.specs.Records.{RecordValue}
use Rattle.yl_sections.specs.Kept.{KeptValue, rows_kept}
use Rattle.yl_section_pieces.specs.Pieces.{BeginsWithLexeme}

-- the row of this index is there and has a lexeme. With such a row each section begins but the first, and each piece that has a state before it
abbrev pub HasLexemeAt : List RecordValue → ℕ → Type 0
HasLexemeAt rs i = BeginsWithLexeme (drop i rs)

-- the pieces with the indices from f on, before e, are replaced: they begin with row `from` or above it. If pieces are left after them, these
-- begin with row `old_end` or below it, and in the new text with a row that has a lexeme and is not the first one; the old rows from `old_end` on
-- are the new ones from `end` on
pub record ArePiecesAround (ks : List KeptValue) (new : List RecordValue) (from old_end end f e : ℕ) : Type 0 where
  pub first : rows_kept (take f ks) ≤ from
  pub last : (e ≡ length ks)
      ⊎ ((old_end ≤ rows_kept (take e ks)) × (0 < rows_kept (take e ks) - old_end + end) × HasLexemeAt new (rows_kept (take e ks) - old_end + end))
