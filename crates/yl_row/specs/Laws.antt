-- Bridge: a law of the entries of a text.
use Rattle.std.specs.Prelude.{◌≡◌, ℕ, true, List}
use Rattle.yl_lexeme.specs.Known.{no_surroundings}
use Rattle.yl_row.specs.Entries.{entries}
use Rattle.yl_row.specs.Run.{entries_by}

-- the entries that looking back over all lexemes before each position gives are those that the
-- stacks and the unit of the row give
abbrev pub KeptSuffices : Type 0
KeptSuffices = (rows : List (List ℕ)) → entries_by true 0 0 no_surroundings rows ≡ entries rows
