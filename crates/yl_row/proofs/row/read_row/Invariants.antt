use Rattle.std.proofs.Common.{◌≡◌, ℕ, ◌-◌, drop, length, List}
use Rattle.yl_lexeme.specs.Surroundings.{surroundings_value}
use Rattle.yl_row.specs.Run.{row_reading_by}
use Rattle.yl_row.specs.Rows.{reading_with_lexemes}
use Rattle.yl_row.proofs.row.read_row.Given as goal

-- what was given, and what the rest of the row gives
abbrev pub invariant-loop-at : goal.invariant-loop-at
invariant-loop-at g l = (rows : List (List ℕ)) →
    reading_with_lexemes l.fn.lexemes.items (row_reading_by rows l.tab l.skip l.fresh l.fresh 0 (surroundings_value l.fn.surroundings) l.row)
    ≡ reading_with_lexemes l.lexemes.items (row_reading_by rows l.tab 0 l.behind_space l.first l.at (surroundings_value l.surroundings) (drop l.at l.row))

abbrev pub decreases-loop-at : goal.decreases-loop-at
decreases-loop-at g l = length l.row - l.at
