use Rattle.std.proofs.Common.{◌<◌, ◌≤◌, ◌^◌, take}
use Rattle.std.specs.List.{AllByRecursion}
use Rattle.yl_section_pieces.proofs.border_judge.rows_of.Given as goal

abbrev pub invariant-loop-lexeme : goal.invariant-loop-lexeme
invariant-loop-lexeme g l = record { within : AllByRecursion (λ x. x.end.line < l.rows) (take l.lexeme-index l.lexemes); few : l.rows ≤ 2 ^ 32 }
