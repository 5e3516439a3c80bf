use Rattle.std.proofs.Common.{◌≡◌, ◌++◌, drop}
use Rattle.std.specs.List.{flat_map}
use Rattle.yl_dump.specs.LexemeLine.{lexeme_line}
use Rattle.yl_dump.proofs.lexemes.print_lexemes.Given as goal

abbrev pub invariant-loop-lexeme : goal.invariant-loop-lexeme
invariant-loop-lexeme g l = l.page ++ flat_map (lexeme_line l.line) (drop l.lexeme-index l.lexemes) ≡ l.fn.page ++ flat_map (lexeme_line l.line) l.lexemes
