use Rattle.std.proofs.Common.{drop}
use Rattle.std.specs.List.{AllByRecursion}
use Rattle.yl_section_pieces.specs.PlainRows.{IsPlainLexeme}
use Rattle.yl_section_pieces.proofs.plain_rows.are_plain_lexemes.Given as goal

abbrev pub invariant-loop-lexeme : goal.invariant-loop-lexeme
invariant-loop-lexeme g l = AllByRecursion (IsPlainLexeme l.rows) (drop l.lexeme-index l.lexemes) → AllByRecursion (IsPlainLexeme l.rows) l.lexemes
