use Rattle.std.proofs.Common.{◌≡◌, drop}
use Rattle.yl_sections.specs.Directives.{are_directives}
use Rattle.yl_sections.proofs.row_rules.are_directives.Given as goal

abbrev pub invariant-loop-lexeme : goal.invariant-loop-lexeme
invariant-loop-lexeme g l = are_directives (drop l.lexeme-index l.lexemes) ≡ are_directives l.lexemes
