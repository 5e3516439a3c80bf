use Rattle.std.proofs.Common.{◌≡◌, drop}
use Rattle.yl_sections.specs.Sections.{last_kind_from}
use Rattle.yl_sections.proofs.sections.last_kind.Given as goal

abbrev pub invariant-loop-lexeme : goal.invariant-loop-lexeme
invariant-loop-lexeme g l = last_kind_from l.last (drop l.lexeme-index l.lexemes) ≡ last_kind_from l.fn.last l.lexemes
