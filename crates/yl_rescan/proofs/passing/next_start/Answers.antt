use Rattle.std.proofs.Common.{List, ap, sym, ◌∙◌}
use Rattle.yl_lexeme.specs.Lexeme.{LexemeValue}
use Rattle.yl_sections.specs.Sections.{is_section_start}
use Rattle.yl_sections.proofs.KeptRows.{starts_here}
use Rattle.yl_rescan.proofs.passing.next_start.Goals as goal

pub returns-then-is_section_start-clause-begins : goal.returns-then-is_section_start-clause-begins
returns-then-is_section_start-clause-begins g c =
    starts_here c.args.last c.args.records.now.items c.loop-row.row c.get.result.now c.get.ensures
    ∙ (ap (λ (xs : List LexemeValue). is_section_start c.args.last xs) (sym c.lexemes.ensures) ∙ (sym c.is_section_start.ensures ∙ c.if-is_section_start.true))
