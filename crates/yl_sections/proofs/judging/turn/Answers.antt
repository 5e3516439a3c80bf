use Rattle.yl_sections.proofs.judging.turn.Goals as goal

pub returns-clause-turns : goal.returns-clause-turns
returns-clause-turns g c = λ here starts judges. c.end_section.ensures here judges
