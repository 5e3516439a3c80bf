use Rattle.yl_sections.proofs.row_judge.RowJudge.begin.Goals as goal

pub returns-clause-start : goal.returns-clause-start
returns-clause-start g c = record {
  none = record { options = c.lexeme_options.ensures; found = c.new-4.ensures.items; facts = c.new-3.ensures.items };
  count = c.in_ok-reader.ensures.count;
  marker = c.in_ok-reader.ensures.marker;
  parser = c.in_ok-reader.ensures.parser;
  told = c.in_ok-reader.ensures.told;
  context = c.new.ensures;
  lexemes = c.new-2.ensures;
}
