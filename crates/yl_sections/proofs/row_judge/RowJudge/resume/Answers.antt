use Rattle.std.proofs.Common.{◌∙◌, ap}
use Rattle.yl_sections.specs.State.{DocumentState}
use Rattle.yl_sections.proofs.row_judge.RowJudge.resume.Goals as goal

pub returns : goal.returns
returns g c = record {
  none = record { options = c.lexeme_options.ensures; found = c.new-2.ensures.items; facts = c.new.ensures.items };
  counted = c.in_ok-reader.ensures.counted;
  marker = c.in_ok-reader.ensures.marker;
  parser = c.in_ok-reader.ensures.parser;
  context = c.in_ok-places.ensures.state ∙ ap (λ (t : DocumentState). t.context) c.before-2.view_is;
  context_above = c.in_ok-places.ensures.above;
  lexemes = c.resume-rules.ensures.state ∙ ap (λ (t : DocumentState). t.lexemes) c.before-2.view_is;
  lexemes_above = c.resume-rules.ensures.above;
  none_waits = c.resume-rules.ensures.none;
}
