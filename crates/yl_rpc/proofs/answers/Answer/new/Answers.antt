use Rattle.std.proofs.Common.{◌∙◌, ap}
use Rattle.yl_rpc.specs.Answers.{answer_text}
use Rattle.yl_rpc.specs.Views.{id_view}
use Rattle.yl_rpc.proofs.Texts.{answer_written}
use Rattle.yl_rpc.proofs.answers.Answer.new.Goals as goal

pub returns-clause-json : goal.returns-clause-json
returns-clause-json g c = λ j e. ap (answer_text (id_view c.args.id)) e ∙ answer_written (id_view c.args.id) j
