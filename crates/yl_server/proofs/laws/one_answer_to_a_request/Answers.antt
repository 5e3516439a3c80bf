use Rattle.yl_server.specs.Machine.{started}
use Rattle.yl_server.proofs.Answered.{all_answered}
use Rattle.yl_server.proofs.laws.one_answer_to_a_request.Goals as goal

pub returns : goal.returns
returns c = λ config es. all_answered es (started config)
