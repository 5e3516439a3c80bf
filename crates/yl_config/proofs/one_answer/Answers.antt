use Rattle.yl_config.proofs.OneAnswer as answers
use Rattle.yl_config.proofs.one_answer.Goals as goal

pub returns : goal.returns
returns c = answers.one_answer
