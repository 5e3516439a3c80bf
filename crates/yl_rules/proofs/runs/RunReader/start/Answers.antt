use Rattle.yl_rules.proofs.Steps.{all_left}
use Rattle.yl_rules.proofs.runs.RunReader.start.Goals as goal

pub returns-clause-left : goal.returns-clause-left
returns-clause-left c = λ rows. all_left c.args.options.now rows
