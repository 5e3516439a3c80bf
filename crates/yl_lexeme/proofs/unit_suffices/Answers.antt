use Rattle.yl_lexeme.proofs.Units.{keeps}
use Rattle.yl_lexeme.proofs.unit_suffices.Goals as goal

pub returns : goal.returns
returns g c = keeps
