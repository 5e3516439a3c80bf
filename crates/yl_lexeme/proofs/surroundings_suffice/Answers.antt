use Rattle.yl_lexeme.proofs.Looks.{looks}
use Rattle.yl_lexeme.proofs.surroundings_suffice.Goals as goal

pub returns : goal.returns
returns c = looks
