use Rattle.yl_server.proofs.Shown.{all_shown_after}
use Rattle.yl_server.proofs.laws.documents_are_shown.Goals as goal

pub returns : goal.returns
returns c = λ config es uri. (all_shown_after config es).each uri
