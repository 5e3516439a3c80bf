use Rattle.std.proofs.Common.{true, false, [], ◌∷◌}
use Rattle.yl_workspace.proofs.document.Document.open_again.Goals as goal

pub returns-in-Ok : goal.returns-in-Ok
returns-in-Ok g c = let made = c.in-Ok.ensures in (true ∷ made.0 ∷ [], made.1)

pub returns-in-Err : goal.returns-in-Err
returns-in-Err g c = (false ∷ [], c.lose.ensures)
