use Rattle.std.proofs.Common.{◌∙◌, true, sym}
use Rattle.yl_server.proofs.Folders.{governed_at, governed_not}
use Rattle.yl_server.proofs.governed.govern.Goals as goal

pub returns-in-Some : goal.returns-in-Some
returns-in-Some g c =
    let made = c.configure_at.ensures in
    (made.0, governed_at c.args.index c.args.found c.in-Some.config made.0 c.args.workspace.now c.configure_at.new.self (sym c.in-Some.is ∙ c.judged.ensures) made.1)

pub returns-in_default : goal.returns-in_default
returns-in_default g c = (true, governed_not c.args.index c.args.found true c.args.workspace.now (sym c.in_default.is ∙ c.judged.ensures))
