use Rattle.yl_rpc.specs.Views.{id_view}
use Rattle.yl_server.proofs.Decided.{initialized_none}
use Rattle.yl_server.proofs.server.Server.initialize.Goals as goal

pub returns-in-None : goal.returns-in-None
returns-in-None g c = initialized_none (id_view c.args.id) _ c.args.self.now c.in-None.ensures
