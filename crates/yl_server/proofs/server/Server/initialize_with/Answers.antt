use Rattle.json.specs.Value.{value_view}
use Rattle.yl_rpc.specs.Views.{id_view}
use Rattle.yl_server.specs.Replies.{messages_of}
use Rattle.yl_server.proofs.Decided.{begun_by, begun_set, begun_unnamed}
use Rattle.yl_server.proofs.server.Server.initialize_with.Goals as goal

pub returns-in_default : goal.returns-in_default
returns-in_default g c = begun_unnamed (id_view c.args.id) (value_view c.args.params.now) _ _ c.args.self.now c.first_settings-settings.ensures c.in_default.ensures.err

pub returns-in-Set : goal.returns-in-Set
returns-in-Set g c =
    let x = c.in-Set.ensures in
    let made = c.set.ensures in
    begun_set (id_view c.args.id) (value_view c.args.params.now) _ _ x.0 c.in-Set.config _ c.in-Set.most made.0 made.1 c.args.self.now c.begin.new.self c.set.new.self c.first_settings-settings.ensures x.1 x.2 c.in-Ok.ensures.ok c.begin.ensures made.2

pub returns-in-Faulty : goal.returns-in-Faulty
returns-in-Faulty g c =
    let x = c.in-Faulty.ensures in
    begun_by (id_view c.args.id) (value_view c.args.params.now) _ _ x.0 c.in-Faulty.fault c.args.self.now c.begin_faulty.new.self (messages_of c.begin_faulty.new.self c.begin_faulty.result) c.first_settings-settings.ensures x.1 x.2
    c.begin_faulty.ensures
