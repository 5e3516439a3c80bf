use Rattle.json.specs.Value.{value_view}
use Rattle.yl_server.proofs.Decided.{configured_faulty, configured_none, configured_set, configured_unnamed}
use Rattle.yl_server.proofs.server.Server.configure.Goals as goal

pub returns-in_default : goal.returns-in_default
returns-in_default g c = configured_none _ c.args.self.now c.in_default.ensures

pub returns-in_default-file_named : goal.returns-in_default-file_named
returns-in_default-file_named g c = configured_unnamed _ (value_view c.in-Some.settings.now) c.args.self.now c.in-Some.ensures c.in_default-file_named.ensures.err

pub returns-in-Set : goal.returns-in-Set
returns-in-Set g c =
    let x = c.in-Set.ensures in
    let made = c.set.ensures in
    configured_set _ (value_view c.in-Some.settings.now) x.0 c.in-Set.config _ c.in-Set.most made.0 made.1 c.set.result c.args.self.now c.set.new.self c.in-Some.ensures x.1 x.2 c.in-Ok.ensures.ok made.2 made.3

pub returns-in-Faulty : goal.returns-in-Faulty
returns-in-Faulty g c =
    let x = c.in-Faulty.ensures in
    configured_faulty _ (value_view c.in-Some.settings.now) x.0 c.in-Faulty.fault c.args.self.now c.in-Some.ensures x.1 x.2
