use Rattle.std.proofs.Common.{sym, ◌∙◌, ap}
use Rattle.std.specs.List.{filter_map}
use Rattle.std.proofs.lemmas.List.{map-id}
use Rattle.std.proofs.lemmas.Iterator.Consumers.{YieldsList-end}
use Rattle.std.proofs.lemmas.Iterator.Adapters.{YieldsList-from_vec}
use Rattle.yl_rules.specs.LevelOf.{level_of}
use Rattle.yl_report.specs.Report.{with_level}
use Rattle.yl_report.proofs.With.{filter_map_step}
use Rattle.yl_report.proofs.arranging.with_levels.Goals as goal

pub loop-one-preserved : goal.loop-one-preserved
loop-one-preserved g c =
    filter_map_step (with_level (level_of c.args.levels.now)) c.loop-one.yielded c.in-Some.one _ _ c.in_ok-push_with_level.ensures c.loop-one.invariant

-- the loop has seen all of the list
pub returns : goal.returns
returns g c =
    let given = c.into_iter-one-iterator.ensures.into_iter_gives in
    let seen = YieldsList-end (YieldsList-from_vec {s = c.into_iter-one-iterator.result} c.args.found.items given.0 (given.1 ∙ c.args.found.ok.0))
    c.loop-one.yielded c.loop-one.one-iterator c.loop-one.yielded_by c.next.result c.next.new.self c.in-None.is c.next.ensures.steps in
    c.loop-one.invariant ∙ ap (filter_map (with_level (level_of c.args.levels.now))) (sym (map-id c.loop-one.yielded) ∙ seen.0)
