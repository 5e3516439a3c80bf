use Rattle.std.proofs.Common.{take, map}
use Rattle.yl_lint.proofs.Together.{found_together}
use Rattle.yl_lint.proofs.assembling.found_of_kept.Goals as goal

pub returns : goal.returns
returns g c =
    found_together c.args.config.now c.args.found.items c.push_fault.new.found.items c.push_sections.new.found.items c.args.end (map (λ k. k.now) c.args.kept.now) (map (λ k. k.now) (take c.count_shown.result c.args.kept.now))
    c.indentation_options-options.result.now c.measure_of.result c.count_shown.ensures.shown c.in_ok-push_fault.ensures c.indentation_options-options.ensures c.measure_of.ensures c.in_ok-push_sections.ensures
