use Rattle.std.specs.Prelude.{min}
use Rattle.std.proofs.Common.{◌++◌, ap, ◌∙◌}
use Rattle.yl_events.specs.Event.{event_value}
use Rattle.yl_pieces.specs.KeysOfRuns.{run_alone}
use Rattle.yl_piece_names.specs.KeptNames.{RunNamesValue, asked_next}
use Rattle.yl_piece_names.proofs.KeptNames.{pushed}
use Rattle.yl_piece_names.proofs.run_names.RunNames.push.Goals as goal

pub returns : goal.returns
returns g c = λ s es was.
    let old = c.self.inside in
    let kept = c.self.view_is ∙ was in
    pushed s es (event_value c.args.event.now) _ _ kept
    (c.in_ok-take.ensures (run_alone s es) (ap (λ (v : RunNamesValue). v.collections) kept))
    (c.least-low.ensures ∙ ap (min old.low) c.staying-left.ensures)
    (c.in_ok-ask.ensures ∙ ap (λ n. old.asked.items ++ asked_next old.collections old.low n) c.name_of-name.ensures)
    c.is_referring-refers.ensures
