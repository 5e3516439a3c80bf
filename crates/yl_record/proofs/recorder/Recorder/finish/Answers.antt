use Rattle.std.proofs.Common.{[], rules, ap, ◌∙◌}
use Rattle.yl_record.specs.Recorded.{RecorderValue, recorded}
use Rattle.yl_record.proofs.recorder.Recorder.finish.Goals as goal

pub end_rows-requires : goal.end_rows-requires
end_rows-requires g c = c.self.invariant (search rules)

pub returns-clause-told : goal.returns-clause-told
returns-clause-told g c = c.in_ok-end_rows.ensures ∙ ap (λ (v : RecorderValue). recorded v []) c.self.view_is
