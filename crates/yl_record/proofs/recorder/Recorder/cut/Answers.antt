use Rattle.std.proofs.Common.{◌≡◌, ◌-◌, length, take, ap, ◌∙◌, arith, vec_len}
use Rattle.yl_record.specs.Recorded.{RecorderValue}
use Rattle.yl_record.proofs.Fits.{cut_recorded}
use Rattle.yl_record.proofs.recorder.Recorder.cut.Goals as goal

pub returns : goal.returns
returns g c =
    let i = c.self.inside in
    let same : vec_len i.records ≡ length i.records.items = omega (arith, i.records.ok.0) in
    cut_recorded c.args.self i.records.items c.pop.new.self.items i.taken i.scanner i.refused c.self.view_is (c.self.invariant (ap (λ (r : RecorderValue). r.refused) c.self.view_is ∙ c.requires.whole)) c.requires.sound
    (c.pop.ensures.rest ∙ ap (λ n. take (n - 1) i.records.items) same)
