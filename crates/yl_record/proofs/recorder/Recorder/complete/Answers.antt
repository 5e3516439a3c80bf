use Rattle.std.proofs.Common.{◌≡◌, length, ap, sym, ◌∙◌, arith}
use Rattle.yl_record.specs.Recorded.{RecorderValue}
use Rattle.yl_record.specs.Recorder.{complete_before}
use Rattle.yl_record.proofs.Fits.{complete_counted, complete_long, complete_told}
use Rattle.yl_record.proofs.recorder.Recorder.complete.Goals as goal

pub slice_bounds-result-end : goal.slice_bounds-result-end
slice_bounds-result-end g c =
    let i = c.self.inside in
    let keeps = c.self.invariant (ap (λ (r : RecorderValue). r.refused) c.self.view_is ∙ c.requires) in
    let len : c.len.result ≡ length i.records.items = omega (arith, c.len.ensures, i.records.ok.0) in
    let count = c.complete_len-count.ensures ∙ ap (λ m. complete_before m i.taken c.begun.result) len ∙ ap (complete_before (length i.records.items) i.taken) c.begun.ensures in
    sym (complete_long i.records.items c.deref.result.now c.complete_len-count.result i.taken i.scanner keeps count c.deref.ensures.value)

pub returns-clause-count : goal.returns-clause-count
returns-clause-count g c =
    let i = c.self.inside in
    let keeps = c.self.invariant (ap (λ (r : RecorderValue). r.refused) c.self.view_is ∙ c.requires) in
    let len : c.len.result ≡ length i.records.items = omega (arith, c.len.ensures, i.records.ok.0) in
    let count = c.complete_len-count.ensures ∙ ap (λ m. complete_before m i.taken c.begun.result) len ∙ ap (complete_before (length i.records.items) i.taken) c.begun.ensures in
    complete_counted c.args.self.now i.records.items c.deref.result.now c.complete_len-count.result i.taken i.scanner i.refused c.self.view_is keeps count c.deref.ensures.value

pub returns-clause-told : goal.returns-clause-told
returns-clause-told g c =
    let i = c.self.inside in
    let keeps = c.self.invariant (ap (λ (r : RecorderValue). r.refused) c.self.view_is ∙ c.requires) in
    let len : c.len.result ≡ length i.records.items = omega (arith, c.len.ensures, i.records.ok.0) in
    let count = c.complete_len-count.ensures ∙ ap (λ m. complete_before m i.taken c.begun.result) len ∙ ap (complete_before (length i.records.items) i.taken) c.begun.ensures in
    complete_told c.args.self.now i.records.items c.deref.result.now c.complete_len-count.result i.taken i.scanner i.refused c.self.view_is keeps count c.deref.ensures.value
