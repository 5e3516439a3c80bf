use Rattle.std.proofs.Common.{◌≡◌, ◌+◌, length, ap, subst, sym, ◌∙◌, arith}
use Rattle.yl_record.specs.Recorded.{RecorderValue}
use Rattle.yl_record.specs.Recorder.{KeepsStep}
use Rattle.yl_record.proofs.Fits.{complete_within, gone_told, kept_rest, least_count}
use Rattle.yl_record.proofs.recorder.Recorder.let_go.Goals as goal

pub remove_front-requires : goal.remove_front-requires
remove_front-requires g c =
    let i = c.self.inside in
    let keeps = c.self.invariant (ap (λ (r : RecorderValue). r.refused) c.self.view_is ∙ c.requires.whole) in
    let least = least_count c.args.self.now i.records.items c.args.count i.taken i.scanner i.refused c.self.view_is c.requires.complete in
    let within = complete_within c.args.count i.records.items i.taken i.scanner keeps least in
    record { ordered = omega arith; within = omega (arith, within, i.records.ok.0) }

pub overflow_cast-self : goal.overflow_cast-self
overflow_cast-self g c =
    let i = c.self.inside in
    let keeps = c.self.invariant (ap (λ (r : RecorderValue). r.refused) c.self.view_is ∙ c.requires.whole) in
    let least = least_count c.args.self.now i.records.items c.args.count i.taken i.scanner i.refused c.self.view_is c.requires.complete in
    let within = complete_within c.args.count i.records.items i.taken i.scanner keeps least in
    record { fits = omega (arith, within, keeps.line, keeps.few) }

pub overflow_add-self : goal.overflow_add-self
overflow_add-self g c =
    let i = c.self.inside in
    let keeps = c.self.invariant (ap (λ (r : RecorderValue). r.refused) c.self.view_is ∙ c.requires.whole) in
    let least = least_count c.args.self.now i.records.items c.args.count i.taken i.scanner i.refused c.self.view_is c.requires.complete in
    let within = complete_within c.args.count i.records.items i.taken i.scanner keeps least in
    record { fits = omega (arith, within, keeps.line, keeps.few) }

pub invariant_of-self : goal.invariant_of-self
invariant_of-self g c =
    let i = c.self.inside in
    let keeps = c.self.invariant (ap (λ (r : RecorderValue). r.refused) c.self.view_is ∙ c.requires.whole) in
    let least = least_count c.args.self.now i.records.items c.args.count i.taken i.scanner i.refused c.self.view_is c.requires.complete in
    let within = complete_within c.args.count i.records.items i.taken i.scanner keeps least in
    λ h. subst (λ xs. KeepsStep xs (i.taken + c.args.count) i.scanner) (sym c.remove_front.ensures) (kept_rest c.args.count i.records.items i.taken i.scanner keeps least)

pub returns-clause-told : goal.returns-clause-told
returns-clause-told g c =
    let i = c.self.inside in
    let keeps = c.self.invariant (ap (λ (r : RecorderValue). r.refused) c.self.view_is ∙ c.requires.whole) in
    let least = least_count c.args.self.now i.records.items c.args.count i.taken i.scanner i.refused c.self.view_is c.requires.complete in
    let within = complete_within c.args.count i.records.items i.taken i.scanner keeps least in
    gone_told c.args.self.now i.records.items c.remove_front.new.records.items c.args.count i.taken i.scanner i.refused c.self.view_is keeps c.requires.complete c.remove_front.ensures
