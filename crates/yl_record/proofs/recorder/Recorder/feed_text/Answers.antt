use Rattle.std.proofs.Common.{◌≡◌, ◌∷◌, false, rules, ap, ◌∙◌}
use Rattle.std.specs.Str.{chars}
use Rattle.yl_record.specs.Recorded.{RecorderValue, recorded}
use Rattle.yl_record.proofs.Fits.{few_left}
use Rattle.yl_record.proofs.recorder.Recorder.feed_text.Goals as goal

pub feed_row-requires-clause-keeps : goal.feed_row-requires-clause-keeps
feed_row-requires-clause-keeps g c = c.self.invariant (search rules)

pub feed_row-requires-clause-few : goal.feed_row-requires-clause-few
feed_row-requires-clause-few g c =
    let i = c.self.inside in
    let whole : i.refused ≡ false = search rules in
    few_left c.args.self.now i.records.items i.taken i.scanner i.refused c.self.view_is whole (c.self.invariant whole) c.requires.few

pub invariant_of-self-2 : goal.invariant_of-self-2
invariant_of-self-2 g c = λ h. c.in_ok-feed_row.ensures.keeps

pub returns-clause-told : goal.returns-clause-told
returns-clause-told g c = λ rows. c.in_ok-feed_row.ensures.told rows ∙ ap (λ (v : RecorderValue). recorded v (chars c.args.text.now ∷ rows)) c.self.view_is
