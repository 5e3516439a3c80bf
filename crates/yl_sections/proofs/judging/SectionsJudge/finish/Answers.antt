use Rattle.yl_sections.proofs.SectionsJudging.{all_kept, kept_turned}
use Rattle.yl_sections.proofs.judging.SectionsJudge.finish.Goals as goal

pub returns : goal.returns
returns g c = λ rs h.
    all_kept c.args.config.now h.done h.here c.args.self.last rs c.push.new.self.items h.whole
    (kept_turned c.args.config.now h.done h.here c.args.self.kept.items c.push.new.self.items _ c.in_ok-push.ensures.items (c.in_ok-finish.ensures h.here h.judges) h.kept)
