use Rattle.std.proofs.Common.{List, ap, sym, ◌∙◌}
use Rattle.std.specs.List.{splice}
use Rattle.yl_sections.specs.Kept.{KeptValue}
use Rattle.yl_rejudge.proofs.Same.{splice_same}
use Rattle.yl_rejudge.proofs.rejudging.Rejudged.leaves.Goals as goal

pub returns : goal.returns
returns g c = λ h.
    let new = c.args.self.now in
    let ks = c.args.kept.now.items in
    sym (ap (λ (ns : List KeptValue). splice ks new.from new.end ns) c.deref.ensures.value)
    ∙ splice_same ks c.deref.result.now new.from new.end c.requires.ordered c.requires.within (c.are_same.ensures h)
