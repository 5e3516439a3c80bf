use Rattle.std.proofs.Common.{arith}
use Rattle.yl_summary.proofs.Joined.{few_put}
use Rattle.yl_summary.proofs.edit.SectionEdit.spliced.Goals as goal

pub new-requires-clause-few : goal.new-requires-clause-few
new-requires-clause-few g c =
    let e = c.args.self.now in
    omega (arith, c.requires.few.sections, few_put e.sections.now.items e.kept.now e.from e.end c.requires.few_then)
