use Rattle.std.proofs.Common.{arith, ◌∙◌}
use Rattle.yl_found.proofs.Shows.{upto_all}
use Rattle.yl_patch.proofs.patching.showing_unless.Goals as goal

pub returns : goal.returns
returns g c = c.in_ok-showing.ensures ∙ upto_all c.len.result (g.L.Lines.rows c.args.lines.now) c.args.survey.now.sections (omega (arith, c.len.ensures))
