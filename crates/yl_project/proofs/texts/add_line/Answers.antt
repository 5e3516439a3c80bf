use Rattle.yl_patterns.specs.Patterns.{line_of}
use Rattle.yl_project.specs.Texts.{with_line}
use Rattle.yl_project.proofs.Adding.{added}
use Rattle.yl_project.proofs.texts.add_line.Goals as goal

pub returns : goal.returns
unfolding with_line
returns g c = added c.add.result c.args.patterns.now c.add.new.self (line_of c.args.line.now) c.add.ensures.ok c.add.ensures.good c.add.ensures.bad
