use Rattle.std.proofs.Common.{[], ◌+◌, ap}
use Rattle.std.proofs.lemmas.Option.{IfSome_then}
use Rattle.yl_scalar.specs.QuotedSteps.{quoted_start, quoted_step_behind}
use Rattle.yl_scalar.proofs.quoted.simple_quoted.Goals as goal

pub returns-clause-value : goal.returns-clause-value
returns-clause-value c = IfSome_then c.simple_part.result c.simple_part.ensures.part (λ part h opening. ap (quoted_step_behind (quoted_start c.args.double opening) (opening + 1)) (h []))
