use Rattle.std.proofs.Common.{rules}
use Rattle.std.proofs.lemmas.Fn.{filter_same}
use Rattle.yl_problem_lists.specs.Parts.{stays_judged}
use Rattle.yl_problem_lists.proofs.judging.drop_indentation.Goals as goal

pub returns-clause-items : goal.returns-clause-items
returns-clause-items g c =
    filter_same _ (stays_judged c.args.line) _ (λ x b f' k. search rules) c.args.problems.now.items c.retain.new.self.items c.retain.ensures.filtered
