use Rattle.yl_problem_lists.proofs.Lines.{not_shifted}
use Rattle.yl_problem_lists.proofs.shifting.shift_behind.Goals as goal

pub returns-else-old_end-new_end-clause-items : goal.returns-else-old_end-new_end-clause-items
returns-else-old_end-new_end-clause-items g c = not_shifted c.args.old_end c.args.new_end c.args.problems.now.items c.if-old_end-new_end.false c.requires.order
