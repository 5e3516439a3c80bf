use Rattle.std.proofs.Common.{vec_len, arith}
use Rattle.yl_problem_lists.proofs.Judged.{put_again}
use Rattle.yl_problem_lists.proofs.judging.merge_indentation.Goals as goal

pub returns-clause-items : goal.returns-clause-items
returns-clause-items g c =
    put_again c.args.line c.args.problems.now.items c.args.new.items c.requires.order c.requires.new c.take_behind.new.shown.items c.take_behind.new.suppressed.items c.take_behind.new.spare.items c.push_back.new.problems.items
    c.take_behind.ensures.taken c.take_behind.ensures.shown c.take_behind.ensures.suppressed c.push_back.ensures.items
