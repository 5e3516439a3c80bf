use Rattle.std.proofs.Common.{rules}
use Rattle.std.specs.Prelude.{nat_le}
use Rattle.std.proofs.lemmas.List.Sorted.{IsPartitionPoint-from_clause, IsPartitionedBy-leb}
use Rattle.yl_report.specs.Report.{ProblemValue}
use Rattle.yl_problem_lists.proofs.Lasts.{counted, lines_rise}
use Rattle.yl_problem_lists.proofs.places.count_upto.Goals as goal

pub returns-clause-count : goal.returns-clause-count
returns-clause-count g c =
    let ps = c.args.problems.now in
    let n = c.partition_point.result in
    let parted = IsPartitionPoint-from_clause (λ (p : ProblemValue). nat_le p.line c.args.line) ps n c.partition_point.ensures.partitioned
    (IsPartitionedBy-leb (λ (p : ProblemValue). p.line) ps c.args.line (lines_rise ps c.requires)) (λ a r f' k. search rules) in
    counted c.args.line n ps c.partition_point.ensures.bound parted
