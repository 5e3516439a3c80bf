use Rattle.std.proofs.Common.{arith, rules}
use Rattle.std.specs.Prelude.{ℕ, Bool, ◌&&◌, not, List, [], if◌then◌else◌}
use Rattle.yl_report.specs.Report.{ProblemValue, is_error, printed_line}
use Rattle.yl_devices.proofs.Pieces.{items_break, items_go_on, on_err}
use Rattle.yl_report.proofs.printing.put_problems.Goals as goal

-- what is printed of a problem
abbrev problem_text : List ℕ → Bool → ProblemValue → List ℕ
problem_text name no_warnings p = if no_warnings && not (is_error p.level) then [] else printed_line name p

pub returns-in_err-put_problem-clause-err : goal.returns-in_err-put_problem-clause-err
returns-in_err-put_problem-clause-err g c =
    on_err c.from_residual.result
    (items_break (problem_text c.args.name.now c.args.no_warnings) c.args.problems.now c.loop-problem.problem-index _ c.problem-item.is (omega arith) _ _ _ _ _
    c.loop-problem.invariant.passed c.in_err-put_problem.ensures.err)

pub loop-problem-preserved : goal.loop-problem-preserved
loop-problem-preserved g c = record {
  quiet = search rules;
  passed = items_go_on (problem_text c.args.name.now c.args.no_warnings) c.args.problems.now c.loop-problem.problem-index _ c.problem-item.is (omega arith) _ _ _ _ _ _
      c.loop-problem.invariant.passed c.in_ok-put_problem.ensures.ok;
}
