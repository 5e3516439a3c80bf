use Rattle.std.proofs.Common.{arith, rules}
use Rattle.std.specs.Prelude.{ℕ, Bool, List, [], if◌then◌else◌}
use Rattle.yl_report.specs.Report.{ProblemValue}
use Rattle.yl_devices.proofs.Pieces.{items_break, items_go_on, on_err}
use Rattle.yl_formats.specs.declared.format.Listing.{Listing}
use Rattle.yl_formats.specs.Formats.{is_hidden}
use Rattle.yl_formats.specs.Listings.{line_of}
use Rattle.yl_formats.proofs.listing.put_problems.Goals as goal

-- what is printed of a problem
abbrev problem_text : Listing → List ℕ → Bool → ProblemValue → List ℕ
problem_text listing name no_warnings p = if is_hidden no_warnings p then [] else line_of listing name p

pub returns-in_err-put_problem-clause-err : goal.returns-in_err-put_problem-clause-err
returns-in_err-put_problem-clause-err g c =
    on_err c.from_residual.result
    (items_break (problem_text c.args.listing c.args.name.now c.args.no_warnings) c.args.problems.now c.loop-problem.problem-index _ c.problem-item.is (omega arith) _ _ _ _ _
    c.loop-problem.invariant.passed c.in_err-put_problem.ensures.err)

pub loop-problem-preserved : goal.loop-problem-preserved
loop-problem-preserved g c = record {
  quiet = search rules;
  passed = items_go_on (problem_text c.args.listing c.args.name.now c.args.no_warnings) c.args.problems.now c.loop-problem.problem-index _ c.problem-item.is (omega arith) _ _ _ _ _ _
      c.loop-problem.invariant.passed c.in_ok-put_problem.ensures.ok;
}
