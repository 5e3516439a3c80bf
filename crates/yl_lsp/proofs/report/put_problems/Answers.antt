use Rattle.std.proofs.Common.{ℕ, List, subst}
use Rattle.yl_devices.proofs.Pieces.{on_err}
use Rattle.yl_lsp.specs.Reports.{problem_diagnostic}
use Rattle.yl_lsp.proofs.Reported.{later_text, problem_put, problem_whole}
use Rattle.yl_lsp.proofs.report.put_problems.Goals as goal

pub returns-in_err-put_next-clause-err : goal.returns-in_err-put_next-clause-err
returns-in_err-put_next-clause-err g c =
    let laws = g.met.P.Pieces in
    let f = problem_diagnostic c.args.how (g.S.Lines.rows c.args.lines.now) in
    on_err c.from_residual.result (subst (λ (l : List ℕ). g.P.Pieces.breaks c.args.to.now l c.put_next.new.to)
    (problem_whole f c.args.problems.now c.loop-i.i c.index-problems-i.result c.index-problems-i.is c.loop-i-test.true _ c.diagnostic_of-diagnostic.ensures.value)
    (laws.broken_before _ _ _ (later_text f c.args.problems.now c.loop-i.i) (laws.broken_after _ _ _ _ _ c.loop-i.invariant.put c.in_err-put_next.ensures.err)))

pub loop-i-preserved : goal.loop-i-preserved
loop-i-preserved g c =
    let laws = g.met.P.Pieces in
    let f = problem_diagnostic c.args.how (g.S.Lines.rows c.args.lines.now) in
    record {
      can = laws.stays _ _ _ c.in_ok-put_next.ensures.ok c.loop-i.invariant.can;
      reached = c.diagnostic_of-diagnostic.ensures.reached;
      put = subst (λ (l : List ℕ). g.P.Pieces.puts c.args.to.now l c.put_next.new.to)
          (problem_put f c.args.problems.now c.loop-i.i c.index-problems-i.result c.index-problems-i.is c.loop-i-test.true _ c.diagnostic_of-diagnostic.ensures.value)
          (laws.joined _ _ _ _ _ c.loop-i.invariant.put c.in_ok-put_next.ensures.ok);
    }
