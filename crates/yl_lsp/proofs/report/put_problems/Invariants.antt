use Rattle.std.proofs.Common.{true, map, take}
use Rattle.yl_units.specs.Places.{IsReached}
use Rattle.yl_lsp.specs.Reports.{problem_diagnostic}
use Rattle.yl_lsp.specs.Texts.{diagnostics_text}
use Rattle.yl_lsp.proofs.report.put_problems.Given as goal

abbrev pub invariant-loop-i : goal.invariant-loop-i
invariant-loop-i g l = record {
  can : g.P.Pieces.can_put l.to;
  reached : IsReached l.how.encoding (g.S.Lines.rows l.lines) l.walk;
  put : g.P.Pieces.puts l.initial.to (diagnostics_text true (map (problem_diagnostic l.how (g.S.Lines.rows l.lines)) (take l.i l.problems))) l.to;
}
