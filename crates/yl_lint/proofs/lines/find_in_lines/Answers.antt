use Rattle.std.proofs.Common.{rules, ◌≡◌, ◌≤◌, ◌+◌, ◌++◌, ◌∙◌, [], ap, sym, length, arith, drop}
use Rattle.std.proofs.Math.ListN.{drop_of_length-le}
use Rattle.std.proofs.lemmas.List.{take-append-drop, drop-drop, length-take, length-drop}
use Rattle.yl_config.specs.Config.{options_of}
use Rattle.yl_lint.specs.Left.{lines_left}
use Rattle.yl_lint.specs.TextReport.{findings_in_lines}
use Rattle.yl_lint.proofs.Rows.{passed_more}
use Rattle.yl_lint.proofs.Passed.{if_same}
use Rattle.yl_lint.proofs.lines.find_in_lines.Goals as goal

pub loop-passed-preserved-then-is_empty : goal.loop-passed-preserved-then-is_empty
loop-passed-preserved-then-is_empty g c =
    let rows = g.L.Lines.rows c.args.lines.now in
    record {
      within = search rules;
      count = c.in_ok-pass.ensures.count ∙ ap (λ n. n + 1) c.loop-passed.invariant.count;
      left = passed_more lines_left rows c.loop-passed.passed c.row-row.result.now c.as_str.result.now c.end.result c.loop-passed.reader c.pass.new.self (findings_in_lines (options_of c.args.config.now) rows)
          c.row-row.ensures c.as_str.ensures c.end.ensures c.in_ok-pass.ensures.left c.loop-passed.invariant.left;
    }

pub loop-passed-preserved : goal.loop-passed-preserved
loop-passed-preserved g c =
    let rows = g.L.Lines.rows c.args.lines.now in
    let i = c.loop-passed.passed in
    let together = c.rows_from-rows.result.now in
    let n = length together in
    let is = c.rows_from-rows.ensures in
    let at : drop i rows ≡ together ++ drop (i + n) rows = sym (take-append-drop n (drop i rows)) ∙ ap (λ u. u ++ drop n (drop i rows)) is ∙ ap (λ u. together ++ u) (drop-drop n i rows) in
    let few : n ≤ length (drop i rows) = omega (arith, ap length is, length-take n (drop i rows)) in
    record {
      within = omega (arith, few, length-drop i rows, c.loop-passed.invariant.within);
      count = omega (arith, c.in_ok-pass_all.ensures.count, c.loop-passed.invariant.count);
      left = c.in_ok-pass_all.ensures.left (drop (i + n) rows) ∙ ap (lines_left c.loop-passed.reader) (sym at) ∙ c.loop-passed.invariant.left;
    }

pub returns : goal.returns
returns g c =
    let rows = g.L.Lines.rows c.args.lines.now in
    let ended : c.loop-passed.passed ≡ length rows = search rules in
    let whole : lines_left c.loop-passed.reader [] ≡ findings_in_lines (options_of c.args.config.now) rows =
    ap (lines_left c.loop-passed.reader) (sym (drop_of_length-le rows (omega (arith, ended)))) ∙ c.loop-passed.invariant.left in
    if_same c.finish.result (λ v. v.items) (lines_left c.loop-passed.reader []) (findings_in_lines (options_of c.args.config.now) rows) whole c.finish.ensures
