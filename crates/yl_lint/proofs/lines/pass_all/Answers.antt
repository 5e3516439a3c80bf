use Rattle.std.proofs.Common.{◌≡◌, ◌+◌, ◌∷◌, ◌++◌, ◌∙◌, ap, sym, arith, drop, Some}
use Rattle.std.proofs.lemmas.Option.{slice_get-get_or}
use Rattle.yl_lint.specs.Left.{lines_left}
use Rattle.yl_lint.proofs.Rows.{rows_at}
use Rattle.yl_lint.proofs.lines.pass_all.Goals as goal

pub loop-row-preserved : goal.loop-row-preserved
loop-row-preserved g c =
    let rows = c.args.rows.now in
    let i = c.loop-row.row-index in
    let row = c.row-item.result in
    let rest = drop (i + 1) rows in
    let at : drop i rows ≡ row ∷ rest = rows_at rows i row (slice_get-get_or rows i row (omega arith) ∙ ap Some (sym c.row-item.is)) in
    record {
      count = omega (arith, c.in_ok-pass.ensures.count, c.loop-row.invariant.count);
      left = λ later.
          c.in_ok-pass.ensures.left (rest ++ later)
          ∙ ap (λ t. lines_left c.loop-row.reader (record { text = t; end = c.end.result } ∷ rest ++ later)) c.as_str.ensures
          ∙ ap (λ e. lines_left c.loop-row.reader (record { text = row.text; end = e } ∷ rest ++ later)) c.end.ensures
          ∙ ap (λ u. lines_left c.loop-row.reader (u ++ later)) (sym at)
          ∙ c.loop-row.invariant.left later;
    }
