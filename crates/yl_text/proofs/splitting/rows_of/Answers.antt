use Rattle.std.proofs.Common.{rules, ◌≡◌, ◌≢◌, ◌++◌, List, sym, ◌∙◌, ap}
use Rattle.std.proofs.lemmas.List.{append-nil}
use Rattle.yl_text.specs.declared.row.Break.TheVariants.{No}
use Rattle.yl_text.specs.Lines.{RowValue}
use Rattle.yl_text.specs.Split.{lines_behind}
use Rattle.yl_text.proofs.Cut.{goes_on, behind_break, behind_none}
use Rattle.yl_text.proofs.splitting.rows_of.Goals as goal

pub returns-then-eq : goal.returns-then-eq
returns-then-eq g c =
    let end = c.cut_line-first.result.end in
    let rest = c.cut_line-first.result.rest.now in
    let new = c.push.new.self.items in
    let last : end ≡ No = search rules in
    sym (append-nil new) ∙ ap (λ (rows : List RowValue). new ++ rows) (sym (behind_none end rest last))
    ∙ goes_on c.push.result c.in_ok-push.field-0 c.loop-rows.rows.items new c.in_ok-new.field-0 c.cut_line-first.result.line.now end c.loop-rows.rest.now c.args.text.now (lines_behind end rest) c.push.ensures.items c.in_ok-push.was
    c.in_ok-new.ensures.text c.in_ok-new.ensures.end c.cut_line-first.ensures.first c.loop-rows.invariant.same

pub loop-rows-smaller : goal.loop-rows-smaller
loop-rows-smaller g c =
    let more : c.cut_line-first.result.end ≢ No = search rules in
    c.cut_line-first.ensures.smaller more

pub loop-rows-preserved : goal.loop-rows-preserved
loop-rows-preserved g c =
    let end = c.cut_line-first.result.end in
    let rest = c.cut_line-first.result.rest.now in
    let new = c.push.new.self.items in
    let more : end ≢ No = search rules in
    record {
      utf8 = c.cut_line-first.ensures.utf8;
      same = ap (λ (rows : List RowValue). new ++ rows) (sym (behind_break end rest more))
          ∙ goes_on c.push.result c.in_ok-push.field-0 c.loop-rows.rows.items new c.in_ok-new.field-0 c.cut_line-first.result.line.now end c.loop-rows.rest.now c.args.text.now (lines_behind end rest) c.push.ensures.items c.in_ok-push.was
          c.in_ok-new.ensures.text c.in_ok-new.ensures.end c.cut_line-first.ensures.first c.loop-rows.invariant.same;
    }
