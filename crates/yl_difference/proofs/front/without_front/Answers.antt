use Rattle.std.proofs.Common.{rules, ◌≡◌, ◌≢◌, ◌+◌, ◌∷◌, ap, ◌∙◌, arith, sym}
use Rattle.yl_text.specs.declared.row.Break.TheVariants.{No}
use Rattle.yl_text.specs.Lines.{RowValue, lines_of}
use Rattle.yl_text.specs.Split.{lines_behind}
use Rattle.yl_difference.specs.Rest.{IsRest}
use Rattle.yl_difference.proofs.Rests.{rest_more, rest_inside, few, front_more, row_is}
use Rattle.yl_difference.proofs.front.without_front.Goals as goal

pub overflow_add-lines : goal.overflow_add-lines
overflow_add-lines c =
    let first = c.cut_line-first.result in
    let more : first.end ≢ No = search rules in
    let next : IsRest c.args.old.now (c.loop-first.lines + 1) first.rest.now =
    rest_more c.args.old.now c.loop-first.lines c.loop-first.left.now (record { text = first.line.now; end = first.end }) first.end first.rest.now c.loop-first.invariant.old c.cut_line-first.ensures.first more in
    record { fits = omega (arith, rest_inside c.args.old.now (c.loop-first.lines + 1) first.rest.now next, few c.args.old.now, c.requires) }

pub loop-first-preserved : goal.loop-first-preserved
loop-first-preserved c =
    let first = c.cut_line-first.result in
    let second = c.cut_line-second.result in
    let more : first.end ≢ No = search rules in
    let ends : second.end ≡ first.end = search rules in
    let texts : second.line.now ≡ first.line.now = search rules in
    let row : RowValue = record { text = first.line.now; end = first.end } in
    let same : lines_of c.loop-first.right.now ≡ row ∷ lines_behind second.end second.rest.now =
    c.cut_line-second.ensures.first ∙ ap (λ (r : RowValue). r ∷ lines_behind second.end second.rest.now) (row_is second.line.now first.line.now second.end first.end texts ends) in
    record {
      left = c.cut_line-first.ensures.utf8;
      right = c.cut_line-second.ensures.utf8;
      old = rest_more c.args.old.now c.loop-first.lines c.loop-first.left.now row first.end first.rest.now c.loop-first.invariant.old c.cut_line-first.ensures.first more;
      new = front_more c.args.old.now c.args.new.now c.loop-first.lines c.loop-first.left.now c.loop-first.right.now row first.end second.end first.rest.now second.rest.now c.loop-first.invariant.old c.loop-first.invariant.new c.cut_line-first.ensures.first same (λ e. more (sym ends ∙ e));
    }
