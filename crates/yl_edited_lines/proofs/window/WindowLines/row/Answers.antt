use Rattle.std.proofs.Common.{◌≡◌, ◌<◌, List, Some, length, arith, subst, sym}
use Rattle.std.specs.List.{slice_get}
use Rattle.yl_text.specs.Lines.{RowValue}
use Rattle.yl_edited_lines.proofs.Windows.{row_within, few_within}
use Rattle.yl_edited_lines.proofs.window.WindowLines.row.Goals as goal

pub overflow_add-self-inside : goal.overflow_add-self-inside
overflow_add-self-inside g c =
    let i = few_within c.self.inside.lines c.self.inside.from c.self.inside.end c.args.i (subst (λ (xs : List RowValue). c.args.i < length xs) (sym c.self.view_is) c.requires) in
    omega (arith, i, c.self.invariant.1, c.self.invariant.0.ordered)

pub row-requires : goal.row-requires
row-requires g c =
    let i = few_within c.self.inside.lines c.self.inside.from c.self.inside.end c.args.i (subst (λ (xs : List RowValue). c.args.i < length xs) (sym c.self.view_is) c.requires) in
    omega (arith, i, c.self.invariant.0.within, c.self.invariant.0.ordered)

pub returns : goal.returns
returns g c =
    subst (λ (xs : List RowValue). slice_get xs c.args.i ≡ Some c.row.result.now) c.self.view_is
    (row_within c.self.inside.lines c.self.inside.from c.self.inside.end c.args.i c.row.result.now (subst (λ (xs : List RowValue). c.args.i < length xs) (sym c.self.view_is) c.requires) c.row.ensures)
