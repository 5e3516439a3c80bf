use Rattle.std.proofs.Common.{◌≡◌, ◌-◌, List, map, subst, arith}
use Rattle.std.specs.Prelude.{IfOk}
use Rattle.yl_lexeme.specs.PlacedComments.{placed_comment_value}
use Rattle.yl_sections.specs.Kept.{KeptValue}
use Rattle.yl_lint.specs.TextReport.{comments_in_sections}
use Rattle.yl_found.proofs.SilencingSections.{come_few, come_is, come_within}
use Rattle.yl_patch.proofs.speaking.comments_come.Goals as goal

pub overflow_add-end : goal.overflow_add-end
overflow_add-end g c =
    let e = c.args.edit.now in
    omega (arith, come_few e.sections.now.items e.kept.now e.from e.end c.requires.range.ordered c.requires.range.within c.requires.few_then)

pub comments_among-requires : goal.comments_among-requires
comments_among-requires g c =
    let e = c.args.edit.now in
    come_within e.sections.now.items e.kept.now c.spliced.result e.from e.end c.requires.range.ordered c.requires.range.within c.spliced.ensures

pub returns : goal.returns
returns g c =
    let e = c.args.edit.now in
    subst (λ (xs : List KeptValue). IfOk c.comments_among.result (λ v. map placed_comment_value v.items ≡ comments_in_sections 0 xs)) (come_is e.sections.now.items e.kept.now c.spliced.result e.from e.end c.requires.range.ordered c.requires.range.within c.spliced.ensures) c.comments_among.ensures
