use Rattle.std.proofs.Common.{◌≡◌, ◌-◌, List, map, take, drop, subst}
use Rattle.std.specs.Prelude.{IfOk}
use Rattle.yl_lexeme.specs.PlacedComments.{placed_comment_value}
use Rattle.yl_sections.specs.Kept.{KeptValue}
use Rattle.yl_lint.specs.TextReport.{comments_in_sections}
use Rattle.yl_found.proofs.SilencingSections.{gone_within}
use Rattle.yl_patch.proofs.speaking.comments_gone.Goals as goal

pub comments_among-requires : goal.comments_among-requires
comments_among-requires g c = gone_within c.args.edit.now.sections.now.items c.new-before.result c.args.edit.now.end c.requires.range.within c.new-before.ensures

pub returns : goal.returns
returns g c =
    let e = c.args.edit.now in
    subst (λ (xs : List KeptValue). IfOk c.comments_among.result (λ v. map placed_comment_value v.items ≡ comments_in_sections 0 (take (e.end - e.from) (drop e.from xs)))) c.new-before.ensures c.comments_among.ensures
