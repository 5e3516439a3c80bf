use Rattle.std.proofs.Common.{rules, sym, ◌∙◌}
use Rattle.yl_scan.proofs.States.{items_told}
use Rattle.yl_record.proofs.sharing.has_same_levels.Goals as goal

pub returns : goal.returns
returns g c = λ h. sym c.items.ensures ∙ (items_told _ (λ x y h. search rules) (λ x. search rules) c.items.result c.items-2.result (c.are_few_and_like.ensures h) ∙ c.items-2.ensures)
