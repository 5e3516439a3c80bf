use Rattle.std.proofs.Common.{rules}
use Rattle.yl_scan.proofs.States.{items_told}
use Rattle.yl_scan.proofs.state.keeps_levels.Goals as goal

pub returns : goal.returns
returns g c = λ h. items_told _ (λ x y h. search rules) (λ x. search rules) c.args.kept.now c.args.levels.now (c.keeps.ensures h)
