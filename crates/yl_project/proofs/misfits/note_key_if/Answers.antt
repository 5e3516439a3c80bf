use Rattle.std.proofs.Common.{◌≡◌, ◌∷◌, [], false, not, rules, ap, sym}
use Rattle.yl_config.specs.Misfits.{at_key}
use Rattle.yl_config.specs.declared.misfit.MisfitKind.TheVariants.{BadValue}
use Rattle.yl_project.proofs.Folding.{noted_nothing}
use Rattle.yl_project.proofs.misfits.note_key_if.Goals as goal

pub returns-else-is_misfit : goal.returns-else-is_misfit
returns-else-is_misfit c =
    let none : c.args.is_misfit ≡ false = search rules in
    sym (noted_nothing c.args.reading.now.first (not c.args.is_misfit) (at_key BadValue c.args.place) (ap not none))
