use Rattle.std.proofs.Common.{◌≡◌, true, rules, sym}
use Rattle.yl_events.specs.Event.{kind_value}
use Rattle.yl_config.specs.Misfits.{at_value}
use Rattle.yl_project.proofs.Folding.{noted_nothing}
use Rattle.yl_project.proofs.misfits.note_unless.Goals as goal

pub returns-else-not-fits : goal.returns-else-not-fits
returns-else-not-fits c =
    let all : c.args.fits ≡ true = search rules in
    sym (noted_nothing c.args.reading.now.first c.args.fits (at_value c.args.kind c.args.key (kind_value c.args.item.now.kind) c.args.item.now.place) all)
