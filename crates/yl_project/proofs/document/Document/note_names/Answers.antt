use Rattle.yl_events.specs.Event.{kind_value}
use Rattle.yl_settings.specs.Item.{item_value}
use Rattle.yl_config.specs.Misfits.{at_value}
use Rattle.yl_config.specs.declared.misfit.MisfitKind.TheVariants.{BadValue}
use Rattle.yl_project.specs.Misfits.{names_misfits, unless}
use Rattle.yl_project.proofs.Folding.{in_turn}
use Rattle.yl_project.proofs.document.Document.note_names.Goals as goal

pub returns : goal.returns
returns g c =
    let item = c.args.item.now in
    in_turn c.args.reading.now.first c.note_names_value.new.reading.first c.note_unless.new.reading.first
    (names_misfits c.args.key (item_value c.args.self.now.events.now item))
    (unless c.args.are_patterns (at_value BadValue c.args.key (kind_value item.kind) item.place))
    c.note_names_value.ensures c.note_unless.ensures
