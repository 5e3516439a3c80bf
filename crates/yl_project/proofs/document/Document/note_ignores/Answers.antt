use Rattle.std.proofs.Common.{rules, ◌≡◌, false}
use Rattle.std.specs.List.{flat_map}
use Rattle.yl_settings.specs.Item.{item_value}
use Rattle.yl_settings.specs.Nodes.{entries_of, starts_mapping}
use Rattle.yl_config.specs.Misfits.{place_or}
use Rattle.yl_project.specs.Misfits.{rule_ignore_misfits}
use Rattle.yl_project.proofs.Folding.{noted_else}
use Rattle.yl_project.proofs.document.Document.note_ignores.Goals as goal

pub returns-else-starts_mapping : goal.returns-else-starts_mapping
returns-else-starts_mapping g c =
    let value = item_value c.args.self.now.events.now c.args.item.now in
    let other : starts_mapping value.kind ≡ false = search rules in
    noted_else c.args.reading.now.first (starts_mapping value.kind) (flat_map (rule_ignore_misfits c.args.self.now.rows.now (place_or c.args.key value.place)) (entries_of value.inside)) other
