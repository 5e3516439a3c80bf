use Rattle.std.proofs.Common.{rules, ◌≡◌, ◌&&◌, false, codes, is_some}
use Rattle.std.specs.List.{flat_map}
use Rattle.yl_settings.specs.Item.{entry_value}
use Rattle.yl_settings.specs.Nodes.{entries_of, starts_mapping}
use Rattle.yl_settings.specs.Words.{word}
use Rattle.yl_config.specs.Misfits.{place_or, rule_named}
use Rattle.yl_project.specs.Misfits.{is_key, option_misfits, patterns_misfits}
use Rattle.yl_project.proofs.Folding.{noted_else}
use Rattle.yl_project.proofs.document.Document.note_option.Goals as goal

pub returns-else-eq : goal.returns-else-eq
returns-else-eq g c =
    let lines = c.args.self.now.rows.now in
    let e = entry_value c.args.self.now.events.now c.args.entry.now in
    let other : (is_key (codes "ignore") e) ≡ false = search rules in
    noted_else c.args.reading.now.first (is_key (codes "ignore") e) (patterns_misfits lines c.args.mapping (place_or c.args.mapping e.key_place) e.value) other
