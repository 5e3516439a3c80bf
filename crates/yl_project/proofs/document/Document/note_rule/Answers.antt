use Rattle.std.proofs.Common.{rules, ◌≡◌, ◌&&◌, false, codes, is_some}
use Rattle.std.specs.List.{flat_map}
use Rattle.yl_settings.specs.Item.{entry_value}
use Rattle.yl_settings.specs.Nodes.{entries_of, starts_mapping}
use Rattle.yl_settings.specs.Words.{word}
use Rattle.yl_config.specs.Misfits.{place_or, rule_named}
use Rattle.yl_project.specs.Misfits.{is_key, option_misfits, patterns_misfits}
use Rattle.yl_project.proofs.Folding.{noted_else}
use Rattle.yl_project.proofs.document.Document.note_rule.Goals as goal

pub returns-else-is_rule_mapping : goal.returns-else-is_rule_mapping
returns-else-is_rule_mapping g c =
    let lines = c.args.self.now.rows.now in
    let e = entry_value c.args.self.now.events.now c.args.entry.now in
    let other : (is_some (rule_named (word e.key)) && starts_mapping e.value.kind) ≡ false = search rules in
    noted_else c.args.reading.now.first (is_some (rule_named (word e.key)) && starts_mapping e.value.kind) (flat_map (option_misfits lines (place_or (place_or c.args.mapping e.key_place) e.value.place)) (entries_of e.value.inside)) other
