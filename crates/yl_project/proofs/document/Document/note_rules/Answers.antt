use Rattle.std.proofs.Common.{◌≡◌, [], Option, ap, sym, ◌∙◌}
use Rattle.std.specs.List.{flat_map}
use Rattle.yl_settings.specs.Item.{entry_value, nodes_at}
use Rattle.yl_settings.specs.Nodes.{entries_of}
use Rattle.yl_settings.proofs.AtNone.{at_none}
use Rattle.yl_config.specs.declared.misfit.Misfit.{Misfit}
use Rattle.yl_config.specs.Misfits.{earliest}
use Rattle.yl_config.proofs.Folding.{earliest-entries, earliest-no_entry}
use Rattle.yl_project.specs.Misfits.{rule_ignore_misfits}
use Rattle.yl_project.proofs.document.Document.note_rules.Goals as goal

pub loop-entry-preserved : goal.loop-entry-preserved
loop-entry-preserved g c =
    let events = c.args.self.now.events.now in
    let f = rule_ignore_misfits c.args.self.now.rows.now c.args.mapping in
    let e = entry_value events c.in-Some.entry in
    let es = entries_of (nodes_at events c.loop-entry.rest) in
    let more = entries_of (nodes_at events c.in-Some.entry.more) in
    record {
      within = c.in-Some.ensures.within;
      first = ap (λ (o : Option Misfit). earliest o (flat_map f more)) c.in_ok-note_rule.ensures
          ∙ (earliest-entries f c.loop-entry.reading.first e more es c.in-Some.ensures.entry ∙ c.loop-entry.invariant.first);
    }

pub returns : goal.returns
returns g c =
    let events = c.args.self.now.events.now in
    let es = entries_of (nodes_at events c.loop-entry.rest) in
    let nothing : es ≡ [] = at_none c.first_entry.result _ _ c.in_default.not-Some c.first_entry.ensures.entry in
    sym (earliest-no_entry (rule_ignore_misfits c.args.self.now.rows.now c.args.mapping) c.loop-entry.reading.first es nothing) ∙ c.loop-entry.invariant.first
