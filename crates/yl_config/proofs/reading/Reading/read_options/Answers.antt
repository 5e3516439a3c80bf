use Rattle.std.proofs.Common.{◌≡◌, [], Option, ap, sym, ◌∙◌}
use Rattle.std.specs.List.{flat_map}
use Rattle.yl_config.specs.declared.misfit.Misfit.{Misfit}
use Rattle.yl_config.specs.Config.{config_settings}
use Rattle.yl_settings.specs.Item.{entry_value, nodes_at}
use Rattle.yl_config.specs.Misfits.{earliest, option_misfits}
use Rattle.yl_settings.specs.Nodes.{entries_of}
use Rattle.yl_config.specs.Settings.{Settings, with_options}
use Rattle.yl_settings.proofs.AtNone.{at_none}
use Rattle.yl_config.proofs.Folding.{earliest-entries, with_options-entries, with_options-no_entry}
use Rattle.yl_config.proofs.reading.Reading.read_options.Goals as goal

pub loop-entry-preserved : goal.loop-entry-preserved
loop-entry-preserved c =
    let f = option_misfits c.args.rule c.args.mapping in
    let e = entry_value c.args.events.now c.in-Some.entry in
    let es = entries_of (nodes_at c.args.events.now c.loop-entry.rest) in
    let more = entries_of (nodes_at c.args.events.now c.in-Some.entry.more) in
    record {
      within = c.in-Some.ensures.within;
      first = ap (λ (o : Option Misfit). earliest o (flat_map f more)) c.read_option.ensures.first
          ∙ (earliest-entries f c.loop-entry.self.first e more es c.in-Some.ensures.entry ∙ c.loop-entry.invariant.first);
      said = ap (λ (o : Settings). with_options c.args.rule more o) c.read_option.ensures.said
          ∙ (with_options-entries c.args.rule (config_settings c.loop-entry.self.config) e more es c.in-Some.ensures.entry ∙ c.loop-entry.invariant.said);
    }

pub returns-clause-said : goal.returns-clause-said
returns-clause-said c =
    let es = entries_of (nodes_at c.args.events.now c.loop-entry.rest) in
    let nothing : es ≡ [] = at_none c.first_entry.result _ _ c.in_default.not-Some c.first_entry.ensures.entry in
    sym (with_options-no_entry c.args.rule (config_settings c.loop-entry.self.config) es nothing) ∙ c.loop-entry.invariant.said
