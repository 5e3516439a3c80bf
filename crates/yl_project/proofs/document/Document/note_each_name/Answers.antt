use Rattle.std.proofs.Common.{◌≡◌, Option, ap, sym, ◌∙◌}
use Rattle.yl_events.specs.Event.{kind_value}
use Rattle.yl_settings.specs.Item.{nodes_at}
use Rattle.yl_settings.specs.Nodes.{NoNode}
use Rattle.yl_settings.proofs.AtNone.{at_none}
use Rattle.yl_config.specs.declared.misfit.Misfit.{Misfit}
use Rattle.yl_config.specs.Misfits.{earliest}
use Rattle.yl_project.specs.Misfits.{each_name_misfits}
use Rattle.yl_project.proofs.Folding.{names-first, names-none}
use Rattle.yl_project.proofs.document.Document.note_each_name.Goals as goal

pub loop-name-preserved : goal.loop-name-preserved
loop-name-preserved g c =
    let events = c.args.self.now.events.now in
    let key = c.args.key in
    let x = c.in-Some.name in
    record {
      within = c.in-Some.ensures.within;
      first = ap (λ (o : Option Misfit). earliest o (each_name_misfits key (nodes_at events x.more))) c.note_name.ensures
          ∙ (names-first key c.loop-name.reading.first (kind_value x.item.kind) x.item.place (nodes_at events x.item.inside) (nodes_at events x.more) (nodes_at events c.loop-name.rest) c.in-Some.ensures.item
          ∙ c.loop-name.invariant.first);
    }

pub returns : goal.returns
returns g c =
    let events = c.args.self.now.events.now in
    let key = c.args.key in
    let nothing : nodes_at events c.loop-name.rest ≡ NoNode = at_none c.first_item.result _ _ c.in_default.not-Some c.first_item.ensures.item in
    sym (names-none key c.loop-name.reading.first (nodes_at events c.loop-name.rest) nothing) ∙ c.loop-name.invariant.first
