use Rattle.std.proofs.Common.{◌≡◌, Option, ap, sym, ◌∙◌}
use Rattle.yl_events.specs.Event.{kind_value}
use Rattle.yl_settings.specs.Item.{nodes_at}
use Rattle.yl_settings.specs.Nodes.{NoNode}
use Rattle.yl_settings.proofs.AtNone.{at_none}
use Rattle.yl_config.specs.declared.misfit.Misfit.{Misfit}
use Rattle.yl_config.specs.Misfits.{earliest}
use Rattle.yl_project.specs.Misfits.{texts_misfits}
use Rattle.yl_project.proofs.Folding.{texts-first, texts-none}
use Rattle.yl_project.proofs.document.Document.note_texts.Goals as goal

pub loop-text-preserved : goal.loop-text-preserved
loop-text-preserved g c =
    let events = c.args.self.now.events.now in
    let lines = c.args.self.now.rows.now in
    let place = c.args.place in
    let x = c.in-Some.text in
    record {
      within = c.in-Some.ensures.within;
      first = ap (λ (o : Option Misfit). earliest o (texts_misfits lines place.col place (nodes_at events x.more))) c.in_ok-note_text.ensures
          ∙ (texts-first lines place.col place c.loop-text.reading.first (kind_value x.item.kind) x.item.place (nodes_at events x.item.inside) (nodes_at events x.more) (nodes_at events c.loop-text.rest) c.in-Some.ensures.item
          ∙ c.loop-text.invariant.first);
    }

pub returns : goal.returns
returns g c =
    let events = c.args.self.now.events.now in
    let lines = c.args.self.now.rows.now in
    let place = c.args.place in
    let nothing : nodes_at events c.loop-text.rest ≡ NoNode = at_none c.first_item.result _ _ c.in_default.not-Some c.first_item.ensures.item in
    sym (texts-none lines place.col place c.loop-text.reading.first (nodes_at events c.loop-text.rest) nothing) ∙ c.loop-text.invariant.first
