use Rattle.std.proofs.Common.{◌≡◌, None, length, refl, ap, sym, ◌∙◌}
use Rattle.yl_events.specs.Event.{DocumentEnd}
use Rattle.yl_settings.specs.Item.{nodes_at}
use Rattle.yl_settings.specs.Nodes.{ItemValue, NoNode, Nodes, first_item}
use Rattle.yl_settings.proofs.Walk.{none_at_end}
use Rattle.yl_config.proofs.document.root_of.Goals as goal

abbrev end_item : Nodes → ItemValue
end_item inside = record { kind = DocumentEnd; place = None; inside = inside }

pub returns-in-None-clause-root : goal.returns-in-None-clause-root
returns-in-None-clause-root c =
    let nothing : nodes_at c.args.events.now (length c.args.events.now) ≡ NoNode = none_at_end c.args.events.now (length c.args.events.now) refl in
    ap end_item nothing ∙ sym (ap (λ (o : Nodes). first_item (first_item o).inside) c.in-None.ensures.item)

pub returns-in-None-first_item-clause-root : goal.returns-in-None-first_item-clause-root
returns-in-None-first_item-clause-root c =
    let nothing : nodes_at c.args.events.now (length c.args.events.now) ≡ NoNode = none_at_end c.args.events.now (length c.args.events.now) refl in
    ap end_item nothing
    ∙ sym (ap (λ (o : Nodes). first_item (first_item o).inside) c.in-Some.ensures.item ∙ ap first_item c.in-None-first_item.ensures.item)
