use Rattle.std.proofs.Common.{◌≡◌, List, ℕ, ap, sym, ◌∙◌, map, string_bytes}
use Rattle.yl_events.specs.Event.{kind_value}
use Rattle.yl_settings.specs.Item.{nodes_at}
use Rattle.yl_settings.specs.Nodes.{NoNode}
use Rattle.yl_settings.proofs.AtNone.{at_none}
use Rattle.yl_project.specs.Named.{with_names}
use Rattle.yl_project.proofs.Folding.{with_names-first, with_names-none}
use Rattle.yl_project.proofs.named.names_in.Goals as goal

pub loop-name-preserved : goal.loop-name-preserved
loop-name-preserved g c =
    let events = c.args.events.now in
    let x = c.in-Some.name in
    record {
      within = c.in-Some.ensures.within;
      same = ap (λ (o : List (List ℕ)). with_names o (nodes_at events x.more)) c.in_ok-add_name.ensures
          ∙ (with_names-first (map string_bytes c.loop-name.names.items) (kind_value x.item.kind) x.item.place (nodes_at events x.item.inside) (nodes_at events x.more) (nodes_at events c.loop-name.rest) c.in-Some.ensures.item
          ∙ c.loop-name.invariant.same);
    }

pub returns : goal.returns
returns g c =
    let events = c.args.events.now in
    let nothing : nodes_at events c.loop-name.rest ≡ NoNode = at_none c.first_item.result _ _ c.in_default.not-Some c.first_item.ensures.item in
    sym (with_names-none (map string_bytes c.loop-name.names.items) (nodes_at events c.loop-name.rest) nothing) ∙ c.loop-name.invariant.same
