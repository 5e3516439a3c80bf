use Rattle.std.proofs.Common.{rules, ◌≡◌, Some, None, Err, ap, sym, ◌∙◌}
use Rattle.yl_events.specs.Event.{kind_value}
use Rattle.yl_settings.specs.Item.{nodes_at}
use Rattle.yl_settings.specs.Nodes.{NoNode}
use Rattle.yl_settings.proofs.AtNone.{at_none}
use Rattle.yl_project.proofs.Adding.{with_texts-fails, with_texts-first, with_texts-none}
use Rattle.yl_project.proofs.document.Document.add_texts.Goals as goal

pub loop-text-preserved : goal.loop-text-preserved
loop-text-preserved g c =
    let events = c.args.self.now.events.now in
    let x = c.in-Some.text in
    record {
      within = c.in-Some.ensures.within;
      same = with_texts-first c.args.self.now.rows.now c.args.column (kind_value x.item.kind) x.item.place (nodes_at events x.item.inside) (nodes_at events x.more) (nodes_at events c.loop-text.rest)
          c.loop-text.patterns c.add_text.new.patterns c.in-Some.ensures.item c.in_ok-add_text.ensures
          ∙ c.loop-text.invariant.same;
    }

pub returns-in_err-add_text : goal.returns-in_err-add_text
returns-in_err-add_text g c =
    let events = c.args.self.now.events.now in
    let x = c.in-Some.text in
    let same : c.from_residual.result ≡ Err c.in_err-add_text.field-0.0 = search rules in
    rw same (λ is_bad. sym c.loop-text.invariant.same
    ∙ with_texts-fails c.args.self.now.rows.now c.args.column (kind_value x.item.kind) x.item.place (nodes_at events x.item.inside) (nodes_at events x.more) (nodes_at events c.loop-text.rest)
    c.loop-text.patterns c.in-Some.ensures.item (c.in_err-add_text.ensures is_bad))

pub returns : goal.returns
returns g c =
    let events = c.args.self.now.events.now in
    let nothing : nodes_at events c.loop-text.rest ≡ NoNode = at_none c.first_item.result _ _ c.in_default.not-Some c.first_item.ensures.item in
    sym c.loop-text.invariant.same ∙ with_texts-none c.args.self.now.rows.now c.args.column (nodes_at events c.loop-text.rest) c.loop-text.patterns nothing
