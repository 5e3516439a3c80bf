use Rattle.std.proofs.Common.{◌≡◌, ◌≤◌, Option, IfSome, [], bytes_eq, length, subst, ap, sym, ◌∙◌}
use Rattle.std.specs.Option.{option_map}
use Rattle.yl_events.specs.Event.{kind_value}
use Rattle.yl_settings.specs.declared.node.Item.{Item}
use Rattle.yl_settings.specs.Item.{entry_value, item_value, nodes_at}
use Rattle.yl_settings.specs.Nodes.{ItemValue, entries_of}
use Rattle.yl_settings.specs.Words.{word}
use Rattle.yl_settings.proofs.AtNone.{at_none}
use Rattle.yl_project.specs.Said.{last_value}
use Rattle.yl_project.proofs.Folding.{kept, last_value-first, last_value-none, mapped}
use Rattle.yl_project.proofs.entries.value_of.Goals as goal

pub loop-entry-preserved : goal.loop-entry-preserved
loop-entry-preserved c =
    let events = c.args.events.now in
    let name = c.args.name.now in
    let x = c.in-Some.entry.value in
    let is_it = bytes_eq (word (kind_value c.in-Some.entry.key)) name in
    let e = entry_value events c.in-Some.entry in
    let es = entries_of (nodes_at events c.loop-entry.rest) in
    let more = entries_of (nodes_at events c.in-Some.entry.more) in
    let Within : Item → Type 0 = λ item. item.inside ≤ length events in
    let P : Option Item → Type 0 = λ o. IfSome o Within in
    record {
      within = c.in-Some.ensures.within;
      inside = subst P (sym c.value_or-value.ensures) (kept Within is_it x c.loop-entry.value c.in-Some.ensures.inside c.loop-entry.invariant.inside);
      last = ap (λ (o : Option Item). last_value name (option_map (item_value events) o) more) c.value_or-value.ensures
          ∙ (ap (λ (o : Option ItemValue). last_value name o more) (mapped (item_value events) is_it x c.loop-entry.value)
          ∙ (last_value-first name (option_map (item_value events) c.loop-entry.value) e more es c.in-Some.ensures.entry ∙ c.loop-entry.invariant.last));
    }

pub returns-clause-value : goal.returns-clause-value
returns-clause-value c =
    let events = c.args.events.now in
    let es = entries_of (nodes_at events c.loop-entry.rest) in
    let nothing : es ≡ [] = at_none c.first_entry.result _ _ c.in_default.not-Some c.first_entry.ensures.entry in
    sym (last_value-none c.args.name.now (option_map (item_value events) c.loop-entry.value) es nothing) ∙ c.loop-entry.invariant.last
