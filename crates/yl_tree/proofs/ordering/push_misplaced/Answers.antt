use Rattle.std.proofs.Common.{sym, ◌∙◌, codes}
use Rattle.std.specs.List.{list_any}
use Rattle.yl_text.specs.declared.finding.RuleId.TheVariants.{KeyOrdering}
use Rattle.yl_events.specs.Event.{event_value}
use Rattle.yl_tree.specs.Keys.{name_of}
use Rattle.yl_tree.specs.KeyRules.{is_greater}
use Rattle.yl_tree.proofs.KeyTold.{key_told}
use Rattle.yl_tree.proofs.ordering.push_misplaced.Goals as goal

pub returns : goal.returns
returns g c = λ before after behind.
    let event = event_value c.args.event.now in
    key_told (λ earlier name. list_any (λ key. is_greater key name) earlier) KeyOrdering (codes "wrong ordering of key \"") before
    event (name_of event) c.in-Some.name.now c.args.found.now.items _ _ c.in-Some.ensures
    (sym (c.is_spoken_against.ensures before behind) ∙ c.if-not-is_spoken_against.false)
    c.in_ok-problem.ensures c.in_ok-push_found.ensures
