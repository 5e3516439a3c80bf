use Rattle.std.proofs.Common.{sym, ◌∙◌, codes}
use Rattle.yl_text.specs.declared.finding.RuleId.TheVariants.{KeyDuplicates}
use Rattle.yl_events.specs.Event.{event_value}
use Rattle.yl_tree.specs.Keys.{name_of}
use Rattle.yl_tree.specs.KeyRules.{is_duplicate}
use Rattle.yl_tree.proofs.KeyTold.{key_told}
use Rattle.yl_tree.proofs.duplicates.push_duplicate.Goals as goal

pub returns : goal.returns
returns g c = λ before after behind.
    let event = event_value c.args.event.now in
    key_told (is_duplicate c.args.options.now) KeyDuplicates (codes "duplication of key \"") before
    event (name_of event) c.in-Some.name.now c.args.found.now.items _ _ c.in-Some.ensures
    (sym (c.is_duplicate.ensures before behind) ∙ c.if-not-is_duplicate.false)
    c.in_ok-problem.ensures c.in_ok-push_found.ensures
