use Rattle.std.proofs.Common.{◌≡◌, ℕ, List, true, false, codes, refl, sym, ◌∙◌, ap, subst}
use Rattle.std.specs.Prelude.{IfOk, option_to_list}
use Rattle.yl_text.specs.declared.finding.RuleId.TheVariants.{Anchors}
use Rattle.yl_text.specs.Finding.{FindingValue}
use Rattle.yl_events.specs.Event.{EventValue, EventKindValue, AliasOf, event_value, kind_value}
use Rattle.yl_tree.specs.declared.options.AnchorsOptions.{AnchorsOptions}
use Rattle.yl_tree.specs.Anchors.{is_declared, undeclared_alias}
use Rattle.yl_tree.specs.Messages.{name_finding}
use Rattle.yl_tree.proofs.anchor_rule.undeclared_alias.Goals as goal

alias_told : (o : AnchorsOptions) (before : List EventValue) (e : EventValue) (kind : EventKindValue) (name : List ℕ) → kind ≡ AliasOf name
    → o.forbid_undeclared_aliases ≡ true → is_declared before name ≡ false → name_finding Anchors e.place (codes "found undeclared alias \"") name (codes "\"") ≡ undeclared_alias o before e kind
alias_told o before e kind name is forbidden undeclared = rw (is, forbidden, undeclared) refl

pub returns : goal.returns
returns g c = λ before same.
    subst (λ (fs : List FindingValue). IfOk c.name_problem.result (λ o. option_to_list o ≡ fs))
    (alias_told c.args.options.now before (event_value c.args.event.now) (kind_value c.args.event.now.kind) c.in-Alias.name.now (ap kind_value c.in-Alias.is) c.if-not-options.false
    (sym (same c.in-Alias.name.now) ∙ sym c.has_name.ensures ∙ c.if-has_name.false))
    c.name_problem.ensures
