use Rattle.std.proofs.Common.{sym, ap, ◌∙◌}
use Rattle.std.specs.Option.{option_map}
use Rattle.json.specs.Value.{value_view}
use Rattle.yl_lsp.proofs.Listed.{changes_are}
use Rattle.yl_lsp.proofs.params.changes_in.Goals as goal

pub returns : goal.returns
returns g c =
    changes_are c.list_of.result (value_view c.args.params.now) (value_view c.in_ok-get.field-0.now) (ap (λ o. option_map (λ v. value_view v.now) o) (sym c.in_ok-get.was) ∙ c.get.ensures) c.list_of.ensures
