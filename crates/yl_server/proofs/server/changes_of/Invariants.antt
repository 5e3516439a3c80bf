use Rattle.std.proofs.Common.{◌≡◌, map, take}
use Rattle.json.specs.Value.{value_view}
use Rattle.yl_lsp.specs.Params.{change_in}
use Rattle.yl_lsp.specs.Read.{change_value}
use Rattle.yl_server.proofs.server.changes_of.Given as goal

abbrev pub invariant-loop-value : goal.invariant-loop-value
invariant-loop-value g l = map change_value l.changes.items ≡ map (λ v. change_in (value_view v)) (take l.value-index l.values)
