use Rattle.std.proofs.Common.{◌≡◌, drop}
use Rattle.json.specs.Value.{items_view}
use Rattle.yl_lsp.specs.Params.{first_encoding}
use Rattle.yl_lsp.proofs.settings.first_encoding.Given as goal

abbrev pub invariant-loop-value : goal.invariant-loop-value
invariant-loop-value g l = first_encoding (items_view (drop l.value-index l.list)) ≡ first_encoding (items_view l.list)
