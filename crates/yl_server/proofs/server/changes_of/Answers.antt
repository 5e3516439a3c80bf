use Rattle.std.proofs.Common.{◌≡◌, ◌<◌, ◌++◌, ◌∷◌, [], length, map, take, ap, sym, ◌∙◌, arith}
use Rattle.std.proofs.lemmas.List.{map-append}
use Rattle.json.specs.Value.{value_view}
use Rattle.yl_lsp.specs.Params.{change_in}
use Rattle.yl_lsp.specs.Read.{change_value}
use Rattle.yl_server.proofs.Joined.{map_more}
use Rattle.yl_server.proofs.server.changes_of.Goals as goal

pub loop-value-preserved : goal.loop-value-preserved
loop-value-preserved g c =
    let xs = c.args.values.now in
    let i = c.loop-value.value-index in
    let x = c.value-item.result in
    let within : i < length xs = omega (arith, c.loop-value-test.true, c.loop-value.auto.value-index-end) in
    let more = map_more (λ v. change_in (value_view v)) xs i x within c.value-item.is in
    ap (λ l. map change_value l) c.in_ok-push.ensures.items
    ∙ (map-append change_value c.loop-value.changes.items (c.change_of.result ∷ [])
    ∙ (ap (λ l. l ++ change_value c.change_of.result ∷ []) c.loop-value.invariant ∙ (ap (λ y. map (λ v. change_in (value_view v)) (take i xs) ++ y ∷ []) c.change_of.ensures ∙ sym more)))
