use Rattle.std.proofs.Common.{◌≡◌, ◌+◌, ◌-◌, ◌<◌, ◌≤◌, List, ℕ, Bool, ◌∷◌, get_or, take, drop, length, sym, ap, ◌∙◌, subst, arith}
use Rattle.std.proofs.lemmas.List.{drop_more, take_rest}
use Rattle.yl_patterns.specs.declared.item.Item.{Item}
use Rattle.yl_patterns.specs.Fits.{item_fits, items_fit}
use Rattle.yl_patterns.specs.Tables.{IsTable}
use Rattle.yl_patterns.proofs.fitting.fits.Goals as goal

next_put : (items : List Item) (path : List ℕ) (before after : List Bool) (i : ℕ) (d : Item) → 0 < i → i ≤ length items
    → ((next : List ℕ → Bool) → IsTable next path before → IsTable (item_fits (get_or items (i - 1) d) (take (length items - (i - 1 + 1)) (drop (i - 1 + 1) items)) next) path after)
    → IsTable (λ cs. items_fit (drop i items) cs) path before → IsTable (λ cs. items_fit (drop (i - 1) items) cs) path after
next_put items path before after i d some within puts table =
    let x = get_or items (i - 1) d in
    let same : i - 1 + 1 ≡ i = omega arith in
    let rest = take_rest items (i - 1 + 1) ∙ ap (λ (n : ℕ). drop n items) same in
    let put = subst (λ (r : List Item). IsTable (item_fits x r (λ cs. items_fit (drop i items) cs)) path after) rest (puts (λ cs. items_fit (drop i items) cs) table) in
    let split = drop_more items (i - 1) d (omega arith) ∙ ap (λ (n : ℕ). x ∷ drop n items) same in
    subst (λ (l : List Item). IsTable (λ cs. items_fit l cs) path after) (sym split) put

pub loop-i-preserved : goal.loop-i-preserved
loop-i-preserved c =
    next_put c.args.items.now c.args.path.now c.loop-i.row c.put_item.new.row c.loop-i.i _ (omega arith) (omega arith) c.put_item.ensures c.loop-i.invariant
