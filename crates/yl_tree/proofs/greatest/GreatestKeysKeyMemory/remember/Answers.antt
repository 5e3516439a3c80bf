use Rattle.std.proofs.Common.{◌≡◌, ℕ, List, [], ◌∷◌, ◌++◌, sym, ap, ◌∙◌}
use Rattle.yl_tree.specs.Greatest.{is_greater_among}
use Rattle.yl_tree.specs.NameStack.{level_at}
use Rattle.yl_tree.proofs.Names.{greatest_changes, greatest_stays}
use Rattle.yl_tree.proofs.greatest.GreatestKeysKeyMemory.remember.Goals as goal

pub returns-in_ok-push-clause-inner : goal.returns-in_ok-push-clause-inner
returns-in_ok-push-clause-inner g c = λ q.
    let key_alone : level_at 0 c.push.new.self ≡ c.args.key.now ∷ [] =
    c.in_ok-push.ensures.inner
    ∙ ap (λ (xs : List (List ℕ)). xs ++ c.in_ok-name.name ∷ []) c.clear.ensures.inner
    ∙ ap (λ (x : List ℕ). x ∷ []) c.in_ok-name.ensures in
    ap (λ (xs : List (List ℕ)). is_greater_among xs q) key_alone
    ∙ greatest_changes (level_at 0 c.args.self.now.keys) c.args.key.now (sym c.is_against.ensures ∙ c.if-not-is_against.true) q

pub returns-else-not-is_against-clause-inner : goal.returns-else-not-is_against-clause-inner
returns-else-not-is_against-clause-inner g c =
    greatest_stays (level_at 0 c.args.self.now.keys) c.args.key.now (sym c.is_against.ensures ∙ c.if-not-is_against.false)
