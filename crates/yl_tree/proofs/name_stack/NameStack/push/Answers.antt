use Rattle.std.proofs.Common.{◌≡◌, ℕ, ◌-◌, List, length, take, drop, sym, ap, ◌∙◌, true, false}
use Rattle.std.specs.Prelude.{reverse, slice_get}
use Rattle.yl_tree.specs.NameSets.{is_above}
use Rattle.yl_tree.proofs.NameStack.{pushed_above, pushed_below, rest}
use Rattle.yl_tree.proofs.name_stack.NameStack.push.Goals as goal

pub invariant_of-self-then-is_greatest : goal.invariant_of-self-then-is_greatest
invariant_of-self-then-is_greatest g c =
    let level = c.self.inside.innermost in
    let part = rest c.deref.result.now c.self.inside.names.items level.begin c.deref.ensures.value in
    let a : is_above (slice_get (drop level.begin c.self.inside.names.items) level.greatest) c.args.name ≡ true =
    ap (λ (xs : List (List ℕ)). is_above (slice_get xs level.greatest) c.args.name) (sym part)
    ∙ ap (is_above (slice_get (take (length c.deref.result.now - level.begin) (drop level.begin c.deref.result.now)) level.greatest)) (sym c.as_str.ensures)
    ∙ sym c.is_above-is_greatest.ensures
    ∙ c.if-is_greatest.true in
    pushed_above (reverse c.self.inside.outer.items) level c.self.inside.names.items c.push.new.self.items c.args.name c.self.invariant c.in_ok-push.ensures.items _ (ap length part) a

pub invariant_of-self-else-is_greatest : goal.invariant_of-self-else-is_greatest
invariant_of-self-else-is_greatest g c =
    let level = c.self.inside.innermost in
    let part = rest c.deref.result.now c.self.inside.names.items level.begin c.deref.ensures.value in
    let a : is_above (slice_get (drop level.begin c.self.inside.names.items) level.greatest) c.args.name ≡ false =
    ap (λ (xs : List (List ℕ)). is_above (slice_get xs level.greatest) c.args.name) (sym part)
    ∙ ap (is_above (slice_get (take (length c.deref.result.now - level.begin) (drop level.begin c.deref.result.now)) level.greatest)) (sym c.as_str.ensures)
    ∙ sym c.is_above-is_greatest.ensures
    ∙ c.if-is_greatest.false in
    pushed_below (reverse c.self.inside.outer.items) level c.self.inside.names.items c.push.new.self.items c.args.name c.self.invariant c.in_ok-push.ensures.items a
