use Rattle.std.proofs.Common.{◌≡◌, ◌+◌, ◌≤◌, ℕ, length, take, drop, ◌++◌, List, arith, rules, refl}
use Rattle.std.proofs.lemmas.List.{same_lists, places}
use Rattle.std.proofs.lemmas.Slice.{pushed}
use Rattle.std.specs.List.{splice, remove_range, slice_rotate_right}
use Rattle.yl_problem_lists.proofs.shifting.put_between.Goals as goal

put : {X : Type 0} (xs ns all moved out : List X) (a b k : ℕ) → all ≡ xs ++ ns → moved ≡ take a all ++ slice_rotate_right (drop a all) k → out ≡ remove_range moved (a + k) (b + k) → k ≡ length ns → a ≤ b → b ≤ length xs → out ≡ splice xs a b ns
put xs ns all moved out a b k e m o l le in' = rw (o, m, e, l) (same_lists _ _ (search (rules, places)) (λ k d h. grind (arith, places)))

pub returns-clause-items : goal.returns-clause-items
returns-clause-items g c =
    let joined = pushed c.args.new.now.items refl c.unwrap.ensures c.append.ensures.items in
    put c.args.problems.now.items c.args.new.now.items c.append.new.self.items c.move_last_to.new.problems.items c.remove_between.new.problems.items c.args.a c.args.b c.len-added.result
    joined c.move_last_to.ensures.items c.remove_between.ensures.items (search rules) c.requires.range.ordered (search rules)
