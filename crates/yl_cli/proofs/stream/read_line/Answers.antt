use Rattle.std.proofs.Common.{◌≡◌, ◌==◌, ℕ, Bool, false, List, [], ◌∷◌, ◌++◌, None, rules, arith, sym, subst}
use Rattle.std.proofs.lemmas.Grind.{common_steps}
use Rattle.yl_cli.specs.Command.{first_line}
use Rattle.yl_cli.proofs.Cut.{none_more}
use Rattle.yl_cli.proofs.stream.read_line.Goals as goal

pub loop-i-preserved : goal.loop-i-preserved
loop-i-preserved g c =
    let line = c.loop-i.line.items in
    let byte = c.in-Some.byte in
    let pushed : c.try_push.new.self.items ≡ line ++ byte ∷ [] = grind (arith, common_steps) in
    let other : (byte == 10) ≡ false = grind (arith, common_steps) in
    record {
      quiet = search rules;
      begun = grind (arith, common_steps);
      len = grind (arith, common_steps);
      taken = grind (arith, common_steps);
      unbroken = subst (λ (xs : List ℕ). first_line 62 xs ≡ None) (sym pushed) (none_more 62 line byte other c.loop-i.invariant.unbroken);
    }
