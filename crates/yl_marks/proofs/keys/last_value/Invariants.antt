use Rattle.std.proofs.Common.{◌≡◌, false, drop}
use Rattle.std.specs.List.{list_any}
use Rattle.yl_lexeme.specs.Lexeme.{is_value}
use Rattle.yl_marks.proofs.keys.last_value.Given as goal

abbrev pub invariant-loop-i : goal.invariant-loop-i
invariant-loop-i l = list_any (λ x. is_value x.kind) (drop l.i l.tokens) ≡ false
