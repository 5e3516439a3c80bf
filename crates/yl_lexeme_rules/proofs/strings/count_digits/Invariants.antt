use Rattle.std.proofs.Common.{◌≡◌, ◌+◌, drop}
use Rattle.std.specs.List.{prefix_len}
use Rattle.yl_lexeme_rules.specs.Strings.{is_decimal}
use Rattle.yl_lexeme_rules.proofs.strings.count_digits.Given as goal

abbrev pub invariant-loop-i : goal.invariant-loop-i
invariant-loop-i l = l.i + prefix_len is_decimal (drop l.i l.text) ≡ prefix_len is_decimal l.text
