use Rattle.std.proofs.Common.{◌≡◌, drop}
use Rattle.std.specs.Prelude.{bytes_eq}
use Rattle.std.specs.List.{position_from}
use Rattle.yl_lexeme_rules.specs.Truthy.{truthy_index, truthy_words}
use Rattle.yl_lexeme_rules.proofs.words.word_index.Given as goal

abbrev pub invariant-loop-i : goal.invariant-loop-i
invariant-loop-i l = position_from (λ w. bytes_eq w l.word) l.i (drop l.i truthy_words) ≡ truthy_index l.word
