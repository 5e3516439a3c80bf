use Rattle.std.proofs.Common.{◌≡◌, map, take}
use Rattle.yl_marks.specs.Keys.{lexeme_at_line}
use Rattle.yl_scan.specs.Whole.{lexeme_in}
use Rattle.yl_config.specs.TextReading.{lexeme_in_text}
use Rattle.yl_config.proofs.text.in_text.Given as goal

abbrev pub invariant-loop-lexeme : goal.invariant-loop-lexeme
invariant-loop-lexeme g l = map (λ x. lexeme_at_line x.line x.lexeme.now) l.all.items ≡ map lexeme_in_text (map lexeme_in (take l.lexeme-index l.lexemes))
