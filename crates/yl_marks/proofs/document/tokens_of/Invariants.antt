use Rattle.std.proofs.Common.{◌≡◌, map, take}
use Rattle.yl_marks.specs.Keys.{lexeme_at_line, token_of}
use Rattle.yl_marks.proofs.document.tokens_of.Given as goal

abbrev pub invariant-loop-at : goal.invariant-loop-at
invariant-loop-at g l = l.tokens.items ≡ map token_of (map (λ x. lexeme_at_line x.line x.lexeme.now) (take l.at-index l.lexemes))
