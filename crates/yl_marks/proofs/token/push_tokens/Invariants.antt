use Rattle.std.proofs.Common.{◌≡◌, ◌++◌, map, take}
use Rattle.yl_marks.specs.Keys.{lexeme_at_line, token_of}
use Rattle.yl_marks.proofs.token.push_tokens.Given as goal

abbrev pub invariant-loop-lexeme : goal.invariant-loop-lexeme
invariant-loop-lexeme g l = l.tokens.items ≡ l.fn.tokens.items ++ map token_of (map (lexeme_at_line l.row.line) (take l.lexeme-index l.row.lexemes.now))
