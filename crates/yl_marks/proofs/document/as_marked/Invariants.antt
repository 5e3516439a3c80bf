use Rattle.std.proofs.Common.{◌≡◌, ◌++◌, false, drop, map}
use Rattle.yl_marks.specs.Keys.{lexeme_at_line, token_of}
use Rattle.yl_marks.specs.Marks.{as_marked}
use Rattle.yl_marks.proofs.document.as_marked.Given as goal

abbrev pub invariant-loop-symbol : goal.invariant-loop-symbol
invariant-loop-symbol g l =
    l.marked.items ++ as_marked (map token_of (map (λ x. lexeme_at_line x.line x.lexeme.now) l.lexemes)) l.begins_key (drop l.symbol-index l.symbols)
    ≡ as_marked (map token_of (map (λ x. lexeme_at_line x.line x.lexeme.now) l.lexemes)) false l.symbols
