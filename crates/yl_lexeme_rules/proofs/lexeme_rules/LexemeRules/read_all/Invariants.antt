use Rattle.std.proofs.Common.{◌≡◌, ◌++◌, Bool, List, drop, map}
use Rattle.yl_lexeme.specs.Lexeme.{LexemeValue}
use Rattle.yl_marks.specs.declared.facts.KeyFacts.{KeyFacts}
use Rattle.yl_marks.specs.Keys.{lexeme_at_line}
use Rattle.yl_lexeme_rules.specs.LexemesLeft.{IsVersion, lexemes_left}
use Rattle.yl_lexeme_rules.proofs.lexeme_rules.LexemeRules.read_all.Given as goal

abbrev pub invariant-loop-i : goal.invariant-loop-i
invariant-loop-i g l = record {
  found : (v : Bool) (rest later : List LexemeValue) (ks : List KeyFacts)
      → IsVersion v l.fn.self (map (λ x. lexeme_at_line x.line x.lexeme.now) l.lexemes ++ rest)
      → l.problems.items ++ lexemes_left v l.options l.self (map (λ x. lexeme_at_line x.line x.lexeme.now) (drop l.i l.lexemes) ++ later) (drop l.i l.keys ++ ks)
      ≡ l.fn.problems.items ++ lexemes_left v l.options l.fn.self (map (λ x. lexeme_at_line x.line x.lexeme.now) l.lexemes ++ later) (l.keys ++ ks);
  version : (v : Bool) (rest : List LexemeValue)
      → IsVersion v l.fn.self (map (λ x. lexeme_at_line x.line x.lexeme.now) l.lexemes ++ rest)
      → IsVersion v l.self (map (λ x. lexeme_at_line x.line x.lexeme.now) (drop l.i l.lexemes) ++ rest);
}
