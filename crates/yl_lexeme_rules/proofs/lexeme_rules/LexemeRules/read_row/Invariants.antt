use Rattle.std.proofs.Common.{◌≡◌, ◌++◌, Bool, List, drop, map}
use Rattle.yl_lexeme.specs.Lexeme.{LexemeValue}
use Rattle.yl_marks.specs.declared.facts.KeyFacts.{KeyFacts}
use Rattle.yl_marks.specs.Keys.{lexeme_at_line}
use Rattle.yl_lexeme_rules.specs.LexemesAlike.{after_lexemes}
use Rattle.yl_lexeme_rules.specs.LexemesLeft.{IsVersion, lexemes_left}
use Rattle.yl_lexeme_rules.proofs.lexeme_rules.LexemeRules.read_row.Given as goal

abbrev pub invariant-loop-i : goal.invariant-loop-i
invariant-loop-i g l = record {
  found : (v : Bool) (rest later : List LexemeValue) (ks : List KeyFacts)
      → IsVersion v l.fn.self (map (lexeme_at_line l.row.line) l.row.lexemes.now ++ rest)
      → l.problems.items ++ lexemes_left v l.options l.self (map (lexeme_at_line l.row.line) (drop l.i l.row.lexemes.now) ++ later) (drop l.i l.keys ++ ks)
      ≡ l.fn.problems.items ++ lexemes_left v l.options l.fn.self (map (lexeme_at_line l.row.line) l.row.lexemes.now ++ later) (l.keys ++ ks);
  version : (v : Bool) (rest : List LexemeValue)
      → IsVersion v l.fn.self (map (lexeme_at_line l.row.line) l.row.lexemes.now ++ rest)
      → IsVersion v l.self (map (lexeme_at_line l.row.line) (drop l.i l.row.lexemes.now) ++ rest);
  read : after_lexemes l.self (map (lexeme_at_line l.row.line) (drop l.i l.row.lexemes.now))
      ≡ after_lexemes l.fn.self (map (lexeme_at_line l.row.line) l.row.lexemes.now);
}
