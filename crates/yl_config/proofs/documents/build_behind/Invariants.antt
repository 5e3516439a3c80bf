use Rattle.std.proofs.Common.{◌≡◌, ◌≤◌, List, ◌++◌, length, map, drop}
use Rattle.yl_marks.specs.Keys.{lexeme_at_line}
use Rattle.yl_config.specs.TextDocuments.{AreBuilt, BuiltDocumentValue, cut_behind}
use Rattle.yl_config.proofs.documents.build_behind.Given as goal

abbrev pub invariant-loop-place : goal.invariant-loop-place
invariant-loop-place g l = record {
  within : l.at ≤ length l.lexemes;
  built : (ds : List BuiltDocumentValue) → AreBuilt (cut_behind l.passed (drop l.place-index l.places) (map (λ x. lexeme_at_line x.line x.lexeme.now) (drop l.at l.lexemes))) ds
      → AreBuilt (cut_behind l.before l.places (map (λ x. lexeme_at_line x.line x.lexeme.now) l.lexemes)) (l.all.items ++ ds);
}
