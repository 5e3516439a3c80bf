use Rattle.std.proofs.Common.{◌≡◌, ◌+◌, drop, length, map}
use Rattle.yl_patterns.specs.Answers.{pattern_value}
use Rattle.yl_patterns.specs.Patterns.{answer_after, is_among}
use Rattle.yl_patterns.proofs.patterns.Patterns.fits.Given as goal

abbrev pub invariant-loop-pattern : goal.invariant-loop-pattern
invariant-loop-pattern g l = record {
  row : length l.row.items ≡ length l.path.items + 1;
  answer : answer_after l.answer (map pattern_value (drop l.pattern-index l.pattern-items)) l.path.items ≡ is_among (map pattern_value l.pattern-items) l.path.items;
}
