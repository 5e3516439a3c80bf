use Rattle.std.proofs.Common.{◌≡◌, ◌++◌, map}
use Rattle.yl_scan.specs.Output.{at_line}
use Rattle.yl_scan.specs.Whole.{lexeme_in}
use Rattle.yl_scan.proofs.whole.add_lexemes.Given as goal

abbrev pub invariant-loop-lexeme : goal.invariant-loop-lexeme
invariant-loop-lexeme g l = map lexeme_in l.all.items ≡ map lexeme_in l.fn.all.items ++ map (at_line l.line) l.yielded
