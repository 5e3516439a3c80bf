use Rattle.std.proofs.Common.{length}
use Rattle.yl_dump.specs.Writing.{WritesOn, output_left}
use Rattle.yl_dump.proofs.lexemes.write_lines.Given as goal

abbrev pub invariant-loop-page : goal.invariant-loop-page
invariant-loop-page g l = WritesOn (g.W.Write.contents l.fn.out) (g.W.Write.contents l.out) l.fn.page l.page (output_left l.fn.scanner) (output_left l.scanner)

abbrev pub decreases-loop-page : goal.decreases-loop-page
decreases-loop-page g l = length l.scanner.rows
