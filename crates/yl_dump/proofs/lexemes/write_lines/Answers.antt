use Rattle.yl_dump.specs.Writing.{output_left}
use Rattle.yl_dump.proofs.Told.{one_read}
use Rattle.yl_dump.proofs.lexemes.write_lines.Goals as goal

pub loop-page-preserved : goal.loop-page-preserved
loop-page-preserved g c =
    one_read (g.W.Write.contents c.args.out.now) (g.W.Write.contents c.loop-page.out) (g.W.Write.contents c.write_large.new.out) c.args.page.now c.loop-page.page c.print_line.new.page c.write_large.new.self
    (output_left c.args.scanner.now) (output_left c.loop-page.scanner) (output_left c.print_line.new.scanner)
    c.loop-page.invariant c.in_ok-print_line.ensures.printed c.in_ok-write_large.ensures.ok
