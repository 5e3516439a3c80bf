use Rattle.std.proofs.Common.{◌++◌}
use Rattle.yl_dump.specs.Writing.{states_left}
use Rattle.yl_dump.proofs.Leaving.{leaves_next}
use Rattle.yl_dump.proofs.lines.write_states.Goals as goal

pub loop-alloc-preserved : goal.loop-alloc-preserved
loop-alloc-preserved g c = record {
  states = c.in_ok-print_line.ensures.states;
  leaves = leaves_next (g.W.Write.contents c.args.out.now) (g.W.Write.contents c.loop-alloc.out) (g.W.Write.contents c.write_large.new.out) (c.args.page.now ++ states_left c.args.scanner.now)
      c.loop-alloc.page (states_left c.loop-alloc.scanner) c.print_line.new.page c.write_large.new.self (states_left c.print_line.new.scanner)
      c.loop-alloc.invariant.leaves c.in_ok-print_line.ensures.printed c.in_ok-write_large.ensures.ok;
}
