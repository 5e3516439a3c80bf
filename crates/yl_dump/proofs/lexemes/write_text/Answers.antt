use Rattle.std.specs.Prelude.{false}
use Rattle.std.specs.Io.KnownBytes.{Appends}
use Rattle.yl_dump.specs.Printed.{output_of_text}
use Rattle.yl_dump.specs.Writing.{output_left}
use Rattle.yl_dump.proofs.Told.{on_ok, all_left, all_read}
use Rattle.yl_dump.proofs.lexemes.write_text.Goals as goal

pub returns : goal.returns
returns g c =
    on_ok c.write_to.result
    (λ (e : Appends (g.W.Write.contents c.write_lines.new.out) (g.W.Write.contents c.write_to.new.out) c.print_end.new.page).
    all_read (g.W.Write.contents c.args.out.now) (g.W.Write.contents c.write_lines.new.out) (g.W.Write.contents c.write_to.new.out) c.args.page.now c.write_lines.new.page c.print_end.new.page
    (output_left c.without_states-scanner.result) (output_left c.write_lines.new.scanner) (output_of_text c.args.text.now) c.requires.empty
    (all_left c.args.text.now false c.without_states-scanner.result c.without_states-scanner.ensures) c.in_ok-write_lines.ensures.written c.in_ok-print_end.ensures e)
    c.write_to.ensures.written
