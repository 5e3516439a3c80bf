use Rattle.std.proofs.Common.{length}
use Rattle.yl_dump.proofs.events.take_lines.Given as goal

abbrev pub decreases-loop-documents : goal.decreases-loop-documents
decreases-loop-documents g l = length l.scanner.rows
