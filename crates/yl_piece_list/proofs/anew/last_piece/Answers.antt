use Rattle.std.proofs.Common.{◌+◌, arith}
use Rattle.yl_sections.proofs.KeptRows.{rows_front}
use Rattle.yl_section_pieces.specs.Pieces.{summaries}
use Rattle.yl_piece_list.proofs.anew.last_piece.Goals as goal

pub overflow_add-row : goal.overflow_add-row
overflow_add-row g c =
    record { fits = omega (arith, c.requires.few, c.rows-row.ensures, c.loop-section.invariant.at, rows_front (summaries c.args.pieces.now) (c.loop-section.section + 1)) }
