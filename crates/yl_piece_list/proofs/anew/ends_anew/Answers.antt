use Rattle.std.proofs.Common.{◌+◌, arith}
use Rattle.yl_sections.proofs.KeptRows.{rows_front}
use Rattle.yl_section_pieces.specs.Pieces.{summaries}
use Rattle.yl_piece_list.proofs.anew.ends_anew.Goals as goal

pub overflow_add-end : goal.overflow_add-end
overflow_add-end g c =
    record {
      fits = omega (
        arith,
        c.requires.rows,
        c.requires.few,
        c.rows.ensures,
        c.last_piece-last.ensures.row,
        rows_front (summaries c.args.pieces.now) (c.last_piece-last.result.section + 1),
      );
    }

pub are_front-requires : goal.are_front-requires
are_front-requires g c =
    omega (
      arith,
      c.requires.rows,
      c.rows.ensures,
      c.last_piece-last.ensures.row,
      rows_front (summaries c.args.pieces.now) (c.last_piece-last.result.section + 1),
    )
