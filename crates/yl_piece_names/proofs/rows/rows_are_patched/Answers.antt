use Rattle.yl_piece_names.proofs.RowsPatched as rows
use Rattle.yl_piece_names.proofs.rows.rows_are_patched.Goals as goal

pub returns : goal.returns
returns c = rows.rows_are_patched
