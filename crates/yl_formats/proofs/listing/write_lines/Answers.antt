use Rattle.yl_devices.proofs.Pieces.{passes_break_end, err_then}
use Rattle.yl_formats.proofs.listing.write_lines.Goals as goal

pub returns-clause-err : goal.returns-clause-err
returns-clause-err g c =
    err_then c.flush.result (passes_break_end _ _ _ c.new-waiting.result.items _ _ c.new-waiting.ensures c.in_ok-put_listing.ensures.ok) c.flush.ensures.err
