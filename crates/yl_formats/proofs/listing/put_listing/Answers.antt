use Rattle.yl_devices.proofs.Pieces.{err_then, on_err}
use Rattle.yl_formats.specs.Formats.{lines_text}
use Rattle.yl_formats.specs.Listings.{end_of, head_of, line_of}
use Rattle.yl_formats.proofs.Listed.{all_passes, end_breaks, head_break, lines_break, ok_then}
use Rattle.yl_formats.proofs.listing.put_listing.Goals as goal

pub returns-in_err-put_head-clause-err : goal.returns-in_err-put_head-clause-err
returns-in_err-put_head-clause-err g c =
    on_err c.from_residual.result
    (head_break (head_of c.args.listing c.args.name.now) (lines_text (line_of c.args.listing c.args.name.now) c.args.problems.now c.args.no_warnings) (end_of c.args.listing) _ _ _
    c.in_err-put_head.ensures.err)

pub returns-in_err-put_problems-clause-err : goal.returns-in_err-put_problems-clause-err
returns-in_err-put_problems-clause-err g c =
    on_err c.from_residual-in_err-put_problems.result
    (lines_break (head_of c.args.listing c.args.name.now) (lines_text (line_of c.args.listing c.args.name.now) c.args.problems.now c.args.no_warnings) (end_of c.args.listing) _ _ _ _ _
    c.in_ok-put_head.ensures.ok c.in_err-put_problems.ensures.err)

pub returns-clause-ok : goal.returns-clause-ok
returns-clause-ok g c =
    ok_then c.put_end.result (all_passes _ _ _ _ _ _ _ _ _ _ _ c.in_ok-put_head.ensures.ok c.in_ok-put_problems.ensures.ok) c.put_end.ensures.ok

pub returns-clause-err : goal.returns-clause-err
returns-clause-err g c =
    err_then c.put_end.result (end_breaks _ _ _ _ _ _ _ _ _ _ c.in_ok-put_head.ensures.ok c.in_ok-put_problems.ensures.ok) c.put_end.ensures.err
