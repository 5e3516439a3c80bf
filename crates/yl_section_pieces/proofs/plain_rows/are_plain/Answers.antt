use Rattle.yl_section_pieces.proofs.PlainRows.{plain_on}
use Rattle.yl_section_pieces.proofs.plain_rows.are_plain.Goals as goal

pub loop-i-preserved : goal.loop-i-preserved
loop-i-preserved g c =
    plain_on c.args.rows.now c.loop-i.i c.index-rows-i.result c.loop-i-test.true c.index-rows-i.is (c.is_plain_row.ensures c.if-not-is_plain_row.false) c.loop-i.invariant
