use Rattle.yl_frames.proofs.Escaped.{escape_long, escape_short}
use Rattle.yl_frames.proofs.text.put_escape.Goals as goal

pub returns-in-Some-clause-ok : goal.returns-in-Some-clause-ok
returns-in-Some-clause-ok g c = rw (escape_short c.args.byte c.in-Some.letter c.in-Some.ensures.0 c.in-Some.ensures.1) c.put.ensures.ok

pub returns-in-Some-clause-err : goal.returns-in-Some-clause-err
returns-in-Some-clause-err g c = rw (escape_short c.args.byte c.in-Some.letter c.in-Some.ensures.0 c.in-Some.ensures.1) c.put.ensures.err

pub returns-in-None-clause-ok : goal.returns-in-None-clause-ok
returns-in-None-clause-ok g c =
    rw (escape_long c.args.byte c.hex_digit-high.result c.hex_digit-low.result c.in-None.ensures c.requires.special c.hex_digit-high.ensures c.hex_digit-low.ensures) c.put-in-None.ensures.ok

pub returns-in-None-clause-err : goal.returns-in-None-clause-err
returns-in-None-clause-err g c =
    rw (escape_long c.args.byte c.hex_digit-high.result c.hex_digit-low.result c.in-None.ensures c.requires.special c.hex_digit-high.ensures c.hex_digit-low.ensures) c.put-in-None.ensures.err
