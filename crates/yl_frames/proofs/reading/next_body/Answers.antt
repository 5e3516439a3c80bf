use Rattle.std.proofs.Common.{◌≢◌, [], rules}
use Rattle.std.specs.Io.KnownBytes.{prepend_known}
use Rattle.yl_text.specs.Watched.{device_of}
use Rattle.yl_frames.specs.Found.{IsNext}
use Rattle.yl_frames.specs.Reading.{IsBodyRead}
use Rattle.yl_frames.proofs.Outcomes.{value_then}
use Rattle.yl_frames.proofs.Bodies.{message_read, next_kept, none_read, some_ahead}
use Rattle.yl_frames.proofs.reading.next_body.Goals as goal

pub returns-in-Some-clause-next : goal.returns-in-Some-clause-next
returns-in-Some-clause-next g c =
    let given = prepend_known c.args.ahead.now (g.R.Read.remaining (device_of c.args.input.now)) in
    let start = prepend_known c.more.new.self (g.R.Read.remaining (device_of c.more.new.input)) in
    let mid = prepend_known c.read_header.new.ahead (g.R.Read.remaining (device_of c.read_header.new.input)) in
    let left = prepend_known c.read_body.new.ahead (g.R.Read.remaining (device_of c.read_body.new.input)) in
    let some : c.more.new.self ≢ [] = search rules in
    value_then {P = IsBodyRead mid left c.in-Some.size} {Q = IsNext given left} c.read_body.result c.read_body.ensures.read (λ next b. next_kept given start left next c.in_ok-more.ensures.kept
    (message_read start mid left c.in-Some.size next (rw c.in-Some.is at c.in_ok-size.ensures.header) (some_ahead c.more.new.self (g.R.Read.remaining (device_of c.more.new.input)) some) b))

pub returns-in-None-clause-next : goal.returns-in-None-clause-next
returns-in-None-clause-next g c =
    let given = prepend_known c.args.ahead.now (g.R.Read.remaining (device_of c.args.input.now)) in
    let start = prepend_known c.more.new.self (g.R.Read.remaining (device_of c.more.new.input)) in
    let left = prepend_known c.read_header.new.ahead (g.R.Read.remaining (device_of c.read_header.new.input)) in
    let some : c.more.new.self ≢ [] = search rules in
    next_kept given start left _ c.in_ok-more.ensures.kept (none_read _ start left (rw c.in-None.is at c.in_ok-size.ensures.header) (some_ahead c.more.new.self (g.R.Read.remaining (device_of c.more.new.input)) some))
