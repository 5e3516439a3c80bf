use Rattle.std.specs.Io.KnownBytes.{prepend_known}
use Rattle.yl_text.specs.Watched.{device_of, failures_of}
use Rattle.yl_server.specs.Steps.{sink}
use Rattle.yl_server.specs.Turns.{fault_of}
use Rattle.yl_frames.specs.Sending.{watched_of}
use Rattle.yl_server.proofs.Sending.{none_sent}
use Rattle.yl_server.proofs.Turned.{dropped_cut, dropped_done, fault_is, is_last, message_cut, message_done, none_done, takes_body, takes_dropped}
use Rattle.yl_server.proofs.serving.take_turn.Goals as goal

pub returns-in-Ok-clause-turn : goal.returns-in-Ok-clause-turn
returns-in-Ok-clause-turn g c =
    let place = prepend_known c.args.ahead.now (g.R.Read.remaining (device_of c.args.input.now)) in
    let left = prepend_known c.next_body.new.ahead (g.R.Read.remaining (device_of c.next_body.new.input)) in
    message_done place left c.args.server.now c.handle.new.self (sink g.W.Write.contents c.args.out.now c.handle.new.out) c.in-Ok.ended c.as_mut_slice.result.now
    (takes_body place left c.in-Ok-Body.field-0 c.in-Ok-Body.body c.as_mut_slice.result.now c.in-Ok-Body.field-0-is c.as_mut_slice.ensures.value c.in-Ok-Body.ensures.next) c.in-Ok.ensures.ok

pub returns-in-Ok-Body-clause-fault : goal.returns-in-Ok-Body-clause-fault
returns-in-Ok-Body-clause-fault g c =
    let place = prepend_known c.args.ahead.now (g.R.Read.remaining (device_of c.args.input.now)) in
    let left = prepend_known c.next_body.new.ahead (g.R.Read.remaining (device_of c.next_body.new.input)) in
    let m = failures_of c.args.input.now in
    let n = failures_of c.next_body.new.input in
    let d = sink g.W.Write.contents c.args.out.now c.handle.new.out in
    let f = c.in-Err-handle.fault in
    fault_is place left m n c.args.server.now d (fault_of f) c.fault_of.result c.fault_of.ensures (message_cut place left m n c.args.server.now d f c.as_mut_slice.result.now
    (takes_body place left c.in-Ok-Body.field-0 c.in-Ok-Body.body c.as_mut_slice.result.now c.in-Ok-Body.field-0-is c.as_mut_slice.ensures.value c.in-Ok-Body.ensures.next) c.in-Err-handle.ensures.err)

pub returns-in-Ok-drop_body-clause-turn : goal.returns-in-Ok-drop_body-clause-turn
returns-in-Ok-drop_body-clause-turn g c =
    let place = prepend_known c.args.ahead.now (g.R.Read.remaining (device_of c.args.input.now)) in
    let left = prepend_known c.next_body.new.ahead (g.R.Read.remaining (device_of c.next_body.new.input)) in
    dropped_done place left c.args.server.now c.drop_body.new.self (sink g.W.Write.contents c.args.out.now c.drop_body.new.out)
    (takes_dropped place left c.in-Ok-Dropped.field-0 c.in-Ok-Dropped.field-0-is c.in-Ok-Dropped.ensures.next) c.in-Ok-drop_body.ensures.ok

pub returns-in-Ok-Dropped-clause-fault : goal.returns-in-Ok-Dropped-clause-fault
returns-in-Ok-Dropped-clause-fault g c =
    let place = prepend_known c.args.ahead.now (g.R.Read.remaining (device_of c.args.input.now)) in
    let left = prepend_known c.next_body.new.ahead (g.R.Read.remaining (device_of c.next_body.new.input)) in
    let m = failures_of c.args.input.now in
    let n = failures_of c.next_body.new.input in
    let d = sink g.W.Write.contents c.args.out.now c.drop_body.new.out in
    let f = c.in-Err-drop_body.fault in
    fault_is place left m n c.args.server.now d (fault_of f) c.fault_of-in-Err-drop_body.result c.fault_of-in-Err-drop_body.ensures (dropped_cut place left m n c.args.server.now d f
    (takes_dropped place left c.in-Ok-Dropped.field-0 c.in-Ok-Dropped.field-0-is c.in-Ok-Dropped.ensures.next) c.in-Err-drop_body.ensures.err)

pub returns-in-Ok-End-clause-turn : goal.returns-in-Ok-End-clause-turn
returns-in-Ok-End-clause-turn g c =
    let place = prepend_known c.args.ahead.now (g.R.Read.remaining (device_of c.args.input.now)) in
    let left = prepend_known c.next_body.new.ahead (g.R.Read.remaining (device_of c.next_body.new.input)) in
    let out = watched_of c.args.out.now in
    none_done place left c.args.server.now c.args.server.now (sink g.W.Write.contents c.args.out.now c.args.out.now) (is_last place left c.in-Ok-End.field-0 c.in-Ok-End.field-0-is c.in-Ok-End.ensures.next)
    (none_sent (g.W.Write.contents (device_of out)) (failures_of out))
