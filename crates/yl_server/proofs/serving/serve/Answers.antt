use Rattle.std.proofs.Common.{◌≡◌, ◌-◌, ◌^◌, ◌∙◌, refl, arith, Some, None}
use Rattle.std.proofs.KnownBytes.{prepend_known-nil}
use Rattle.std.specs.Io.KnownBytes.{prepend_known}
use Rattle.yl_text.specs.Watched.{device_of, failures_of}
use Rattle.yl_frames.specs.Sending.{watched_of}
use Rattle.yl_server.specs.Serving.{Failures}
use Rattle.yl_server.specs.Steps.{sink}
use Rattle.yl_server.specs.Turns.{IsMessage}
use Rattle.yl_server.proofs.Served.{all_served, counted_out, quiet_more, so_far_begun, so_far_more, stopped}
use Rattle.yl_server.proofs.Turned.{goes_on, turn_is}
use Rattle.yl_server.proofs.serving.serve.Goals as goal

pub loop-init : goal.loop-init
loop-init g c =
    let given = g.R.Read.remaining (device_of c.args.input.now) in
    record {
      quiet_input = refl;
      quiet_output = refl;
      so_far = so_far_begun c.args.standard given (prepend_known c.new-ahead.result given) (g.W.Write.contents (device_of (watched_of c.args.out.now))) c.new-server.result (rw c.new-ahead.ensures (prepend_known-nil given)) c.new-server.ensures;
    }

pub returns-in-Ok-Some-clause-done : goal.returns-in-Ok-Some-clause-done
returns-in-Ok-Some-clause-done g c =
    let given = g.R.Read.remaining (device_of c.args.input.now) in
    let place = prepend_known c.loop.ahead (g.R.Read.remaining (device_of c.loop.input)) in
    let left = prepend_known c.take_turn.new.ahead (g.R.Read.remaining (device_of c.take_turn.new.input)) in
    let before = g.W.Write.contents (device_of (watched_of c.args.out.now)) in
    let then = g.W.Write.contents (device_of (watched_of c.loop.out)) in
    let now = g.W.Write.contents (device_of (watched_of c.take_turn.new.out)) in
    all_served c.one_report.ensures.computed c.loop.counter c.args.standard given place left before then now (failures_of (watched_of c.loop.out)) (failures_of (watched_of c.take_turn.new.out)) c.loop.server c.take_turn.new.server
    c.in-Ok-Some.status c.loop.invariant.so_far
    (turn_is place left c.loop.server c.take_turn.new.server (sink g.W.Write.contents c.loop.out c.take_turn.new.out) c.in-Ok-Some.field-0 (Some c.in-Ok-Some.status) c.in-Ok-Some.field-0-is c.in-Ok-Some.ensures.turn)

pub returns-in-Err-clause-fault : goal.returns-in-Err-clause-fault
returns-in-Err-clause-fault g c =
    let given = g.R.Read.remaining (device_of c.args.input.now) in
    let place = prepend_known c.loop.ahead (g.R.Read.remaining (device_of c.loop.input)) in
    let left = prepend_known c.take_turn.new.ahead (g.R.Read.remaining (device_of c.take_turn.new.input)) in
    let before = g.W.Write.contents (device_of (watched_of c.args.out.now)) in
    let then = g.W.Write.contents (device_of (watched_of c.loop.out)) in
    let now = g.W.Write.contents (device_of (watched_of c.take_turn.new.out)) in
    let n : Failures = record {
      reads_before = failures_of c.args.input.now;
      reads_after = failures_of c.take_turn.new.input;
      writes_before = failures_of (watched_of c.args.out.now);
      writes_after = failures_of (watched_of c.take_turn.new.out);
    } in
    stopped c.one_report.ensures.computed c.in-Err.fault c.loop.counter c.args.standard given place left before then now c.loop.server n (failures_of c.loop.input) (failures_of (watched_of c.loop.out))
    c.loop.invariant.quiet_input c.loop.invariant.quiet_output c.loop.invariant.so_far c.in-Err.ensures.fault

pub loop-preserved : goal.loop-preserved
loop-preserved g c =
    let given = g.R.Read.remaining (device_of c.args.input.now) in
    let place = prepend_known c.loop.ahead (g.R.Read.remaining (device_of c.loop.input)) in
    let left = prepend_known c.take_turn.new.ahead (g.R.Read.remaining (device_of c.take_turn.new.input)) in
    let before = g.W.Write.contents (device_of (watched_of c.args.out.now)) in
    let then = g.W.Write.contents (device_of (watched_of c.loop.out)) in
    let now = g.W.Write.contents (device_of (watched_of c.take_turn.new.out)) in
    let m = failures_of (watched_of c.loop.out) in
    let n = failures_of (watched_of c.take_turn.new.out) in
    let d = sink g.W.Write.contents c.loop.out c.take_turn.new.out in
    let h : IsMessage place left c.loop.server c.take_turn.new.server d None = goes_on place left c.loop.server c.take_turn.new.server d c.in-Ok-None.field-0 c.in-Ok-None.field-0-is c.in-Ok-None.ensures.turn in
    record {
      quiet_input = c.in-Ok-None.ensures.quiet ∙ c.loop.invariant.quiet_input;
      quiet_output = quiet_more place left c.loop.server c.take_turn.new.server then now m n None h ∙ c.loop.invariant.quiet_output;
      so_far = so_far_more c.loop.counter c.args.standard given place left before then now m n c.loop.server c.take_turn.new.server c.loop.invariant.so_far h;
    }

pub returns-clause-fault : goal.returns-clause-fault
returns-clause-fault g c =
    let given = g.R.Read.remaining (device_of c.args.input.now) in
    let place = prepend_known c.loop.ahead (g.R.Read.remaining (device_of c.loop.input)) in
    let before = g.W.Write.contents (device_of (watched_of c.args.out.now)) in
    let now = g.W.Write.contents (device_of (watched_of c.loop.out)) in
    let none : Failures = record { reads_before = 0; reads_after = 0; writes_before = 0; writes_after = 0 } in
    let all : c.loop.counter ≡ 2 ^ 64 - 1 = omega arith in
    counted_out c.one_report.ensures.computed c.loop.counter c.args.standard given place before now c.loop.server none c.loop.invariant.so_far all
