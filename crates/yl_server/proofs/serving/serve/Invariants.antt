use Rattle.std.proofs.Common.{◌≡◌}
use Rattle.std.specs.Io.KnownBytes.{prepend_known}
use Rattle.yl_text.specs.Watched.{device_of, failures_of}
use Rattle.yl_frames.specs.Sending.{watched_of}
use Rattle.yl_server.specs.SoFar.{SoFar}
use Rattle.yl_server.proofs.serving.serve.Given as goal

abbrev pub invariant-loop : goal.invariant-loop
invariant-loop g l = record {
  quiet_input : failures_of l.input ≡ failures_of l.fn.input;
  quiet_output : failures_of (watched_of l.out) ≡ failures_of (watched_of l.fn.out);
  so_far : SoFar l.counter l.fn.standard (g.R.Read.remaining (device_of l.fn.input)) (prepend_known l.ahead (g.R.Read.remaining (device_of l.input)))
      (g.W.Write.contents (device_of (watched_of l.fn.out))) (g.W.Write.contents (device_of (watched_of l.out))) l.server;
}
