use Rattle.std.proofs.Common.{◌≡◌, ◌-◌}
use Rattle.std.specs.Io.KnownBytes.{prepend_known}
use Rattle.yl_text.specs.Watched.{device_of, failures_of}
use Rattle.yl_frames.specs.Reading.{HeaderBegan}
use Rattle.yl_frames.proofs.header.read_header.Given as goal

abbrev pub invariant-loop : goal.invariant-loop
invariant-loop g l = record {
  quiet : failures_of l.input ≡ failures_of l.initial.input;
  begun : HeaderBegan (65 - l.counter) (prepend_known l.initial.ahead (g.R.Read.remaining (device_of l.initial.input)))
      (prepend_known l.ahead (g.R.Read.remaining (device_of l.input))) l.length;
}
