use Rattle.std.proofs.Common.{◌≡◌, length}
use Rattle.std.specs.Io.KnownBytes.{prepend_known}
use Rattle.yl_text.specs.Watched.{device_of, failures_of}
use Rattle.yl_frames.specs.Reading.{LineBegan}
use Rattle.yl_frames.proofs.header.read_line.Given as goal

abbrev pub invariant-loop : goal.invariant-loop
invariant-loop g l = record {
  quiet : failures_of l.input ≡ failures_of l.initial.input;
  begun : LineBegan (prepend_known l.initial.ahead (g.R.Read.remaining (device_of l.initial.input)))
      (prepend_known l.ahead (g.R.Read.remaining (device_of l.input))) l.line.items;
  len : length l.line.items ≡ l.counter;
}
