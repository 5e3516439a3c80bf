use Rattle.std.proofs.Common.{◌≡◌, ◌-◌, ◌≤◌}
use Rattle.std.specs.Io.KnownBytes.{prepend_known}
use Rattle.yl_text.specs.Watched.{device_of, failures_of}
use Rattle.yl_frames.specs.Reading.{TakenSoFar}
use Rattle.yl_frames.proofs.reading.read_body.Given as goal

abbrev pub invariant-loop-taken : goal.invariant-loop-taken
invariant-loop-taken g l = record {
  quiet : failures_of l.input ≡ failures_of l.initial.input;
  most : l.taken ≤ l.size;
  so_far : TakenSoFar (prepend_known l.initial.ahead (g.R.Read.remaining (device_of l.initial.input)))
      (prepend_known l.ahead (g.R.Read.remaining (device_of l.input))) l.taken l.kept (λ bytes. bytes.items);
}

abbrev pub decreases-loop-taken : goal.decreases-loop-taken
decreases-loop-taken g l = l.size - l.taken
