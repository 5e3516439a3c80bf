use Rattle.std.proofs.Common.{◌≡◌, ◌-◌, ◌≤◌, vec_len}
use Rattle.std.specs.Io.KnownBytes.{Consumes, prepend_known}
use Rattle.yl_text.specs.Watched.{device_of, failures_of}
use Rattle.yl_devices.proofs.ahead.Ahead.read_payload.Given as goal

abbrev pub invariant-loop-self : goal.invariant-loop-self
invariant-loop-self g l = record {
  quiet : failures_of l.input ≡ failures_of l.initial.input;
  most : vec_len l.bytes ≤ l.size;
  taken : Consumes (prepend_known l.initial.self (g.R.Read.remaining (device_of l.initial.input)))
      (prepend_known l.self (g.R.Read.remaining (device_of l.input))) l.bytes.items;
}

abbrev pub decreases-loop-self : goal.decreases-loop-self
decreases-loop-self g l = l.size - vec_len l.bytes
