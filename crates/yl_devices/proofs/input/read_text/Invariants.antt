use Rattle.std.proofs.Common.{◌≡◌, ◌-◌, ◌≤◌, length, vec_len}
use Rattle.std.specs.Io.KnownBytes.{Consumes}
use Rattle.yl_text.specs.Watched.{device_of, failures_of}
use Rattle.yl_devices.proofs.input.read_text.Given as goal

abbrev pub invariant-loop-buffer : goal.invariant-loop-buffer
invariant-loop-buffer g l = record {
  quiet : failures_of l.input ≡ failures_of l.initial.input;
  room : length l.buffer ≡ 65536;
  most : vec_len l.text ≤ 67108868;
  taken : Consumes (g.R.Read.remaining (device_of l.initial.input)) (g.R.Read.remaining (device_of l.input)) l.text.items;
}

abbrev pub decreases-loop-buffer : goal.decreases-loop-buffer
decreases-loop-buffer g l = 67108868 - vec_len l.text
