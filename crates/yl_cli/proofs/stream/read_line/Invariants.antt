use Rattle.std.proofs.Common.{◌≡◌, length, None}
use Rattle.std.specs.Io.KnownBytes.{Consumes, prepend_known}
use Rattle.yl_text.specs.Watched.{device_of, failures_of}
use Rattle.yl_cli.specs.Command.{first_line}
use Rattle.yl_cli.specs.Reading.{LineBegan}
use Rattle.yl_cli.proofs.stream.read_line.Given as goal

abbrev pub invariant-loop-i : goal.invariant-loop-i
invariant-loop-i g l = record {
  quiet : failures_of l.input ≡ failures_of l.initial.input;
  begun : LineBegan (prepend_known l.initial.ahead (g.R.Read.remaining (device_of l.initial.input)))
      (prepend_known l.ahead (g.R.Read.remaining (device_of l.input))) l.line.items;
  len : length l.line.items ≡ l.i;
  taken : Consumes (prepend_known l.initial.ahead (g.R.Read.remaining (device_of l.initial.input)))
      (prepend_known l.ahead (g.R.Read.remaining (device_of l.input))) l.line.items;
  unbroken : first_line 62 l.line.items ≡ None;
}
