use Rattle.std.proofs.Common.{◌≡◌}
use Rattle.std.specs.Io.KnownBytes.{prepend_known}
use Rattle.yl_text.specs.Fault.{IsText}
use Rattle.yl_text.specs.Watched.{device_of, failures_of}
use Rattle.yl_devices.specs.Text.{without_mark}
use Rattle.yl_cli.specs.Reading.{SoFar}
use Rattle.yl_cli.proofs.editing.drive.Given as goal

abbrev pub invariant-loop : goal.invariant-loop
invariant-loop g l = record {
  quiet_input : failures_of l.input ≡ failures_of l.fn.input;
  quiet_output : failures_of l.out ≡ failures_of l.fn.out;
  is_text : IsText (without_mark l.fn.text);
  so_far : SoFar l.counter l.fn.config l.fn.name l.fn.flags (without_mark l.fn.text) (g.R.Read.remaining (device_of l.fn.input))
      (prepend_known l.ahead (g.R.Read.remaining (device_of l.input))) (g.W.Write.contents (device_of l.fn.out)) (g.W.Write.contents (device_of l.out)) l.session;
}
