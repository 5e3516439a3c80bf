use Rattle.std.proofs.Common.{length, take, ◌-◌, ◌≡◌, ◌≤◌}
use Rattle.std.specs.Io.KnownBytes.{Appends}
use Rattle.yl_text.specs.Watched.{device_of, failures_of}
use Rattle.yl_devices.proofs.writing.write_piece.Given as goal

abbrev pub invariant-loop-done : goal.invariant-loop-done
invariant-loop-done g l = record {
  within : l.done ≤ length l.piece;
  quiet : failures_of l.out ≡ failures_of l.initial.out;
  written : Appends (g.W.Write.contents (device_of l.initial.out)) (g.W.Write.contents (device_of l.out)) (take l.done l.piece);
}

abbrev pub decreases-loop-done : goal.decreases-loop-done
decreases-loop-done g l = length l.piece - l.done
