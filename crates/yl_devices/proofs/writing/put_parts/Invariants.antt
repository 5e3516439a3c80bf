use Rattle.std.proofs.Common.{◌≡◌, take}
use Rattle.std.specs.List.{flat_map}
use Rattle.yl_text.specs.Watched.{device_of, failures_of}
use Rattle.yl_devices.specs.Written.{Passes}
use Rattle.yl_devices.proofs.writing.put_parts.Given as goal

abbrev pub invariant-loop-part : goal.invariant-loop-part
invariant-loop-part g l = record {
  quiet : failures_of l.out ≡ failures_of l.initial.out;
  passed : Passes (g.W.Write.contents (device_of l.initial.out)) (g.W.Write.contents (device_of l.out)) l.initial.waiting.items (flat_map (λ part. part.now) (take l.part-index l.parts)) l.waiting.items;
}
