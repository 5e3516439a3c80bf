use Rattle.std.proofs.Common.{◌≡◌, take}
use Rattle.yl_text.specs.Watched.{device_of, failures_of}
use Rattle.yl_devices.specs.Written.{Passes}
use Rattle.yl_formats.specs.Formats.{lines_text}
use Rattle.yl_formats.specs.Listings.{line_of}
use Rattle.yl_formats.proofs.listing.put_problems.Given as goal

abbrev pub invariant-loop-problem : goal.invariant-loop-problem
invariant-loop-problem g l = record {
  quiet : failures_of l.out ≡ failures_of l.initial.out;
  passed : Passes (g.W.Write.contents (device_of l.initial.out)) (g.W.Write.contents (device_of l.out)) l.initial.waiting.items (lines_text (line_of l.listing l.name) (take l.problem-index l.problems) l.no_warnings) l.waiting.items;
}
