use Rattle.std.proofs.Common.{◌≡◌, ◌+◌, drop}
use Rattle.yl_events.specs.Faults.{front_len}
use Rattle.yl_events.proofs.trail.front_len.Given as goal

abbrev pub invariant-loop-n : goal.invariant-loop-n
invariant-loop-n l = l.n + front_len l.left (drop l.n l.symbols) ≡ front_len l.fn.place l.symbols
