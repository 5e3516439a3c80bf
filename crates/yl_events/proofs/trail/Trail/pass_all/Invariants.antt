use Rattle.std.proofs.Common.{◌≡◌, drop}
use Rattle.yl_events.specs.Trail.{trail_after}
use Rattle.yl_events.proofs.trail.Trail.pass_all.Given as goal

abbrev pub invariant-loop-symbol : goal.invariant-loop-symbol
invariant-loop-symbol g l = trail_after l.self (drop l.symbol-index l.symbols) ≡ trail_after l.fn.self l.symbols
