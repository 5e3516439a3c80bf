use Rattle.std.proofs.Common.{drop, arith}
use Rattle.yl_events.proofs.Parts.{none_left}
use Rattle.yl_events.proofs.trail.front_len.Goals as goal

pub returns-then-left-eq0-clause-len : goal.returns-then-left-eq0-clause-len
returns-then-left-eq0-clause-len c =
    omega (arith, c.loop-n.invariant, none_left c.loop-n.left (drop c.loop-n.n c.args.symbols.now) c.if-left-eq0.true)
