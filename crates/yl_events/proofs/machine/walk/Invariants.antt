use Rattle.std.proofs.Common.{◌≡◌, ◌≤◌, ◌+◌, reverse, drop}
use Rattle.yl_events.specs.Machine.{taken_count}
use Rattle.yl_events.specs.DocumentOutcome.{steps}
use Rattle.yl_events.proofs.machine.walk.Given as goal

abbrev pub invariant-loop-symbol : goal.invariant-loop-symbol
invariant-loop-symbol g l = record {
  same : steps (drop l.symbol-index l.symbols) (reverse l.goals.items) l.events.items ≡ steps l.symbols (reverse l.fn.goals.items) l.fn.events.items;
  place : l.place + taken_count (drop l.symbol-index l.symbols) (reverse l.goals.items) l.events.items ≡ taken_count l.symbols (reverse l.fn.goals.items) l.fn.events.items;
  within : l.place ≤ l.symbol-index;
}
