use Rattle.std.proofs.Common.{◌≡◌, ◌-◌, map, drop, reverse}
use Rattle.yl_events.specs.Documents.{starts_marked}
use Rattle.yl_events.proofs.Cutting.{cuts_from}
use Rattle.yl_events.proofs.cuts.documents.Given as goal

abbrev pub invariant-loop-i : goal.invariant-loop-i
invariant-loop-i g l = record {
  marked : l.is_marked ≡ starts_marked (drop l.i (map (λ x. x.lexeme.now.kind) l.lexemes));
  starts : l.starts.items ≡ reverse (cuts_from (l.i - 1) (drop (l.i - 1) (map (λ x. x.lexeme.now.kind) l.lexemes)));
}
