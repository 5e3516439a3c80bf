use Rattle.std.proofs.Common.{◌≡◌, map, take}
use Rattle.yl_section_pieces.proofs.lists.by_line.Given as goal

abbrev pub invariant-loop-finding : goal.invariant-loop-finding
invariant-loop-finding g l = map (λ f. f.now) l.sorted.items ≡ take l.finding-index l.found
