use Rattle.std.proofs.Common.{◌≡◌, ◌++◌, List, None, map}
use Rattle.yl_section_pieces.specs.declared.borders.Border.{Border}
use Rattle.yl_section_pieces.specs.Cut.{at_start, pieces_from}
use Rattle.yl_section_pieces.proofs.cut.cut_at.Given as goal

abbrev pub invariant-loop-border : goal.invariant-loop-border
invariant-loop-border g l = (bs : List (Border g.row.A.Denot))
    → l.pieces.items ++ pieces_from l.kept (map (λ f. f.now) l.found) l.at l.before bs ≡ pieces_from l.kept (map (λ f. f.now) l.found) at_start None (l.yielded ++ bs)
