use Rattle.std.proofs.Common.{List, length, ap, sym, ◌∙◌}
use Rattle.yl_section_pieces.specs.Pieces.{PieceValue}
use Rattle.yl_piece_list.proofs.TwoLists.{of_count}
use Rattle.yl_piece_list.proofs.list.PieceList.len.Goals as goal

pub returns : goal.returns
returns g c =
    c.len.ensures ∙ (sym (of_count c.self.inside.kept.now.items c.self.inside.before.now.items c.self.invariant) ∙ ap (λ (ps : List PieceValue). length ps) c.self.view_is)
