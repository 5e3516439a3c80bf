use Rattle.std.proofs.Common.{List, ap, sym, ◌∙◌}
use Rattle.yl_section_pieces.specs.Pieces.{PieceValue}
use Rattle.yl_piece_list.specs.PieceLists.{states}
use Rattle.yl_piece_list.proofs.TwoLists.{of_states}
use Rattle.yl_piece_list.proofs.list.PieceList.before.Goals as goal

pub returns : goal.returns
returns g c =
    sym (of_states c.self.inside.kept.now.items c.self.inside.before.now.items c.self.invariant) ∙ ap (λ (ps : List PieceValue). states ps) c.self.view_is
