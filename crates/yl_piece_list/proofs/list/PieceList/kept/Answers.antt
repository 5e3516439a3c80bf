use Rattle.std.proofs.Common.{List, ap, sym, ◌∙◌}
use Rattle.yl_section_pieces.specs.Pieces.{PieceValue, summaries}
use Rattle.yl_piece_list.proofs.TwoLists.{of_summaries}
use Rattle.yl_piece_list.proofs.list.PieceList.kept.Goals as goal

pub returns : goal.returns
returns g c =
    sym (of_summaries c.self.inside.kept.now.items c.self.inside.before.now.items c.self.invariant) ∙ ap (λ (ps : List PieceValue). summaries ps) c.self.view_is
