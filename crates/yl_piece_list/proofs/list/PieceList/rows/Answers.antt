use Rattle.std.proofs.Common.{◌+◌, ◌<◌, List, length, take, ap, sym, ◌∙◌, arith}
use Rattle.yl_sections.specs.Kept.{KeptValue, rows_kept}
use Rattle.yl_sections.proofs.KeptRows.{got, rows_more}
use Rattle.yl_section_pieces.specs.Pieces.{PieceValue, summaries}
use Rattle.yl_piece_list.proofs.TwoLists.{of_count, of_summaries}
use Rattle.yl_piece_list.proofs.list.PieceList.rows.Goals as goal

pub get-requires : goal.get-requires
get-requires g c =
    let e = ap (λ (ps : List PieceValue). length ps) c.self.view_is in
    omega (arith, e, c.requires, of_count c.self.inside.kept.now.items c.self.inside.before.now.items c.self.invariant)

pub returns : goal.returns
returns g c =
    let ks = c.self.inside.kept.now.items in
    let n = ap (λ (ps : List PieceValue). length ps) c.self.view_is in
    let l : c.args.i < length ks = omega (arith, n, c.requires, of_count ks c.self.inside.before.now.items c.self.invariant) in
    let e = ap (λ (ps : List PieceValue). summaries ps) (sym c.self.view_is) ∙ of_summaries ks c.self.inside.before.now.items c.self.invariant in
    let next = ap (λ (js : List KeptValue). rows_kept (take (c.args.i + 1) js)) e in
    let here = ap (λ (js : List KeptValue). rows_kept (take c.args.i js)) e in
    omega (arith, next, here, rows_more ks c.args.i c.get.result.now l (got ks c.args.i c.get.result.now c.get.ensures), c.rows.ensures)
