use Rattle.std.proofs.Common.{◌≡◌, ◌+◌, ◌<◌, ◌∙◌, sym, ap, arith, length, take, slice_get}
use Rattle.yl_chunks.specs.Chunks.{items_of}
use Rattle.yl_chunks.proofs.Pieces.{item_of_piece, in_found_piece}
use Rattle.yl_chunks.proofs.chunks.Chunks.get.Goals as goal

pub returns : goal.returns
returns g c =
    let cs = c.self.inside.chunks.items in
    let j = c.last_start-j.result in
    let e = c.last_start-j.ensures in
    let s = c.start_of-start in
    let same = c.deref.ensures.value in
    let l : j < length cs = omega (arith, e.within, ap length same) in
    let inside : c.args.i < length (items_of cs) = omega (arith, c.requires, ap (λ u. length u.items) c.self.view_is) in
    let start : s.result ≡ length (items_of (take j cs)) = s.ensures ∙ ap (λ u. length (items_of (take j u))) c.deref-2.ensures.value in
    let least = ap (λ u. length (items_of (take j u))) same in
    let most = in_found_piece (λ u. u.items) cs c.args.i j c.index.result.now l (λ h. omega (arith, e.most (omega (arith, h, ap length same)), ap (λ u. length (items_of (take (j + 1) u))) same)) inside in
    ap (λ u. slice_get u.items c.args.i) (sym c.self.view_is)
    ∙ item_of_piece (λ u. u.items) cs j c.index.result.now c.args.i s.result c.index-2.result.now l c.index.ensures start (omega (arith, start, e.least, least)) (omega (arith, start, most, ap (λ u. length u.items) c.index.ensures)) c.index-2.ensures inside
