use Rattle.std.proofs.Common.{◌≡◌, ◌+◌, ◌-◌, ◌<◌, ◌≤◌, ◌∙◌, sym, ap, arith, length, take, drop}
use Rattle.std.proofs.lemmas.List.{length-drop}
use Rattle.yl_chunks.specs.Chunks.{items_of}
use Rattle.yl_chunks.proofs.Pieces.{in_found_piece, rest_of_piece}
use Rattle.yl_chunks.proofs.chunks.Chunks.items_from.Goals as goal

pub split_at-requires : goal.split_at-requires
split_at-requires g c =
    let cs = c.self.inside.chunks.items in
    let j = c.last_start-j.result in
    let e = c.last_start-j.ensures in
    let s = c.start_of-start in
    let same = c.deref.ensures.value in
    let l : j < length cs = omega (arith, e.within, ap length same) in
    let inside : c.args.i < length (items_of cs) = omega (arith, c.requires, ap (λ u. length u.items) c.self.view_is) in
    let start : s.result ≡ length (items_of (take j cs)) = s.ensures ∙ ap (λ u. length (items_of (take j u))) c.deref-2.ensures.value in
    let most = in_found_piece (λ u. u.items) cs c.args.i j c.index.result.now l (λ h. omega (arith, e.most (omega (arith, h, ap length same)), ap (λ u. length (items_of (take (j + 1) u))) same)) inside in
    omega (arith, start, most, ap (λ u. length u.items) c.index.ensures, ap length c.deref-3.ensures.value)

pub returns-clause-some : goal.returns-clause-some
returns-clause-some g c =
    let cs = c.self.inside.chunks.items in
    let j = c.last_start-j.result in
    let e = c.last_start-j.ensures in
    let s = c.start_of-start in
    let i = c.args.i in
    let chunk = c.index.result.now in
    let same = c.deref.ensures.value in
    let l : j < length cs = omega (arith, e.within, ap length same) in
    let start : s.result ≡ length (items_of (take j cs)) = s.ensures ∙ ap (λ u. length (items_of (take j u))) c.deref-2.ensures.value in
    let at = c.deref-3.ensures.value in
    let inside : i < length (items_of cs) = omega (arith, c.requires, ap (λ u. length u.items) c.self.view_is) in
    let most = in_found_piece (λ u. u.items) cs i j chunk l (λ h. omega (arith, e.most (omega (arith, h, ap length same)), ap (λ u. length (items_of (take (j + 1) u))) same)) inside in
    omega (arith, start, most, ap (λ u. length u.items) c.index.ensures, ap length at, ap length c.split_at.ensures.back, length-drop (i - s.result) c.deref-3.result.now)

pub returns-clause-items : goal.returns-clause-items
returns-clause-items g c =
    let cs = c.self.inside.chunks.items in
    let j = c.last_start-j.result in
    let e = c.last_start-j.ensures in
    let s = c.start_of-start in
    let i = c.args.i in
    let chunk = c.index.result.now in
    let same = c.deref.ensures.value in
    let l : j < length cs = omega (arith, e.within, ap length same) in
    let start : s.result ≡ length (items_of (take j cs)) = s.ensures ∙ ap (λ u. length (items_of (take j u))) c.deref-2.ensures.value in
    let least = ap (λ u. length (items_of (take j u))) same in
    let at = c.deref-3.ensures.value in
    let inside : i < length (items_of cs) = omega (arith, c.requires, ap (λ u. length u.items) c.self.view_is) in
    let most = in_found_piece (λ u. u.items) cs i j chunk l (λ h. omega (arith, e.most (omega (arith, h, ap length same)), ap (λ u. length (items_of (take (j + 1) u))) same)) inside in
    let within : i - s.result ≤ length chunk.items = omega (arith, start, most, ap (λ u. length u.items) c.index.ensures) in
    let is : c.split_at.result.1.now ≡ drop (i - s.result) chunk.items = c.split_at.ensures.back ∙ ap (drop (i - s.result)) at in
    ap (λ u. take (length u) (drop i c.args.self.now.items)) is
    ∙ ap (λ u. take (length (drop (i - s.result) chunk.items)) (drop i u.items)) (sym c.self.view_is)
    ∙ rest_of_piece (λ u. u.items) cs j chunk i s.result l c.index.ensures start (omega (arith, start, e.least, least)) within
    ∙ sym is
