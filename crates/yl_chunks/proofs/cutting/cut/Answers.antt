use Rattle.std.proofs.Common.{◌≡◌, ℕ, ◌-◌, ◌/◌, ◌<◌, ◌≤◌, ◌∙◌, sym, ap, take, drop, length, [], min, arith, Vec, vec_len, vec_capacity}
use Rattle.std.proofs.lemmas.List.{length-set, length-append}
use Rattle.yl_chunks.specs.Chunks.{items_of}
use Rattle.yl_chunks.proofs.Pieces.{shares, told_in_front, cut_more, All_more, front_less}
use Rattle.yl_chunks.proofs.cutting.cut.Goals as goal

pub move_last-requires-clause-room : goal.move_last-requires-clause-room
move_last-requires-clause-room g c =
    let i = c.loop-left.invariant in
    let n = c.len.result in
    let size : n ≡ length c.loop-left.items.items = omega (arith, c.len.ensures, c.loop-left.items.ok.0) in
    let h = told_in_front (λ (v : Vec g.row.T.Denot g.row.A.Denot). (v.items ≡ []) × (min 256 (vec_len c.args.items.now) ≤ vec_capacity v)) c.loop-left.chunks.items c.args.chunks.now.items c.loop-left.left (c.loop-left.left - 1) c.index_mut.result.now i.empty (omega arith) (omega (arith, i.within, i.same)) c.requires.empty c.index_mut.ensures.value in
    let s = shares n c.loop-left.left c.loop-left-test.true (omega (arith, i.enough)) (omega (arith, i.few)) in
    let whole = ap length i.joined in
    omega (arith, s.1, s.2, h.1, whole, size, length-append c.loop-left.items.items (items_of (drop c.loop-left.left c.loop-left.chunks.items)), c.args.items.now.ok.0)

pub loop-left-preserved : goal.loop-left-preserved
loop-left-preserved g c =
    let i = c.loop-left.invariant in
    let n = c.len.result in
    let left = c.loop-left.left in
    let cs = c.loop-left.chunks.items in
    let items = c.loop-left.items.items in
    let y = c.move_last.new.to in
    let size : n ≡ length items = omega (arith, c.len.ensures, c.loop-left.items.ok.0) in
    let rest = c.move_last.ensures.rest ∙ ap (λ (m : ℕ). take (m - n / left) items) (sym c.len.ensures) in
    let moved = c.move_last.ensures.moved ∙ ap (λ (m : ℕ). drop (m - n / left) items) (sym c.len.ensures) in
    let h = cut_more (λ v. v.items) cs items c.move_last.new.items.items c.args.items.now.items left n y size c.loop-left-test.true i.within (omega (arith, i.enough)) (omega (arith, i.few)) i.joined rest moved in
    record {
      same = length-set cs (left - 1) y ∙ i.same;
      within = omega (arith, length-set cs (left - 1) y, i.within);
      enough = h.0;
      few = h.1;
      joined = h.2;
      filled = All_more (λ (v : Vec g.row.T.Denot g.row.A.Denot). (0 < length v.items) × (length v.items ≤ 256)) cs left y c.loop-left-test.true i.within i.filled (h.3, h.4);
      empty = front_less cs c.args.chunks.now.items left y i.empty;
    }
