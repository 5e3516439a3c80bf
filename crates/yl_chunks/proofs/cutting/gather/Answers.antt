use Rattle.std.proofs.Common.{◌∙◌, arith, refl, vec_capacity}
use Rattle.std.proofs.lemmas.List.{take-set-le, length-set}
use Rattle.std.proofs.lemmas.Slice.{pushed}
use Rattle.yl_chunks.proofs.Pieces.{gathered, behind_more}
use Rattle.yl_chunks.proofs.cutting.gather.Goals as goal

pub unwrap-requires : goal.unwrap-requires
unwrap-requires g c =
    let h = gathered (λ v. v.items) c.args.chunks.now.items c.loop-j.chunks.items c.args.p c.args.q c.loop-j.j (vec_capacity c.args.items.now) c.index_mut.result.now c.args.items.now.items c.loop-j.items.items c.loop-j.auto.j c.loop-j-test.true (omega (arith, c.args.chunks.now.ok.0, c.requires.within)) c.loop-j.invariant.behind c.index_mut.ensures.value c.loop-j.invariant.items (omega (arith, c.args.items.now.ok.0, c.requires.room)) in
    c.append.ensures.succeeds (omega (arith, h.1, c.loop-j.items.ok.0, c.index_mut.result.now.ok.0, c.loop-j.invariant.room))

pub loop-j-preserved : goal.loop-j-preserved
loop-j-preserved g c =
    let h = gathered (λ v. v.items) c.args.chunks.now.items c.loop-j.chunks.items c.args.p c.args.q c.loop-j.j (vec_capacity c.args.items.now) c.index_mut.result.now c.args.items.now.items c.loop-j.items.items c.loop-j.auto.j c.loop-j-test.true (omega (arith, c.args.chunks.now.ok.0, c.requires.within)) c.loop-j.invariant.behind c.index_mut.ensures.value c.loop-j.invariant.items (omega (arith, c.args.items.now.ok.0, c.requires.room)) in
    let i = c.loop-j.invariant in
    record {
      items = pushed c.index_mut.result.now.items refl c.unwrap.ensures c.append.ensures.items ∙ h.0;
      before = take-set-le c.args.p c.loop-j.chunks.items c.loop-j.j c.append.new.other c.loop-j.auto.j ∙ i.before;
      behind = behind_more c.loop-j.chunks.items c.args.chunks.now.items c.loop-j.j c.append.new.other i.behind;
      same = length-set c.loop-j.chunks.items c.loop-j.j c.append.new.other ∙ i.same;
      room = omega (arith, c.append.ensures.capacity, i.room);
      chunks_room = i.chunks_room;
    }
