use Rattle.std.proofs.Common.{◌≡◌, ℕ, ◌+◌, ◌∙◌, take, length, ap, arith, slice_index}
use Rattle.std.proofs.lemmas.List.{length_push}
use Rattle.yl_chunks.specs.Chunks.{items_of}
use Rattle.yl_chunks.proofs.Pieces.{counted_more, each_more}
use Rattle.yl_chunks.proofs.counting.count_starts.Goals as goal

pub overflow_add-start : goal.overflow_add-start
overflow_add-start g c =
    let size : c.len-start.result ≡ length c.chunk-item.result.items = omega (arith, c.len-start.ensures, c.chunk-item.result.ok.0) in
    let h = counted_more (λ v. v.items) c.args.chunks.now c.loop-chunk.chunk-index c.chunk-item.result c.len-start.result c.loop-chunk.start c.loop-chunk-test.true c.chunk-item.is size c.loop-chunk.invariant.start in
    record { fits = omega (arith, h.1, c.requires.few) }

pub loop-chunk-preserved : goal.loop-chunk-preserved
loop-chunk-preserved g c =
    let size : c.len-start.result ≡ length c.chunk-item.result.items = omega (arith, c.len-start.ensures, c.chunk-item.result.ok.0) in
    let h = counted_more (λ v. v.items) c.args.chunks.now c.loop-chunk.chunk-index c.chunk-item.result c.len-start.result c.loop-chunk.start c.loop-chunk-test.true c.chunk-item.is size c.loop-chunk.invariant.start in
    let pushed = c.push_reserved.ensures.items in
    let i = c.loop-chunk.invariant in
    record {
      counted = ap length pushed ∙ length_push c.loop-chunk.starts.places.items c.loop-chunk.start ∙ ap (λ (n : ℕ). n + 1) i.counted;
      start = h.0;
      each = λ k l. ap (λ u. slice_index u k) pushed ∙ each_more c.loop-chunk.starts.places.items (λ (m : ℕ). length (items_of (take m c.args.chunks.now))) c.loop-chunk.chunk-index c.loop-chunk.start i.counted i.start i.each k l;
      room = omega (arith, c.push_reserved.ensures.capacity, i.room);
    }
