use Rattle.std.proofs.Common.{ℕ, ◌+◌, List, Vec, Some, length, ap, subst, sym, arith}
use Rattle.yl_chunks.specs.Chunks.{ArePlaces, AreChunks}
use Rattle.yl_chunks.proofs.Alike.{alike_items, alike_front, alike_chunks, alike_place}
use Rattle.yl_chunks.proofs.Pieces.{part_few}
use Rattle.yl_chunks.proofs.room.prepare.Goals as goal

pub left-left-requires-clause-few : goal.left-left-requires-clause-few
left-left-requires-clause-few g c = part_few (λ v. v.items) c.args.chunks.now.items c.args.place.first c.args.place.end c.args.place.count c.args.count c.requires.place.count c.requires.few

pub returns-in_err-prepare_chunk-clause-items : goal.returns-in_err-prepare_chunk-clause-items
returns-in_err-prepare_chunk-clause-items g c = alike_items c.prepare_chunk.new.chunks.items c.args.chunks.now.items c.prepare_chunk.ensures.same

pub returns-in_err-prepare_chunk-clause-chunks : goal.returns-in_err-prepare_chunk-clause-chunks
returns-in_err-prepare_chunk-clause-chunks g c = alike_chunks c.prepare_chunk.new.chunks.items c.args.chunks.now.items c.args.starts.now c.prepare_chunk.ensures.same c.requires.chunks

pub returns-then-left-le-MOST-clause-items : goal.returns-then-left-le-MOST-clause-items
returns-then-left-le-MOST-clause-items g c = alike_items c.prepare_chunk.new.chunks.items c.args.chunks.now.items c.prepare_chunk.ensures.same

pub returns-then-left-le-MOST-clause-chunks : goal.returns-then-left-le-MOST-clause-chunks
returns-then-left-le-MOST-clause-chunks g c = alike_chunks c.prepare_chunk.new.chunks.items c.args.chunks.now.items c.args.starts.now c.prepare_chunk.ensures.same c.requires.chunks

pub returns-then-left-le-MOST-clause-prepared : goal.returns-then-left-le-MOST-clause-prepared
returns-then-left-le-MOST-clause-prepared g c =
    let now = c.prepare_chunk.new.chunks.items in
    let old = c.args.chunks.now.items in
    let same = c.prepare_chunk.ensures.same in record {
      place = alike_place now old c.args.place same c.requires.place;
      few = omega (arith, c.requires.few, ap length (alike_items now old same));
      either = record {
        one = omega (arith, c.if-place-eq1.true, c.requires.place.ordered);
        some = omega (arith, c.if-left-gt0.true, c.left-left.ensures);
        most = omega (arith, c.if-left-le-MOST.true, c.left-left.ensures);
        capacity = c.in_ok-prepare_chunk.ensures.room;
      };
    }

pub returns-then-left-le-MOST-clause-room : goal.returns-then-left-le-MOST-clause-room
returns-then-left-le-MOST-clause-room g c =
    let front = ap length (alike_front c.prepare_chunk.new.chunks.items c.args.chunks.now.items c.prepare_chunk.ensures.same c.args.place.first) in
    ap (λ (n : ℕ). Some record { a = n + c.args.place.a; b = n + c.args.place.b; count = c.args.count }) front

pub returns-clause-chunks : goal.returns-clause-chunks
returns-clause-chunks g c =
    let e = c.prepare_fresh.ensures in
    let s = c.args.starts.now in
    let P : List (Vec g.row.T.Denot g.row.A.Denot) → Type 0 = λ u. AreChunks u s in
    let Q : List ℕ → Type 0 = λ v. ArePlaces c.prepare_fresh.new.chunks.items v s.turned s.len in
    let h = subst P (sym e.chunks) c.requires.chunks in
    record { filled = h.filled; begin = subst Q (sym e.places) h.begin }
