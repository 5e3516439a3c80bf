use Rattle.std.proofs.Common.{◌≡◌, ℕ, ◌+◌, ◌-◌, ◌<◌, ◌≤◌, ◌∙◌, List, Vec, length, take, set, ap, subst, sym, get_or, arith}
use Rattle.std.proofs.lemmas.List.{length-set, length-append}
use Rattle.std.proofs.lemmas.List.Elements.{All-set}
use Rattle.yl_chunks.specs.Chunks.{items_of, ArePlaces}
use Rattle.yl_chunks.specs.declared.places.Place.{Place}
use Rattle.yl_chunks.proofs.Pieces.{part_more, splice_len, one_put, one_moved, one_total}
use Rattle.yl_chunks.proofs.spreading.put_in_chunk.Goals as goal

-- the places stay true with one chunk made anew, up to which they are turned
moved : {T A : Type 0} (cs : List (Vec T A)) (places : List ℕ) (turned p len now removed added : ℕ) (x y : Vec T A) → ArePlaces cs places turned len → turned ≡ p + 1 → p < length cs → x ≡ get_or cs p x → removed ≤ length x.items
    → length y.items ≡ length x.items - removed + added → now ≡ len - removed + added → ArePlaces (set cs p y) places turned now
moved cs places turned p len now removed added x y h at l is fewer size total =
    let parts = one_moved (λ v. v.items) cs places p len now removed added x y (λ j k m. h.before j k (omega (arith, at))) (λ j k m. h.behind j k (omega (arith, at))) l is fewer size total in record {
      counted = h.counted ∙ sym (length-set cs p y);
      within = omega (arith, h.within, length-set cs p y);
      whole = one_total (λ v. v.items) cs p len now removed added x y h.whole l is fewer size total;
      before = λ j k m. (parts j k).0 (omega (arith, at));
      behind = λ j k m. (parts j k).1 (omega (arith, at));
    }

-- the items of the one chunk of a place are counted
size_of : {T A : Type 0} (cs : List (Vec T A)) (p : Place) (x : Vec T A) → p.end ≡ p.first + 1 → p.first < length cs → x ≡ get_or cs p.first x
    → length (items_of (take p.first cs)) + p.count ≡ length (items_of (take p.end cs)) → length x.items ≡ p.count
size_of cs p x one l is count =
    omega (
      arith,
      count,
      ap (λ (n : ℕ). length (items_of (take n cs))) one,
      ap length (part_more (λ v. v.items) cs p.first x l) ∙ length-append (items_of (take p.first cs)) (get_or cs p.first x).items,
      ap (λ v. length v.items) is,
    )

pub returns-clause-items : goal.returns-clause-items
returns-clause-items g c =
    let r = c.requires in
    let p = c.args.place in
    let cs = c.args.chunks.now.items in
    let x = c.index_mut.result.now in
    let l : p.first < length cs = omega (arith, r.chunk.one, r.place.within) in
    one_put (λ v. v.items) cs p.first p.a p.b x c.put_between.new.items c.args.new.now.items l c.index_mut.ensures.value r.place.range.ordered (omega (arith, r.place.range.within, size_of cs p x r.chunk.one l c.index_mut.ensures.value r.place.count)) c.put_between.ensures.items

pub returns-clause-chunks : goal.returns-clause-chunks
returns-clause-chunks g c =
    let r = c.requires in
    let p = c.args.place in
    let cs = c.args.chunks.now.items in
    let x = c.index_mut.result.now in
    let y = c.put_between.new.items in
    let new = c.args.new.now in
    let s = c.turn.new.starts in
    let l : p.first < length cs = omega (arith, r.chunk.one, r.place.within) in
    let size = size_of cs p x r.chunk.one l c.index_mut.ensures.value r.place.count in
    let put = ap length c.put_between.ensures.items ∙ splice_len x.items new.items p.a p.b r.place.range.ordered (omega (arith, r.place.range.within, size)) in
    let turned = subst (λ u. ArePlaces u s.places.items s.turned s.len) c.deref.ensures.value c.turn.ensures.starts in record {
      filled = All-set (λ (v : Vec g.row.T.Denot g.row.A.Denot). (0 < length v.items) × (length v.items ≤ 256)) cs p.first y (omega (arith, put, size, r.chunk.some, new.ok.0), omega (arith, put, size, r.chunk.most, new.ok.0)) r.chunks.filled;
      begin = moved cs s.places.items s.turned p.first s.len (s.len - (p.b - p.a) + c.len.result) (p.b - p.a) c.len.result x y turned (c.turn.ensures.turned ∙ r.chunk.one) l c.index_mut.ensures.value (omega (arith, r.place.range.within, size)) (omega (arith, put, c.len.ensures, new.ok.0)) (omega arith);
    }
