use Rattle.std.proofs.Common.{◌≡◌, ℕ, ◌+◌, ◌-◌, ◌<◌, ◌≤◌, ◌∙◌, ◌++◌, [], List, All, Vec, vec_len, vec_capacity, min, length, take, drop, ap, subst, arith}
use Rattle.std.specs.List.{splice}
use Rattle.std.proofs.lemmas.List.Elements.{All-same, All-append, All-take, All-drop}
use Rattle.yl_chunks.specs.Chunks.{items_of, AreStarts, IsPlace, left_with, put_at, in_list}
use Rattle.yl_chunks.specs.declared.places.Place.{Place}
use Rattle.yl_chunks.proofs.Pieces.{part_between, part_le, splice_len, spread_lists}
use Rattle.yl_chunks.proofs.spreading.put_in_fresh.Goals as goal

abbrev part : {T A : Type 0} → List (Vec T A) → Place → List T
part cs p = items_of (take (p.end - p.first) (drop p.first cs))

part_size : {T A : Type 0} (cs : List (Vec T A)) (p : Place) → IsPlace cs p → length (part cs p) ≡ p.count
part_size cs p h = omega (arith, part_between (λ v. v.items) cs p.first p.end h.ordered, h.count)

-- what was gathered is what the chunks of the place have
all_of : {T A : Type 0} (cs : List (Vec T A)) (p : Place) (none all : List T) → IsPlace cs p → none ≡ [] → all ≡ none ++ part cs p → (all ≡ part cs p) × (length all ≡ p.count)
all_of cs p none all h empty is =
    let same : all ≡ part cs p = is ∙ ap (λ u. u ++ part cs p) empty in
    (same, ap length same ∙ part_size cs p h)

-- and with the new items in place
put_of : {T A : Type 0} (cs : List (Vec T A)) (p : Place) (none all put new : List T) → IsPlace cs p → none ≡ [] → all ≡ none ++ part cs p → put ≡ splice all p.a p.b new
    → (put ≡ splice (part cs p) p.a p.b new) × (length put ≡ left_with p (length new))
put_of cs p none all put new h empty is made =
    let a = all_of cs p none all h empty is in (
      made ∙ ap (λ u. splice u p.a p.b new) a.0,
      ap length made ∙ splice_len all new p.a p.b h.range.ordered (omega (arith, a.1, h.range.within)) ∙ ap (λ (n : ℕ). left_with record p { count = n } (length new)) a.1,
    )

-- with the new chunks in place, and few enough items
spread_of : {T A : Type 0} (cs mid out fresh : List (Vec T A)) (p : Place) (none all put new : List T) → IsPlace cs p → none ≡ [] → all ≡ none ++ part cs p → put ≡ splice all p.a p.b new → items_of fresh ≡ put
    → length mid ≡ length cs → take p.first mid ≡ take p.first cs → drop p.end mid ≡ drop p.end cs → out ≡ splice mid p.first p.end fresh
    → (out ≡ take p.first cs ++ (fresh ++ drop p.end cs)) × (items_of out ≡ put_at cs p new) × (length (items_of out) ≤ length (items_of cs) + length new)
spread_of cs mid out fresh p none all put new h empty is made cut same before behind spread =
    let size = part_size cs p h in
    let whole = put_of cs p none all put new h empty is made in
    let parts = spread_lists (λ v. v.items) cs mid out fresh p.first p.end p.a p.b new h.ordered h.within same before behind spread h.range.ordered (omega (arith, size, h.range.within)) (cut ∙ whole.0) in
    let within : in_list cs p p.b ≤ length (items_of cs) = omega (arith, part_le (λ v. v.items) cs p.end, h.count, h.range.within) in
    let total = ap length parts.1 ∙ splice_len (items_of cs) new (in_list cs p p.a) (in_list cs p p.b) (omega (arith, h.range.ordered)) within in
    (parts.0, parts.1, omega (arith, total))

pub gather-requires-clause-room : goal.gather-requires-clause-room
gather-requires-clause-room g c =
    let r = c.requires in
    omega (arith, part_size c.args.chunks.now.items c.args.place r.place, ap length r.fresh.empty, c.args.fresh.items.ok.0, r.fresh.items_room)

pub put_between-requires-clause-range : goal.put_between-requires-clause-range
put_between-requires-clause-range g c =
    let r = c.requires in
    let a = all_of c.args.chunks.now.items c.args.place c.args.fresh.items.items c.gather.new.items.items r.place r.fresh.empty c.gather.ensures.items in
    record { ordered = r.place.range.ordered; within = omega (arith, r.place.range.within, a.1, c.gather.new.items.ok.0) }

pub put_between-requires-clause-room : goal.put_between-requires-clause-room
put_between-requires-clause-room g c =
    let r = c.requires in
    let a = all_of c.args.chunks.now.items c.args.place c.args.fresh.items.items c.gather.new.items.items r.place r.fresh.empty c.gather.ensures.items in
    omega (arith, a.1, c.gather.new.items.ok.0, c.gather.ensures.items_capacity, r.fresh.items_room)

pub cut-requires-clause-enough : goal.cut-requires-clause-enough
cut-requires-clause-enough g c =
    let r = c.requires in
    let new = c.args.new.now in
    let h = put_of c.args.chunks.now.items c.args.place c.args.fresh.items.items c.gather.new.items.items c.put_between.new.items.items new.items r.place r.fresh.empty c.gather.ensures.items c.put_between.ensures.items in
    omega (arith, h.1, r.fresh.enough, c.put_between.new.items.ok.0, new.ok.0)

pub cut-requires-clause-few : goal.cut-requires-clause-few
cut-requires-clause-few g c =
    let r = c.requires in
    let new = c.args.new.now in
    let h = put_of c.args.chunks.now.items c.args.place c.args.fresh.items.items c.gather.new.items.items c.put_between.new.items.items new.items r.place r.fresh.empty c.gather.ensures.items c.put_between.ensures.items in
    omega (arith, h.1, r.fresh.few, c.put_between.new.items.ok.0, new.ok.0)

pub cut-requires-clause-empty : goal.cut-requires-clause-empty
cut-requires-clause-empty g c =
    let r = c.requires in
    let p = c.args.place in
    let new = c.args.new.now in
    let h = put_of c.args.chunks.now.items p c.args.fresh.items.items c.gather.new.items.items c.put_between.new.items.items new.items r.place r.fresh.empty c.gather.ensures.items c.put_between.ensures.items in
    let same : p.count - (p.b - p.a) + vec_len new ≡ vec_len c.put_between.new.items = omega (arith, h.1, c.put_between.new.items.ok.0, new.ok.0) in
    let Ready : ℕ → Type 0 = λ n. All (λ (v : Vec g.row.T.Denot g.row.A.Denot). (v.items ≡ []) × (min 256 n ≤ vec_capacity v)) c.args.fresh.chunks.items in
    subst Ready same r.fresh.each_room

pub count_starts-requires-clause-few : goal.count_starts-requires-clause-few
count_starts-requires-clause-few g c =
    let r = c.requires in
    let new = c.args.new.now in
    let cs = c.args.chunks.now in
    let e = c.gather.ensures in
    let len : length c.gather.new.chunks.items ≡ length cs.items = omega (arith, e.len, c.gather.new.chunks.ok.0, cs.ok.0) in
    let h = spread_of cs.items c.gather.new.chunks.items c.put_between-2.new.items.items c.cut.new.chunks.items c.args.place c.args.fresh.items.items c.gather.new.items.items c.put_between.new.items.items new.items r.place r.fresh.empty e.items c.put_between.ensures.items c.cut.ensures.items len e.before e.after c.put_between-2.ensures.items in
    omega (arith, h.2, ap (λ u. length (items_of u)) c.deref.ensures.value, r.few, new.ok.0)

pub returns-clause-items : goal.returns-clause-items
returns-clause-items g c =
    let r = c.requires in
    let cs = c.args.chunks.now in
    let e = c.gather.ensures in
    let len : length c.gather.new.chunks.items ≡ length cs.items = omega (arith, e.len, c.gather.new.chunks.ok.0, cs.ok.0) in
    let h = spread_of cs.items c.gather.new.chunks.items c.put_between-2.new.items.items c.cut.new.chunks.items c.args.place c.args.fresh.items.items c.gather.new.items.items c.put_between.new.items.items c.args.new.now.items r.place r.fresh.empty e.items c.put_between.ensures.items c.cut.ensures.items len e.before e.after c.put_between-2.ensures.items in
    h.1

pub returns-clause-chunks : goal.returns-clause-chunks
returns-clause-chunks g c =
    let r = c.requires in
    let p = c.args.place in
    let cs = c.args.chunks.now in
    let fresh = c.cut.new.chunks.items in
    let e = c.gather.ensures in
    let len : length c.gather.new.chunks.items ≡ length cs.items = omega (arith, e.len, c.gather.new.chunks.ok.0, cs.ok.0) in
    let h = spread_of cs.items c.gather.new.chunks.items c.put_between-2.new.items.items fresh p c.args.fresh.items.items c.gather.new.items.items c.put_between.new.items.items c.args.new.now.items r.place r.fresh.empty e.items c.put_between.ensures.items c.cut.ensures.items len e.before e.after c.put_between-2.ensures.items in
    let P : Vec g.row.T.Denot g.row.A.Denot → Type 0 = λ v. (0 < length v.items) × (length v.items ≤ 256) in
    let Q : List (Vec g.row.T.Denot g.row.A.Denot) → Type 0 = λ u. AreStarts u c.count_starts.new.starts in record {
      filled = All-same P _ _ h.0 (All-append P (take p.first cs.items) (fresh ++ drop p.end cs.items) (All-take P p.first cs.items r.chunks.filled) (All-append P fresh (drop p.end cs.items) c.cut.ensures.filled (All-drop P p.end cs.items r.chunks.filled)));
      begin = subst Q c.deref.ensures.value c.count_starts.ensures;
    }
