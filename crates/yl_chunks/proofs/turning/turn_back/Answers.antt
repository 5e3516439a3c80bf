use Rattle.std.proofs.Common.{◌≡◌, ℕ, ◌-◌, ◌<◌, ◌≤◌, ◌∙◌, List, Vec, length, take, ap, slice_index_or, slice_set, arith, inl, inr}
use Rattle.std.proofs.lemmas.Bool.{cases_lt}
use Rattle.std.proofs.lemmas.Grind.{get_or-set_at}
use Rattle.std.proofs.lemmas.List.{get_or-set_other, length-set}
use Rattle.yl_chunks.specs.Chunks.{ArePlaces, items_of}
use Rattle.yl_chunks.proofs.Pieces.{part_le}
use Rattle.yl_chunks.proofs.turning.turn_back.Goals as goal

-- the last place that counts the items before its chunk is no more than all
at_most : {T A : Type 0} (cs : List (Vec T A)) (ps : List ℕ) (k len : ℕ) → ArePlaces cs ps k len → 0 < k → slice_index_or ps (k - 1) 0 ≤ len
at_most cs ps k len h some = omega (arith, h.within, h.before (k - 1) (omega (arith, h.within)) (omega arith), part_le (λ v. v.items) cs (k - 1), h.whole)

-- that place is turned
turned_back : {T A : Type 0} (cs : List (Vec T A)) (ps : List ℕ) (k len : ℕ) → ArePlaces cs ps k len → 0 < k → ArePlaces cs (slice_set ps (k - 1) (len - slice_index_or ps (k - 1) 0)) (k - 1) len
turned_back cs ps k len h some =
    let l : k - 1 < length cs = omega (arith, h.within) in
    let v = len - slice_index_or ps (k - 1) 0 in
    record {
      counted = omega (arith, length-set ps (k - 1) v, h.counted);
      within = omega (arith, h.within);
      whole = h.whole;
      before = λ j m n. get_or-set_other ps (k - 1) j v 0 (omega arith) ∙ h.before j m (omega arith);
      behind = λ j m n. elim (cases_lt (k - 1) j) [
        | inl later ↦ omega (arith, get_or-set_other ps (k - 1) j v 0 (omega arith), h.behind j m (omega arith))
        | inr now ↦
            let e : j ≡ k - 1 = omega arith in
            omega (arith, get_or-set_at ps (k - 1) j v 0 e (omega (arith, h.counted)), h.before (k - 1) l (omega arith), ap (λ (n : ℕ). length (items_of (take n cs))) e, at_most cs ps k len h some)
      ];
    }

pub overflow_sub-places : goal.overflow_sub-places
overflow_sub-places g c = at_most c.args.chunks.now c.loop-k.places c.loop-k.k c.args.len c.loop-k.invariant.places (omega arith)

pub loop-k-preserved : goal.loop-k-preserved
loop-k-preserved g c = record {
  ordered = omega arith;
  places = turned_back c.args.chunks.now c.loop-k.places c.loop-k.k c.args.len c.loop-k.invariant.places (omega arith);
}
