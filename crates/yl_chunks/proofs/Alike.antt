-- Chunks that have each the same items as others.
use Rattle.std.proofs.Common.{◌≡◌, ℕ, ◌<◌, ◌≤◌, ◌∙◌, List, Vec, All, length, map, take, ap, sym, subst, arith}
use Rattle.std.proofs.lemmas.List.{length-map, take-map, get_or-map}
use Rattle.std.proofs.lemmas.List.Folds.{flat_map-map}
use Rattle.std.proofs.lemmas.List.Elements.{All-map, All-same}
use Rattle.std.specs.List.{flat_map}
use Rattle.yl_chunks.specs.Chunks.{items_of, AreChunks, IsPlace}
use Rattle.yl_chunks.specs.declared.places.Place.{Place}
use Rattle.yl_chunks.specs.declared.places.Starts.{Starts}

-- what is told of what stands for each is told of each
All-of_map : {X Y : Type 0} (P : Y → Type 0) (f : X → Y) (xs : List X) → All P (map f xs) → All (λ x. P (f x)) xs
All-of_map P f xs h k d lt = subst P (get_or-map f xs k d (f d) lt) (h k (f d) (omega (arith, lt, length-map xs f)))

pub alike_items : {T A : Type 0} (now old : List (Vec T A)) → map (λ c. c.items) now ≡ map (λ c. c.items) old → items_of now ≡ items_of old
alike_items now old same = sym (flat_map-map (λ u. u) (λ c. c.items) now) ∙ ap (flat_map (λ u. u)) same ∙ flat_map-map (λ u. u) (λ c. c.items) old

-- the items of the first chunks
pub alike_front : {T A : Type 0} (now old : List (Vec T A)) → map (λ c. c.items) now ≡ map (λ c. c.items) old → (k : ℕ) → items_of (take k now) ≡ items_of (take k old)
alike_front now old same k = alike_items (take k now) (take k old) (sym (take-map (λ c. c.items) k now) ∙ ap (take k) same ∙ take-map (λ c. c.items) k old)

alike_len : {T A : Type 0} (now old : List (Vec T A)) → map (λ c. c.items) now ≡ map (λ c. c.items) old → length now ≡ length old
alike_len now old same = sym (length-map now (λ c. c.items)) ∙ ap length same ∙ length-map old (λ c. c.items)

pub alike_chunks : {T A : Type 0} (now old : List (Vec T A)) (s : Starts A) → map (λ c. c.items) now ≡ map (λ c. c.items) old → AreChunks old s → AreChunks now s
alike_chunks {T} {A} now old s same h =
    let P : List T → Type 0 = λ u. (0 < length u) × (length u ≤ 256) in
    let len = alike_len now old same in
    let front : (k : ℕ) → length (items_of (take k now)) ≡ length (items_of (take k old)) = λ k. ap length (alike_front now old same k) in
    let b = h.begin in record {
      filled = All-of_map P (λ c. c.items) now (All-same P _ _ same (All-map P (λ c. c.items) old h.filled));
      begin = record {
        counted = b.counted ∙ sym len;
        within = omega (arith, b.within, len);
        whole = omega (arith, b.whole, ap length (alike_items now old same));
        before = λ j k m. b.before j (omega (arith, k, len)) m ∙ sym (front j);
        behind = λ j k m. omega (arith, b.behind j (omega (arith, k, len)) m, front j);
      };
    }

pub alike_place : {T A : Type 0} (now old : List (Vec T A)) (p : Place) → map (λ c. c.items) now ≡ map (λ c. c.items) old → IsPlace old p → IsPlace now p
alike_place now old p same h =
    let front : (k : ℕ) → length (items_of (take k now)) ≡ length (items_of (take k old)) = λ k. ap length (alike_front now old same k) in record {
      ordered = h.ordered;
      within = omega (arith, h.within, alike_len now old same);
      count = omega (arith, h.count, front p.first, front p.end);
      range = h.range;
    }
