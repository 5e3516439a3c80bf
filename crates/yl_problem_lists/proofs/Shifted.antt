-- A list whose items are changed one after another.
use Rattle.std.proofs.Common.{◌≡◌, ℕ, suc, zero, ◌+◌, ◌-◌, ◌<◌, ◌≤◌, List, [], ◌∷◌, ◌++◌, length, map, take, drop, get_or, arith, rules, ap, sym, refl, ◌∙◌, append_assoc, length-append, add-one}
use Rattle.std.specs.List.{AllByRecursion, slice_set}
use Rattle.std.proofs.Math.Seq.{set-append_seam, drop-cons}
use Rattle.std.proofs.lemmas.List.{same_lists, places, map-append, length-map, length-take-le, length-drop}

pub all_at : {X : Type 0} (P : X → Type 0) (xs : List X) (k : ℕ) (d : X) → AllByRecursion P xs → k < length xs → P (get_or xs k d)
all_at P [] k d h l = absurd (omega (arith, l))
all_at P (x ∷ xs) zero d h l = h.0
all_at P (x ∷ xs) (suc k) d h l = all_at P xs k d h.1 (omega (arith, l))

one_more : {X : Type 0} (old : List X) (from i : ℕ) (d : X) → from ≤ i → i < length old → take (i + 1 - from) (drop from old) ≡ take (i - from) (drop from old) ++ get_or old i d ∷ []
one_more old from i d l h = same_lists _ _ (search (rules, places)) (λ k d h. grind (arith, places))

module _ {X : Type 0} (s : X → X) (old items : List X) (from i : ℕ) (x : X) (l : from ≤ i) (h : i < length old)
    (now : items ≡ take from old ++ (map s (take (i - from) (drop from old)) ++ drop i old)) (is : x ≡ get_or items i x) where
  abbrev front : List X
  front = take from old ++ map s (take (i - from) (drop from old))

  front_length : length front ≡ i
  front_length =
      length-append (take from old) (map s (take (i - from) (drop from old)))
      ∙ omega (arith, length-take-le from old (omega (arith, l, h)), length-map (take (i - from) (drop from old)) s, length-take-le (i - from) (drop from old) (omega (arith, length-drop from old, l, h)))

  abbrev here : X
  here = get_or old i x

  at_seam : items ≡ front ++ here ∷ drop (i + 1) old
  at_seam =
      now ∙ (sym (append_assoc (take from old) (map s (take (i - from) (drop from old))) (drop i old))
      ∙ ap (λ ys. front ++ ys) (drop-cons old i x h ∙ ap (λ k. here ∷ drop k old) (sym (add-one i))))

  seam_get : {Y : Type 0} (ys zs : List Y) (y d : Y) → get_or (ys ++ y ∷ zs) (length ys) d ≡ y
  seam_get [] zs y d = refl
  seam_get (z ∷ ys) zs y d = seam_get ys zs y d

  pub item_is : x ≡ here
  item_is = is ∙ (ap (λ ys. get_or ys i x) at_seam ∙ (ap (λ k. get_or (front ++ here ∷ drop (i + 1) old) k x) (sym front_length) ∙ seam_get front (drop (i + 1) old) here x))

  pub set_more : (y : X) → y ≡ s x → slice_set items i y ≡ take from old ++ (map s (take (i + 1 - from) (drop from old)) ++ drop (i + 1) old)
  set_more y e =
      ap (λ ys. slice_set ys i y) at_seam
      ∙ (ap (λ k. slice_set (front ++ here ∷ drop (i + 1) old) k y) (sym front_length)
      ∙ (set-append_seam front here (drop (i + 1) old) y
      ∙ (ap (λ z. front ++ z ∷ drop (i + 1) old) (e ∙ ap s item_is)
      ∙ (append_assoc (take from old) (map s (take (i - from) (drop from old))) (s here ∷ drop (i + 1) old)
      ∙ ap (λ ys. take from old ++ ys)
      (sym (append_assoc (map s (take (i - from) (drop from old))) (s here ∷ []) (drop (i + 1) old))
      ∙ ap (λ ys. ys ++ drop (i + 1) old) (sym (ap (map s) (one_more old from i x l h) ∙ map-append s (take (i - from) (drop from old)) (here ∷ []))))))))

  pub item_all : (P : X → Type 0) → AllByRecursion P old → P x
  item_all P all = rw item_is (all_at P old i x all h)
