-- Laws of lists that a report needs.
use Rattle.std.proofs.Common.{◌≡◌, List, [], ◌∷◌, ◌++◌, Option, Some, None, refl, ap, ◌∙◌, option_to_list, sym, Result, Ok, Err, IfOk}
use Rattle.std.specs.List.{filter_map}
use Rattle.std.proofs.lemmas.List.Elements.{filter_map-append}

one : {X Y : Type 0} (h : X → Option Y) (x : X) (o : Option Y) → h x ≡ o → filter_map h (x ∷ []) ≡ option_to_list (h x)
one h x None e = rw e refl
one h x (Some y) e = rw e refl

-- one more item
pub filter_map_push : {X Y : Type 0} (h : X → Option Y) (xs : List X) (x : X) → filter_map h (xs ++ x ∷ []) ≡ filter_map h xs ++ option_to_list (h x)
filter_map_push h xs x = filter_map-append h xs (x ∷ []) ∙ ap (λ l. filter_map h xs ++ l) (one h x (h x) refl)

-- a loop's step
pub filter_map_step : {X Y : Type 0} (h : X → Option Y) (xs : List X) (x : X) (ys zs : List Y) → ys ≡ zs ++ option_to_list (h x) → zs ≡ filter_map h xs → ys ≡ filter_map h (xs ++ x ∷ [])
filter_map_step h xs x ys zs e i = e ∙ ap (λ l. l ++ option_to_list (h x)) i ∙ sym (filter_map_push h xs x)

-- from one fact on a result to another
pub ok_then : {T E : Type 0} {P Q : T → Type 0} (r : Result T E) → ((x : T) → P x → Q x) → IfOk r P → IfOk r Q
ok_then (Ok x) f p = f x p
ok_then (Err e) f p = tt
