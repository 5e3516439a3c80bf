-- Lists of values.
use Rattle.std.proofs.Common.{◌≡◌, List, [], ◌∷◌, map, refl, sym, ◌∙◌, ap, Option, Some, None, codes}
use Rattle.std.specs.Borrow.{Bor}
use Rattle.std.specs.Option.{option_map, option_map_or}
use Rattle.std.specs.Prelude.{option_and_then}
use Rattle.json.specs.Find.{as_array, get}
use Rattle.json.specs.Json.{Json}
use Rattle.json.specs.Value.{value_view, items_view}
use Rattle.json.specs.declared.value.Value.{Value}
use Rattle.yl_lsp.specs.Params.{Unread, change_in, list_of, changes_in}

each_change : {A : Type 0} (vs : List (Value A)) → map change_in (list_of (items_view vs)) ≡ map (λ v. change_in (value_view v)) vs
each_change [] = refl
each_change (v ∷ vs) = ap (λ l. change_in (value_view v) ∷ l) (each_change vs)

seen_changes : {A : Type 0} (o : Option (Bor (List (Value A)))) → option_map_or (λ js. map change_in (list_of js)) (option_map (λ vs. items_view vs.now) o) (Unread ∷ []) ≡ option_map_or (λ vs. map (λ v. change_in (value_view v)) vs.now) o (Unread ∷ [])
seen_changes None = refl
seen_changes (Some vs) = each_change vs.now

pub changes_are : {A : Type 0} (o : Option (Bor (List (Value A)))) (j k : Json) → Some k ≡ get (codes "contentChanges") j → option_map (λ vs. items_view vs.now) o ≡ as_array k
    → changes_in j ≡ option_map_or (λ vs. map (λ v. change_in (value_view v)) vs.now) o (Unread ∷ [])
changes_are o j k found is =
    ap (λ g. option_map_or (λ js. map change_in (list_of js)) (option_and_then as_array g) (Unread ∷ [])) (sym found)
    ∙ ap (λ a. option_map_or (λ js. map change_in (list_of js)) a (Unread ∷ [])) (sym is) ∙ seen_changes o
