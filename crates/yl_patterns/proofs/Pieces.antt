-- The items of a text, a piece after another.
use Rattle.std.proofs.Common.{◌≡◌, ◌+◌, ◌-◌, ◌<◌, ℕ, zero, suc, List, [], ◌∷◌, ◌++◌, Option, Some, None, length, get_or, drop, refl, sym, ap, ◌∙◌, arith, append_assoc}
use Rattle.std.proofs.lemmas.List.{drop_more, drop-drop}
use Rattle.std.specs.Option.{option_map, option_and_then}
use Rattle.yl_patterns.specs.declared.item.Item.{Item}
use Rattle.yl_patterns.specs.declared.piece.Place.{Place}
use Rattle.yl_patterns.specs.declared.piece.Piece.{Piece}
use Rattle.yl_patterns.specs.Reading.{items_after, piece_of}

skipped : (place : Place) (n : ℕ) (cs : List ℕ) → items_after place n cs ≡ items_after place 0 (drop n cs)
skipped place zero cs = refl
skipped place (suc n) [] = refl
skipped place (suc n) (c ∷ cs) = skipped place n cs

-- what the items are, where some stand before them
abbrev pub joined : List Item → Option (List Item) → Option (List Item)
joined xs items = option_map (λ is. xs ++ is) items

join_more : (xs : List Item) (x : Item) (items : Option (List Item)) → joined xs (option_map (λ is. x ∷ is) items) ≡ joined (xs ++ x ∷ []) items
join_more xs x None = refl
join_more xs x (Some is) = ap Some (sym (append_assoc xs (x ∷ []) is))

first_piece : (place : Place) (c : ℕ) (cs : List ℕ) (o : Option Piece) → piece_of place (c ∷ cs) ≡ o
    → items_after place 0 (c ∷ cs) ≡ option_and_then (λ p. option_map (λ is. p.item ∷ is) (items_after p.next (p.len - 1) cs)) o
first_piece place c cs o e = ap (λ q. option_and_then (λ p. option_map (λ is. p.item ∷ is) (items_after p.next (p.len - 1) cs)) q) e

pub items_more : (place : Place) (cs : List ℕ) (at : ℕ) (p : Piece) (xs : List Item) → at < length cs → 0 < p.len → piece_of place (drop at cs) ≡ Some p
    → joined xs (items_after place 0 (drop at cs)) ≡ joined (xs ++ p.item ∷ []) (items_after p.next 0 (drop (at + p.len) cs))
items_more place cs at p xs h some e =
    let split = drop_more cs at 0 h in
    let here = first_piece place (get_or cs at 0) (drop (at + 1) cs) (Some p) (ap (piece_of place) (sym split) ∙ e) in
    let same : at + 1 + (p.len - 1) ≡ at + p.len = omega arith in
    let rest =
    skipped p.next (p.len - 1) (drop (at + 1) cs) ∙ ap (λ l. items_after p.next 0 l) (drop-drop (p.len - 1) (at + 1) cs)
    ∙ ap (λ (n : ℕ). items_after p.next 0 (drop n cs)) same in
    ap (λ l. joined xs (items_after place 0 l)) split ∙ ap (joined xs) here ∙ join_more xs p.item (items_after p.next (p.len - 1) (drop (at + 1) cs))
    ∙ ap (joined (xs ++ p.item ∷ [])) rest

pub no_items : (place : Place) (cs : List ℕ) (at : ℕ) → at < length cs → piece_of place (drop at cs) ≡ None → items_after place 0 (drop at cs) ≡ None
no_items place cs at h e =
    let split = drop_more cs at 0 h in
    ap (λ l. items_after place 0 l) split ∙ first_piece place (get_or cs at 0) (drop (at + 1) cs) None (ap (piece_of place) (sym split) ∙ e)
