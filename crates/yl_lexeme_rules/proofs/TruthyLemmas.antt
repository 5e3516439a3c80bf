-- Lists of truthy words.
use Rattle.std.proofs.Common.{◌≡◌, ◌<◌, ℕ, ◌+◌, Bool, true, false, cond, ◌&&◌, length, List, [], ◌∷◌, ◌++◌, drop, get_or, Option, Some, None, refl, sym, ◌∙◌, ap, add-one, drop-cons}
use Rattle.std.specs.Prelude.{bytes_eq, codes}
use Rattle.std.specs.List.{flat_map, items_where_true, join_by, list_all, position_from, slice_get}
use Rattle.std.proofs.lemmas.Option.{slice_get_within, get_or_from_slice_get}
use Rattle.std.proofs.lemmas.Slice.Eq.{bytes_eq-Decides}
use Rattle.yl_lexeme_rules.specs.WordList.{word_list}

-- what begins at a place
drop_here : {X : Type 0} (xs : List X) (i : ℕ) (x : X) → slice_get xs i ≡ Some x → drop i xs ≡ x ∷ drop (i + 1) xs
drop_here xs i x e =
    let h : i < length xs = slice_get_within xs i x e in
    rw (add-one i, drop-cons xs i x, get_or_from_slice_get xs i x x e)

-- a word that is not the one looked for
pub index_more : (ws : List (List ℕ)) (i : ℕ) (w word : List ℕ) (n : Option ℕ) → slice_get ws i ≡ Some w → bytes_eq w word ≡ false →
    position_from (λ v. bytes_eq v word) i (drop i ws) ≡ n → position_from (λ v. bytes_eq v word) (i + 1) (drop (i + 1) ws) ≡ n
index_more ws i w word n e other all =
    let is_it : List ℕ → Bool = λ v. bytes_eq v word in
    sym (ap (λ b. cond b (Some i) (position_from is_it (i + 1) (drop (i + 1) ws))) other) ∙ sym (ap (position_from is_it i) (drop_here ws i w e)) ∙ all

both_true : (a b : Bool) → (a && b) ≡ true → (a ≡ true) × (b ≡ true)
both_true true b all = (refl, all)
both_true false b all = cc

not_here : (is_here : Bool) (i : ℕ) (later : Option ℕ) → (is_here ≡ true → ⊥) → later ≡ None
    → cond is_here (Some i) later ≡ None
not_here true i later other none = absurd (other refl)
not_here false i later other none = none

differ : (test : List ℕ → Bool) (v w : List ℕ) → test v ≡ true → test w ≡ false → v ≡ w → ⊥
differ test v w passed failed same =
    let wrong : true ≡ false = sym passed ∙ ap test same ∙ failed in cc

-- a word of which a test says no is not among words of which it says yes
pub not_among : (test : List ℕ → Bool) (ws : List (List ℕ)) (i : ℕ) (word : List ℕ)
    → list_all test ws ≡ true → test word ≡ false → position_from (λ v. bytes_eq v word) i ws ≡ None
not_among test [] i word all failed = refl
not_among test (w ∷ ws) i word all failed =
    let tested = both_true (test w) (list_all test ws) all in
    not_here (bytes_eq w word) i (position_from (λ v. bytes_eq v word) (i + 1) ws)
    (λ same. differ test w word tested.0 failed ((bytes_eq-Decides w word).0 same))
    (not_among test ws (i + 1) word tested.1 failed)

chosen_one : (b : Bool) (bs : List Bool) (w : List ℕ) (ws : List (List ℕ))
    → items_where_true (b ∷ bs) (w ∷ ws) ≡ cond b (w ∷ items_where_true bs ws) (items_where_true bs ws)
chosen_one true bs w ws = refl
chosen_one false bs w ws = refl

-- the words chosen from a place on
pub chosen_here : (ws : List (List ℕ)) (flags : List Bool) (i : ℕ) (w : List ℕ) → slice_get ws i ≡ Some w → i < length flags →
    items_where_true (drop i flags) (drop i ws)
    ≡ cond (get_or flags i false) (w ∷ items_where_true (drop (i + 1) flags) (drop (i + 1) ws)) (items_where_true (drop (i + 1) flags) (drop (i + 1) ws))
chosen_here ws flags i w e h =
    ap (items_where_true (drop i flags)) (drop_here ws i w e)
    ∙ ap (λ bs. items_where_true bs (w ∷ drop (i + 1) ws)) (drop-cons flags i false h ∙ ap (λ n. get_or flags i false ∷ drop n flags) (sym (add-one i)))
    ∙ chosen_one (get_or flags i false) (drop (i + 1) flags) w (drop (i + 1) ws)

-- a list of words from its second word on, and from the first
words_later : (ws : List (List ℕ)) → word_list false ws ≡ flat_map (λ w. codes ", " ++ w) ws
words_later [] = refl
words_later (w ∷ ws) = ap (λ l. (codes ", " ++ w) ++ l) (words_later ws)

words_joined : (ws : List (List ℕ)) → word_list true ws ≡ join_by (λ w. w) (codes ", ") ws
words_joined [] = refl
words_joined (w ∷ ws) = ap (λ l. w ++ l) (words_later ws)

pub words_begun : (text front : List ℕ) (ws : List (List ℕ)) → text ≡ front → text ++ word_list true ws ≡ front ++ join_by (λ w. w) (codes ", ") ws
words_begun text front ws e = ap (λ l. l ++ word_list true ws) e ∙ ap (λ l. front ++ l) (words_joined ws)
