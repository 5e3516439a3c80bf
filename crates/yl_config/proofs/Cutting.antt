-- The documents of a text, cut one after another.
use Rattle.std.proofs.Common.{◌≡◌, ◌<◌, ◌≤◌, ℕ, zero, suc, ◌+◌, ◌-◌, min, List, [], ◌∷◌, ◌++◌, length, map, take, drop, get_or, refl, sym, ap, subst, ◌∙◌, arith, append_assoc, drop-cons, drop-drop, length-drop}
use Rattle.std.proofs.lemmas.List.{take_all, drop_all, take_min, drop_min, take-map, drop-map}
use Rattle.yl_lexeme.specs.declared.lexeme.Kind.{Kind}
use Rattle.yl_events.specs.Documents.{beginnings}
use Rattle.yl_lexeme.specs.Lexeme.{LexemeValue}
use Rattle.yl_config.specs.TextDocuments.{AreBuilt, BuiltDocumentValue, IsBuilt, cut_at, cut_behind, documents_of}

-- one document more
pub built_more : (whole : List (List LexemeValue)) (all : List BuiltDocumentValue) (passed place : ℕ) (later : List ℕ) (xs : List LexemeValue) (d : BuiltDocumentValue)
    → ((ds : List BuiltDocumentValue) → AreBuilt (cut_behind passed (place ∷ later) xs) ds → AreBuilt whole (all ++ ds))
    → IsBuilt (take (place - passed) xs) d
    → (ds : List BuiltDocumentValue) → AreBuilt (cut_behind place later (drop (place - passed) xs)) ds → AreBuilt whole ((all ++ d ∷ []) ++ ds)
built_more whole all passed place later xs d built one ds rest =
    subst (AreBuilt whole) (sym (append_assoc all (d ∷ []) ds)) (built (d ∷ ds) (one, rest))

-- the last document
pub built_last : (whole : List (List LexemeValue)) (all : List BuiltDocumentValue) (passed : ℕ) (xs : List LexemeValue) (d : BuiltDocumentValue)
    → ((ds : List BuiltDocumentValue) → AreBuilt (cut_behind passed [] xs) ds → AreBuilt whole (all ++ ds))
    → IsBuilt xs d → AreBuilt whole (all ++ d ∷ [])
built_last whole all passed xs d built one = built (d ∷ []) (one, tt)

-- ---- of a slice of lexemes that are seen so

-- at the place of this index; the lexemes from `at` on are still to be cut
pub built_step : {X : Type 0} (xs : List X) (f : X → LexemeValue) (whole : List (List LexemeValue)) (all new : List BuiltDocumentValue) (passed len at i : ℕ) (places : List ℕ) (d : BuiltDocumentValue)
    → i < length places → len ≡ min (get_or places i 0 - passed) (length xs - at)
    → ((ds : List BuiltDocumentValue) → AreBuilt (cut_behind passed (drop i places) (map f (drop at xs))) ds → AreBuilt whole (all ++ ds))
    → IsBuilt (map f (take (at + len - at) (drop at xs))) d → new ≡ all ++ d ∷ []
    → (ds : List BuiltDocumentValue) → AreBuilt (cut_behind (get_or places i 0) (drop (i + 1) places) (map f (drop (at + len) xs))) ds → AreBuilt whole (new ++ ds)
built_step xs f whole all new passed len at i places d inside is_len built one is_new ds rest =
    let place = get_or places i 0 in
    let later = drop (i + 1) places in
    let n = place - passed in
    let behind = drop at xs in
    let ys = map f behind in
    let least : len ≡ min n (length behind) = is_len ∙ ap (min n) (sym (length-drop at xs)) in
    let same : at + len - at ≡ len = omega arith in
    let next : suc i ≡ i + 1 = omega arith in
    let here : map f (take (at + len - at) behind) ≡ take n ys =
    ap (λ (k : ℕ). map f (take k behind)) (same ∙ least) ∙ (ap (map f) (take_min n behind) ∙ sym (take-map f n behind)) in
    let there : map f (drop (at + len) xs) ≡ drop n ys =
    ap (map f) (sym (drop-drop len at xs)) ∙ (ap (λ (k : ℕ). map f (drop k behind)) least ∙ (ap (map f) (drop_min n behind) ∙ sym (drop-map f n behind))) in
    let heads : drop i places ≡ place ∷ later = drop-cons places i 0 inside ∙ ap (λ (k : ℕ). place ∷ drop k places) next in
    let P : List ℕ → List BuiltDocumentValue → Type 0 = λ ps es. AreBuilt (cut_behind passed ps ys) es in
    let Q : List LexemeValue → Type 0 = λ zs. IsBuilt zs d in
    let R : List LexemeValue → Type 0 = λ zs. AreBuilt (cut_behind place later zs) ds in
    let S : List BuiltDocumentValue → Type 0 = λ es. AreBuilt whole (es ++ ds) in
    subst S (sym is_new)
    (built_more whole all passed place later ys d (λ es h. built es (subst (λ ps. P ps es) (sym heads) h)) (subst Q here one) ds (subst R there rest))

-- behind all places
pub built_end : {X : Type 0} (xs : List X) (f : X → LexemeValue) (whole : List (List LexemeValue)) (all new : List BuiltDocumentValue) (passed at i : ℕ) (places : List ℕ) (d : BuiltDocumentValue)
    → length places ≤ i
    → ((ds : List BuiltDocumentValue) → AreBuilt (cut_behind passed (drop i places) (map f (drop at xs))) ds → AreBuilt whole (all ++ ds))
    → IsBuilt (map f (take (length xs - at) (drop at xs))) d → new ≡ all ++ d ∷ [] → AreBuilt whole new
built_end {X} xs f whole all new passed at i places d past built one is_new =
    let behind = drop at xs in
    let none : drop i places ≡ [] = drop_all i places past in
    let same : length xs - at ≡ length behind = sym (length-drop at xs) in
    let everything : take (length xs - at) behind ≡ behind = take_all (length xs - at) behind (omega (arith, same)) in
    let P : List ℕ → List BuiltDocumentValue → Type 0 = λ ps es. AreBuilt (cut_behind passed ps (map f behind)) es in
    let Q : List X → Type 0 = λ zs. IsBuilt (map f zs) d in
    subst (AreBuilt whole) (sym is_new)
    (built_last whole all passed (map f behind) d (λ es h. built es (subst (λ ps. P ps es) (sym none) h)) (subst Q everything one))

-- ---- the cut of all

kinds : {X : Type 0} (xs : List X) (f : X → LexemeValue) (kind : X → Kind) → ((x : X) → (f x).kind ≡ kind x) → map (λ x. x.kind) (map f xs) ≡ map kind xs
kinds [] f kind same = refl
kinds (x ∷ xs) f kind same = rw (same x, kinds xs f kind same) refl

cut_first : (places : List ℕ) (ys : List LexemeValue) (ds : List BuiltDocumentValue) → 1 ≤ length places
    → AreBuilt (cut_behind (get_or places 0 0) (take (length places - 1) (drop 1 places)) ys) ds → AreBuilt (cut_at places ys) ds
cut_first [] ys ds some h = absurd (omega (arith, some))
cut_first (p ∷ ps) ys ds some h =
    let others : take (length (p ∷ ps) - 1) ps ≡ ps = take_all (length (p ∷ ps) - 1) ps (omega arith) in
    let P : List ℕ → Type 0 = λ qs. AreBuilt (cut_behind p qs ys) ds in
    subst P others h

pub built_all : {X : Type 0} (xs : List X) (f : X → LexemeValue) (kind : X → Kind) (places : List ℕ) (ds : List BuiltDocumentValue)
    → ((x : X) → (f x).kind ≡ kind x) → places ≡ beginnings (map kind xs) → 1 ≤ length places
    → AreBuilt (cut_behind (get_or places 0 0) (take (length places - 1) (drop 1 places)) (map f xs)) ds → AreBuilt (documents_of (map f xs)) ds
built_all xs f kind places ds same are some built =
    let P : List ℕ → Type 0 = λ ps. AreBuilt (cut_at ps (map f xs)) ds in
    subst P (are ∙ ap beginnings (sym (kinds xs f kind same))) (cut_first places (map f xs) ds some built)
