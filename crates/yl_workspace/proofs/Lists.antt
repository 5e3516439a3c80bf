-- Documents in a list.
use Rattle.std.proofs.Common.{◌≡◌, ℕ, zero, suc, nat_lt, append_assoc, ◌+◌, ◌<◌, ◌≤◌, Bool, true, false, not, cond, List, [], ◌∷◌, ◌++◌, length, take, drop, set, get_or, refl, sym, ◌∙◌, ap, arith, Option, Some, None}
use Rattle.std.proofs.lemmas.Bool.Decides.{nat_tests}
use Rattle.std.proofs.lemmas.List.{append-nil, take_all, drop_all, drop_more, drop-set-lt, take_more_set}
use Rattle.std.specs.List.{position, position_or_len}
use Rattle.std.specs.Str.{bytes_eq}
use Rattle.yl_config.specs.declared.config.Config.{Config}
use Rattle.yl_workspace.specs.Documents.{DocumentValue, document_at, with_document, with_document_at, put_document, configured}

-- where the first document of a URI stands, or the length
abbrev pub place : List ℕ → List DocumentValue → ℕ
place uri ds = position_or_len (λ (d : DocumentValue). bytes_eq d.uri uri) ds

abbrev Docs : Type 0
Docs = List DocumentValue

-- the place, by whether the first document is it
abbrev place_if : Bool → ℕ → ℕ
place_if b n = cond (not b) (1 + n) 0

next : (n : ℕ) → 1 + n ≡ suc n
next n = omega arith

pub with_at : (uri : List ℕ) (other : DocumentValue → DocumentValue) (ds : Docs) (d0 : DocumentValue) → place uri ds < length ds → with_document uri other ds ≡ set ds (place uri ds) (other (get_or ds (place uri ds) d0))
with_at uri other [] d0 l = absurd (omega arith)
with_at uri other (d ∷ ds) d0 l =
    let n = place uri ds in
    elim (bytes_eq d.uri uri) as (λ b. place_if b n < suc (length ds) → cond b (other d ∷ ds) (d ∷ with_document uri other ds) ≡ set (d ∷ ds) (place_if b n) (other (get_or (d ∷ ds) (place_if b n) d0))) [
      | true ↦ λ h. refl
      | false ↦ λ h.
          ap (λ (t : Docs). d ∷ t) (with_at uri other ds d0 (omega arith)) ∙ ap (λ k. set (d ∷ ds) k (other (get_or (d ∷ ds) k d0))) (sym (next n))
    ] l

pub with_none : (uri : List ℕ) (other : DocumentValue → DocumentValue) (ds : Docs) → length ds ≤ place uri ds → with_document uri other ds ≡ ds
with_none uri other [] l = refl
with_none uri other (d ∷ ds) l =
    let n = place uri ds in
    elim (bytes_eq d.uri uri) as (λ b. suc (length ds) ≤ place_if b n → cond b (other d ∷ ds) (d ∷ with_document uri other ds) ≡ d ∷ ds) [
      | true ↦ λ h. absurd (omega arith)
      | false ↦ λ h. ap (λ (t : Docs). d ∷ t) (with_none uri other ds (omega arith))
    ] l

pub document_is : (uri : List ℕ) (ds : Docs) (d0 : DocumentValue) → place uri ds < length ds → document_at uri ds ≡ Some (get_or ds (place uri ds) d0)
document_is uri [] d0 l = absurd (omega arith)
document_is uri (d ∷ ds) d0 l =
    let n = place uri ds in
    elim (bytes_eq d.uri uri) as (λ b. place_if b n < suc (length ds) → cond b (Some d) (document_at uri ds) ≡ Some (get_or (d ∷ ds) (place_if b n) d0)) [
      | true ↦ λ h. refl
      | false ↦ λ h. document_is uri ds d0 (omega arith) ∙ ap (λ k. Some (get_or (d ∷ ds) k d0)) (sym (next n))
    ] l

pub document_none : (uri : List ℕ) (ds : Docs) → length ds ≤ place uri ds → document_at uri ds ≡ None
document_none uri [] l = refl
document_none uri (d ∷ ds) l =
    let n = place uri ds in
    elim (bytes_eq d.uri uri) as (λ b. suc (length ds) ≤ place_if b n → cond b (Some d) (document_at uri ds) ≡ None) [
      | true ↦ λ h. absurd (omega arith)
      | false ↦ λ h. document_none uri ds (omega arith)
    ] l

pub put_at : (new : DocumentValue) (ds : Docs) → place new.uri ds < length ds → put_document new ds ≡ set ds (place new.uri ds) new
put_at new [] l = absurd (omega arith)
put_at new (d ∷ ds) l =
    let n = place new.uri ds in
    elim (bytes_eq d.uri new.uri) as (λ b. place_if b n < suc (length ds) → cond b (new ∷ ds) (d ∷ put_document new ds) ≡ set (d ∷ ds) (place_if b n) new) [
      | true ↦ λ h. refl
      | false ↦ λ h. ap (λ (t : Docs). d ∷ t) (put_at new ds (omega arith)) ∙ ap (λ k. set (d ∷ ds) k new) (sym (next n))
    ] l

pub put_last : (new : DocumentValue) (ds : Docs) → length ds ≤ place new.uri ds → put_document new ds ≡ ds ++ new ∷ []
put_last new [] l = refl
put_last new (d ∷ ds) l =
    let n = place new.uri ds in
    elim (bytes_eq d.uri new.uri) as (λ b. suc (length ds) ≤ place_if b n → cond b (new ∷ ds) (d ∷ put_document new ds) ≡ (d ∷ ds) ++ new ∷ []) [
      | true ↦ λ h. absurd (omega arith)
      | false ↦ λ h. ap (λ (t : Docs). d ∷ t) (put_last new ds (omega arith))
    ] l

-- ---- by what `position` gives
found_if : (b : Bool) (n i : ℕ) → cond b (Some n) None ≡ Some i → (b ≡ true) × (i ≡ n)
found_if true n i e = (refl, cc)
found_if false n i e = cc

none_if : (b : Bool) (n : ℕ) → cond b (Some n) None ≡ None → b ≡ false
none_if true n e = cc
none_if false n e = refl

abbrev pub found : List ℕ → Docs → Option ℕ
found uri ds = position (λ (d : DocumentValue). bytes_eq d.uri uri) ds

place_found : (uri : List ℕ) (ds : Docs) (i : ℕ) → found uri ds ≡ Some i → (place uri ds < length ds) × (i ≡ place uri ds)
place_found uri ds i e =
    let parts = found_if (nat_lt (place uri ds) (length ds)) (place uri ds) i e in
    let test : nat_lt (place uri ds) (length ds) ≡ true = parts.0 in
    (grind (arith, nat_tests, test), parts.1)

place_missing : (uri : List ℕ) (ds : Docs) → found uri ds ≡ None → length ds ≤ place uri ds
place_missing uri ds e =
    let test : nat_lt (place uri ds) (length ds) ≡ false = none_if (nat_lt (place uri ds) (length ds)) (place uri ds) e in
    grind (arith, nat_tests, test)

pub inside_found : (uri : List ℕ) (ds : Docs) (i : ℕ) → found uri ds ≡ Some i → i < length ds
inside_found uri ds i e = let parts = place_found uri ds i e in omega (arith, parts.0, parts.1)

pub with_found : (uri : List ℕ) (other : DocumentValue → DocumentValue) (ds : Docs) (i : ℕ) (d0 : DocumentValue) → found uri ds ≡ Some i → with_document uri other ds ≡ set ds i (other (get_or ds i d0))
with_found uri other ds i d0 e =
    let parts = place_found uri ds i e in
    with_at uri other ds d0 parts.0 ∙ ap (λ k. set ds k (other (get_or ds k d0))) (sym parts.1)

pub with_missing : (uri : List ℕ) (other : DocumentValue → DocumentValue) (ds : Docs) → found uri ds ≡ None → with_document uri other ds ≡ ds
with_missing uri other ds e = with_none uri other ds (place_missing uri ds e)

pub document_found : (uri : List ℕ) (ds : Docs) (i : ℕ) (d0 : DocumentValue) → found uri ds ≡ Some i → document_at uri ds ≡ Some (get_or ds i d0)
document_found uri ds i d0 e =
    let parts = place_found uri ds i e in
    document_is uri ds d0 parts.0 ∙ ap (λ k. Some (get_or ds k d0)) (sym parts.1)

pub document_missing : (uri : List ℕ) (ds : Docs) → found uri ds ≡ None → document_at uri ds ≡ None
document_missing uri ds e = document_none uri ds (place_missing uri ds e)

pub put_found : (new : DocumentValue) (uri : List ℕ) (ds : Docs) (i : ℕ) → new.uri ≡ uri → found uri ds ≡ Some i → put_document new ds ≡ set ds i new
put_found new uri ds i same e =
    let parts = place_found new.uri ds i (ap (λ u. found u ds) same ∙ e) in
    put_at new ds parts.0 ∙ ap (λ k. set ds k new) (sym parts.1)

pub put_missing : (new : DocumentValue) (uri : List ℕ) (ds : Docs) → new.uri ≡ uri → found uri ds ≡ None → put_document new ds ≡ ds ++ new ∷ []
put_missing new uri ds same e = put_last new ds (place_missing new.uri ds (ap (λ u. found u ds) same ∙ e))

-- ---- looked for from one document to the next
pub place_here : (uri : List ℕ) (ds : Docs) (i : ℕ) (d0 : DocumentValue) → i < length ds → bytes_eq (get_or ds i d0).uri uri ≡ true → place uri ds ≡ i + place uri (drop i ds) → found uri ds ≡ Some i
place_here uri ds i d0 l t h =
    let zero : place uri (drop i ds) ≡ 0 = ap (λ (xs : Docs). place uri xs) (drop_more ds i d0 l) ∙ ap (λ b. place_if b (place uri (drop (i + 1) ds))) t in
    let at : place uri ds ≡ i = omega (arith, h, zero) in
    let test : nat_lt (place uri ds) (length ds) ≡ true = grind (arith, nat_tests, at, l) in
    ap (λ b. cond b (Some (place uri ds)) None) test ∙ ap (λ n. Some n) at

pub place_later : (uri : List ℕ) (ds : Docs) (i : ℕ) (d0 : DocumentValue) → i < length ds → bytes_eq (get_or ds i d0).uri uri ≡ false → place uri ds ≡ i + place uri (drop i ds)
    → place uri ds ≡ (i + 1) + place uri (drop (i + 1) ds)
place_later uri ds i d0 l f h =
    let more : place uri (drop i ds) ≡ 1 + place uri (drop (i + 1) ds) = ap (λ (xs : Docs). place uri xs) (drop_more ds i d0 l) ∙ ap (λ b. place_if b (place uri (drop (i + 1) ds))) f in
    omega (arith, h, more)

pub place_nowhere : (uri : List ℕ) (ds : Docs) (i : ℕ) → length ds ≤ i → place uri ds ≡ i + place uri (drop i ds) → found uri ds ≡ None
place_nowhere uri ds i l h =
    let zero : place uri (drop i ds) ≡ 0 = ap (λ (xs : Docs). place uri xs) (drop_all i ds l) in
    let test : nat_lt (place uri ds) (length ds) ≡ false = grind (arith, nat_tests, h, zero, l) in
    ap (λ b. cond b (Some (place uri ds)) None) test

-- ---- one after another
-- a document is made another in its place: F is what becomes of those from it on, and G of those after it
pub each_step : (F G : Docs → Docs) (f : DocumentValue → DocumentValue) → ((d : DocumentValue) (ds : Docs) → F (d ∷ ds) ≡ f d ∷ G ds) → (xs ys : Docs) (i : ℕ) (d0 : DocumentValue) → i < length xs
    → ys ≡ set xs i (f (get_or xs i d0)) → take (i + 1) ys ++ G (drop (i + 1) ys) ≡ take i xs ++ F (drop i xs)
each_step F G f step xs ys i d0 l e =
    let x = get_or xs i d0 in
    let front : take (i + 1) ys ≡ take i xs ++ f x ∷ [] = ap (λ (t : Docs). take (i + 1) t) e ∙ take_more_set xs i (f x) l in
    let back : drop (i + 1) ys ≡ drop (i + 1) xs = ap (λ (t : Docs). drop (i + 1) t) e ∙ drop-set-lt (i + 1) xs i (f x) (omega arith) in
    let rest : f x ∷ G (drop (i + 1) xs) ≡ F (drop i xs) = sym (step x (drop (i + 1) xs)) ∙ ap F (sym (drop_more xs i d0 l)) in
    ap (λ (t : Docs). t ++ G (drop (i + 1) ys)) front ∙ append_assoc (take i xs) (f x ∷ []) (G (drop (i + 1) ys)) ∙ ap (λ (t : Docs). take i xs ++ f x ∷ G t) back ∙ ap (λ (t : Docs). take i xs ++ t) rest

-- and none is left
pub each_done : (F : Docs → Docs) → F [] ≡ [] → (xs : Docs) (i : ℕ) → length xs ≤ i → xs ≡ take i xs ++ F (drop i xs)
each_done F none xs i l = sym (ap (λ (t : Docs). t ++ F (drop i xs)) (take_all i xs l) ∙ ap (λ (t : Docs). xs ++ F t) (drop_all i xs l) ∙ ap (λ (t : Docs). xs ++ t) none ∙ append-nil xs)

pub length-configured : (config : Option Config) (grants : List Bool) (ds : Docs) → length (configured config grants ds) ≡ length ds
length-configured config grants [] = refl
length-configured config grants (d ∷ ds) = ap suc (length-configured config (drop 1 grants) ds)

-- ---- at an index
pub with_index : (i : ℕ) (other : DocumentValue → DocumentValue) (ds : Docs) (d0 : DocumentValue) → i < length ds → with_document_at i other ds ≡ set ds i (other (get_or ds i d0))
with_index i other [] d0 l = absurd (omega arith)
with_index zero other (d ∷ ds) d0 l = refl
with_index (suc i) other (d ∷ ds) d0 l = ap (λ (t : Docs). d ∷ t) (with_index i other ds d0 (omega arith))

pub length-at : (i : ℕ) (other : DocumentValue → DocumentValue) (ds : Docs) → length (with_document_at i other ds) ≡ length ds
length-at i other [] = refl
length-at zero other (d ∷ ds) = refl
length-at (suc i) other (d ∷ ds) = ap suc (length-at i other ds)
