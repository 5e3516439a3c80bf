-- Laws of writing a text piece by piece, through what waits.
use Rattle.std.proofs.Common.{◌≡◌, ℕ, ◌+◌, ◌<◌, List, [], ◌∷◌, ◌++◌, Option, Result, Ok, Err, OnErr, sym, ap, ◌∙◌, subst, append_assoc, append-nil, take, drop, length, get_or, take-append-drop}
use Rattle.std.specs.List.{flat_map}
use Rattle.std.proofs.Math.Seq.{take-add}
use Rattle.std.proofs.lemmas.List.{take_more}
use Rattle.std.proofs.lemmas.List.Concat.{flat_map-append}
use Rattle.std.proofs.KnownBytes.{Appends-nil, Appends-trans, Appends-kept}
use Rattle.std.specs.Io.KnownBytes.{Appends, Keeps}
use Rattle.yl_devices.specs.Written.{AppendsFront, Passes}

-- after a front of the text a beginning of the rest came
pub front_after : (a b c : Option (List ℕ)) (xs ys all : List ℕ) → all ≡ xs ++ ys → Appends a b xs → AppendsFront b c ys → AppendsFront a c all
front_after a b c xs ys all e p q =
    record {
      front = xs ++ q.front;
      rest = q.rest;
      whole = e ∙ ap (λ l. xs ++ l) q.whole ∙ sym (append_assoc xs q.front q.rest);
      appends = Appends-trans a b c xs q.front p q.appends;
    }

-- a beginning of the front of a text is one of the text
pub front_more : (a c : Option (List ℕ)) (xs ys : List ℕ) → AppendsFront a c xs → AppendsFront a c (xs ++ ys)
front_more a c xs ys q = record { front = q.front; rest = q.rest ++ ys; whole = ap (λ l. l ++ ys) q.whole ∙ append_assoc q.front q.rest ys; appends = q.appends }

-- nothing came after the first n bytes
pub front_at : (a b c : Option (List ℕ)) (text : List ℕ) (n : ℕ) → Appends a b (take n text) → Keeps b c → AppendsFront a c text
front_at a b c text n p k = record { front = take n text; rest = drop n text; whole = sym (take-append-drop n text); appends = Appends-kept a b c (take n text) p k }

-- a write that took nothing
pub front_after_none : (a b c : Option (List ℕ)) (text more : List ℕ) (n m : ℕ) → Appends a b (take n text) → m ≡ 0 → Appends b c (take m more) → AppendsFront a c text
front_after_none a b c text more n m p e q =
    let none : Appends b c [] = subst (λ k. Appends b c (take k more)) e q in
    record {
      front = take n text;
      rest = drop n text;
      whole = sym (take-append-drop n text);
      appends = subst (Appends a c) (append-nil (take n text)) (Appends-trans a b c (take n text) [] p none);
    }

-- the first n bytes, and then m more
pub take_go_on : (a b c : Option (List ℕ)) (text : List ℕ) (n m : ℕ) → Appends a b (take n text) → Appends b c (take m (drop n text)) → Appends a c (take (n + m) text)
take_go_on a b c text n m p q = subst (Appends a c) (sym (take-add n m text)) (Appends-trans a b c (take n text) (take m (drop n text)) p q)

-- what holds at any result
pub on_err : {T E P : Type 0} (r : Result T E) → P → OnErr r P
on_err (Ok x) p = tt
on_err (Err e) p = p

-- from one fact on an error to another
pub err_then : {T E P Q : Type 0} (r : Result T E) → (P → Q) → OnErr r P → OnErr r Q
err_then (Ok x) f p = tt
err_then (Err e) f p = f p

-- ---- through what waits

-- no write: all waits
pub passes_none : (a : Option (List ℕ)) (p x q : List ℕ) → q ≡ p ++ x → Passes a a p x q
passes_none a p x q e = record { out = []; whole = sym e; appends = Appends-nil a }

-- what waited went out, and the text waits
pub passes_flushed : (a b : Option (List ℕ)) (p x none q : List ℕ) → Appends a b p → none ≡ [] → q ≡ none ++ x → Passes a b p x q
passes_flushed a b p x none q h n e = record { out = p; whole = ap (λ l. p ++ l) (sym (e ∙ ap (λ l. l ++ x) n)); appends = h }

-- all went out
pub passes_all : (a b c : Option (List ℕ)) (p x q : List ℕ) → Appends a b p → q ≡ [] → Appends b c x → Passes a c p x q
passes_all a b c p x q h n g =
    record { out = p ++ x; whole = sym (append-nil (p ++ x)) ∙ ap (λ l. (p ++ x) ++ l) (sym n); appends = Appends-trans a b c p x h g }

regroup : (p x q y o : List ℕ) → p ++ x ≡ o ++ q → p ++ (x ++ y) ≡ o ++ (q ++ y)
regroup p x q y o e = sym (append_assoc p x y) ∙ ap (λ l. l ++ y) e ∙ append_assoc o q y

pub passes_go_on : (a b c : Option (List ℕ)) (p x q y r all : List ℕ) → all ≡ x ++ y → Passes a b p x q → Passes b c q y r → Passes a c p all r
passes_go_on a b c p x q y r all e h g =
    record {
      out = h.out ++ g.out;
      whole = ap (λ l. p ++ l) e ∙ regroup p x q y h.out h.whole ∙ ap (λ l. h.out ++ l) g.whole ∙ sym (append_assoc h.out g.out r);
      appends = Appends-trans a b c h.out g.out h.appends g.appends;
    }

pub passes_break : (a b c : Option (List ℕ)) (p x q y all : List ℕ) → all ≡ x ++ y → Passes a b p x q → AppendsFront b c (q ++ y) → AppendsFront a c (p ++ all)
passes_break a b c p x q y all e h g = front_after a b c h.out (q ++ y) (p ++ all) (ap (λ l. p ++ l) e ∙ regroup p x q y h.out h.whole) h.appends g

-- at the end what waits goes out
pub passes_end : (a b c : Option (List ℕ)) (p x q : List ℕ) → p ≡ [] → Passes a b p x q → Appends b c q → Appends a c x
passes_end a b c p x q n h g = subst (Appends a c) (sym h.whole ∙ ap (λ l. l ++ x) n) (Appends-trans a b c h.out q h.appends g)

pub passes_break_end : (a b c : Option (List ℕ)) (p x q : List ℕ) → p ≡ [] → Passes a b p x q → AppendsFront b c q → AppendsFront a c x
passes_break_end a b c p x q n h g = front_after a b c h.out q x (ap (λ l. l ++ x) (sym n) ∙ h.whole) h.appends g

-- a beginning of what waited, where nothing did, is one of the text
pub front_of_all : (a c : Option (List ℕ)) (p x : List ℕ) → p ≡ [] → AppendsFront a c (p ++ x) → AppendsFront a c x
front_of_all a c p x n h = subst (λ l. AppendsFront a c (l ++ x)) n h

-- ---- pieces that a list makes
module _ {X : Type 0} (f : X → List ℕ) (xs : List X) (i : ℕ) (d : X) (inside : i < length xs) where
  -- one more piece
  flat_map-take_more : flat_map f (take (i + 1) xs) ≡ flat_map f (take i xs) ++ f (get_or xs i d)
  flat_map-take_more = rw (take_more xs i d inside) (flat_map-append f (take i xs) (get_or xs i d ∷ []) ∙ ap (λ l. flat_map f (take i xs) ++ l) (append-nil (f (get_or xs i d))))

  -- the pieces before one, that one, and those after it
  flat_map-at : flat_map f xs ≡ flat_map f (take i xs) ++ (f (get_or xs i d) ++ flat_map f (drop (i + 1) xs))
  flat_map-at =
      ap (flat_map f) (sym (take-append-drop (i + 1) xs)) ∙ flat_map-append f (take (i + 1) xs) (drop (i + 1) xs)
      ∙ ap (λ l. l ++ flat_map f (drop (i + 1) xs)) flat_map-take_more ∙ append_assoc (flat_map f (take i xs)) (f (get_or xs i d)) (flat_map f (drop (i + 1) xs))

  pub parts_go_on : (a b c : Option (List ℕ)) (p q r : List ℕ) → Passes a b p (flat_map f (take i xs)) q → Passes b c q (f (get_or xs i d)) r → Passes a c p (flat_map f (take (i + 1) xs)) r
  parts_go_on a b c p q r h g = passes_go_on a b c p (flat_map f (take i xs)) q (f (get_or xs i d)) r (flat_map f (take (i + 1) xs)) flat_map-take_more h g

  pub parts_break : (a b c : Option (List ℕ)) (p q : List ℕ) → Passes a b p (flat_map f (take i xs)) q → AppendsFront b c (q ++ f (get_or xs i d)) → AppendsFront a c (p ++ flat_map f xs)
  parts_break a b c p q h g =
      let rest = flat_map f (drop (i + 1) xs) in
      let x = get_or xs i d in
      passes_break a b c p (flat_map f (take i xs)) q (f x ++ rest) (flat_map f xs) flat_map-at h (subst (AppendsFront b c) (append_assoc q (f x) rest) (front_more b c (q ++ f x) rest g))

-- the same, where the piece is made from the item x
module _ {X : Type 0} (f : X → List ℕ) (xs : List X) (i : ℕ) (x : X) (is : x ≡ get_or xs i x) (inside : i < length xs) where
  pub items_go_on : (a b c : Option (List ℕ)) (p q r : List ℕ) → Passes a b p (flat_map f (take i xs)) q → Passes b c q (f x) r → Passes a c p (flat_map f (take (i + 1) xs)) r
  items_go_on a b c p q r h g = parts_go_on f xs i x inside a b c p q r h (subst (λ y. Passes b c q (f y) r) is g)

  pub items_break : (a b c : Option (List ℕ)) (p q : List ℕ) → Passes a b p (flat_map f (take i xs)) q → AppendsFront b c (q ++ f x) → AppendsFront a c (p ++ flat_map f xs)
  items_break a b c p q h g = parts_break f xs i x inside a b c p q h (subst (λ y. AppendsFront b c (q ++ f y)) is g)
