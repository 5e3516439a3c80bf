-- Laws of white space at a text's end.
use Rattle.std.proofs.Common.{◌≡◌, ℕ, ◌+◌, ◌<◌, ◌≤◌, List, [], ◌∷◌, ◌++◌, Bool, true, false, ◌&&◌, refl, sym, ap, ◌∙◌, take, length, get_or, arith}
use Rattle.std.proofs.lemmas.List.{take_more}
use Rattle.yl_text.specs.Character.{is_white, is_blank, without_end}

and_assoc : (a b c : Bool) → a && (b && c) ≡ a && b && c
and_assoc true b c = refl
and_assoc false b c = refl

and-true : (a : Bool) → a && true ≡ a
and-true true = refl
and-true false = refl

and-false : (a : Bool) → a && false ≡ false
and-false true = refl
and-false false = refl

blank_push : (xs : List ℕ) (c : ℕ) (b : Bool) → is_white c ≡ b → is_blank (xs ++ c ∷ []) ≡ is_blank xs && b
blank_push [] c b e = rw e (and-true b)
blank_push (x ∷ xs) c b e = ap (λ r. is_white x && r) (blank_push xs c b e) ∙ and_assoc (is_white x) (is_blank xs) b

-- white space at the end goes
without_end-push_white : (xs : List ℕ) (c : ℕ) → is_white c ≡ true → without_end (xs ++ c ∷ []) ≡ without_end xs
without_end-push_white [] c e = rw e refl
without_end-push_white (x ∷ xs) c e =
    let blank : is_blank (xs ++ c ∷ []) ≡ is_blank xs = blank_push xs c true e ∙ and-true (is_blank xs) in
    rw (blank, without_end-push_white xs c e) refl

-- another character stays
without_end-push_other : (xs : List ℕ) (c : ℕ) → is_white c ≡ false → without_end (xs ++ c ∷ []) ≡ xs ++ c ∷ []
without_end-push_other [] c e = rw e refl
without_end-push_other (x ∷ xs) c e =
    let blank : is_blank (xs ++ c ∷ []) ≡ false = blank_push xs c false e ∙ and-false (is_blank xs) in
    rw (blank, and-false (is_white x), without_end-push_other xs c e) refl

-- the same, at the front of a text that ends behind its nth character
pub white_goes : (xs : List ℕ) (n m : ℕ) → m ≡ n + 1 → m ≤ length xs → is_white (get_or xs n 0) ≡ true → without_end (take n xs) ≡ without_end (take m xs)
white_goes xs n m k h e =
    let inside : n < length xs = omega arith in
    rw k (sym (ap without_end (take_more xs n 0 inside) ∙ without_end-push_white (take n xs) (get_or xs n 0) e))

pub other_stays : (xs : List ℕ) (n m : ℕ) → m ≡ n + 1 → m ≤ length xs → is_white (get_or xs n 0) ≡ false → without_end (take m xs) ≡ take m xs
other_stays xs n m k h e =
    let inside : n < length xs = omega arith in
    rw (k, take_more xs n 0 inside) (without_end-push_other (take n xs) (get_or xs n 0) e)

pub none_stays : (xs : List ℕ) (m : ℕ) → m ≡ 0 → without_end (take m xs) ≡ take m xs
none_stays xs m k = rw k refl
