-- Laws of a body that is mended in place.
use Rattle.std.proofs.Common.{◌≡◌, ℕ, suc, ◌+◌, ◌-◌, ◌<◌, ◌≤◌, true, false, List, [], ◌∷◌, ◌++◌, length, take, drop, get_or, cond, refl, sym, ap, ◌∙◌, arith, append-nil, append_assoc, take-append-drop, length-append, length-take, length-drop}
use Rattle.std.specs.Prelude.{Bool, ◌&&◌, codes}
use Rattle.std.proofs.Math.Seq.{drop-cons, take-append_seam, drop-append_seam}
use Rattle.std.proofs.lemmas.List.{at_drop_all, drop-drop, take_all, take_more}
use Rattle.yl_rpc.specs.declared.surrogates.Within.{Within}
use Rattle.yl_rpc.specs.declared.surrogates.Within.TheVariants.{Plain, AfterBackslash, AfterU}
use Rattle.yl_rpc.specs.Surrogates.{begins_high, digits_read, has_partner, is_lone, mended_from, next_within}

-- the state in which a byte is looked at by itself
abbrev pub IsSingle : Within → Type 0
IsSingle (Plain p) = Unit {0}
IsSingle (AfterBackslash p) = Unit {0}
IsSingle (AfterU p) = ⊥

single : (w : Within) (x : ℕ) (rest : List ℕ) → IsSingle w → mended_from w (x ∷ rest) ≡ x ∷ mended_from (next_within w x) rest
unfolding mended_from
single (Plain p) x rest h = refl
single (AfterBackslash p) x rest h = refl
single (AfterU p) x rest h = absurd h

pub byte_mended : (body : List ℕ) (i d : ℕ) (w : Within) → i < length body → IsSingle w
    → take (i + 1) body ++ mended_from (next_within w (get_or body i d)) (drop (i + 1) body) ≡ take i body ++ mended_from w (drop i body)
byte_mended body i d w inside h =
    let x = get_or body i d in
    let next : i + 1 ≡ suc i = omega arith in
    ap (λ l. l ++ mended_from (next_within w x) (drop (i + 1) body)) (take_more body i d inside)
    ∙ append_assoc (take i body) (x ∷ []) (mended_from (next_within w x) (drop (i + 1) body))
    ∙ ap (λ n. take i body ++ (x ∷ mended_from (next_within w x) (drop n body))) next
    ∙ ap (λ l. take i body ++ l) (sym (single w x (drop (suc i) body) h) ∙ ap (mended_from w) (sym (drop-cons body i d inside)))

few : (p : Bool) (rest : List ℕ) → length rest < 4 → mended_from (AfterU p) rest ≡ rest
unfolding mended_from
few p [] h = refl
few p (a ∷ []) h = refl
few p (a ∷ b ∷ []) h = refl
few p (a ∷ b ∷ c ∷ []) h = refl
few p (a ∷ b ∷ c ∷ d ∷ rest) h = absurd (omega (arith, h))

pub end_mended : (body : List ℕ) (i : ℕ) (p : Bool) → length (drop i body) < 4 → take i body ++ mended_from (AfterU p) (drop i body) ≡ body
end_mended body i p h = ap (λ l. take i body ++ l) (few p (drop i body) h) ∙ take-append-drop i body

four : (p : Bool) (bytes : List ℕ) → 4 ≤ length bytes → mended_from (AfterU p) bytes ≡ digits_read p bytes ++ mended_from (Plain (begins_high bytes && has_partner bytes)) (drop 4 bytes)
unfolding mended_from
four p [] h = absurd (omega (arith, h))
four p (a ∷ []) h = absurd (omega (arith, h))
four p (a ∷ b ∷ []) h = absurd (omega (arith, h))
four p (a ∷ b ∷ c ∷ []) h = absurd (omega (arith, h))
four p (a ∷ b ∷ c ∷ d ∷ rest) h = refl

length_digits : (lone : Bool) (bytes : List ℕ) → 4 ≤ length bytes → length (cond lone (codes "FFFD") (take 4 bytes)) ≡ 4
length_digits true bytes h = refl
length_digits false bytes h = omega (arith, length-take 4 bytes, h)

pub digits_mended : (body new : List ℕ) (i : ℕ) (p q : Bool) → i + 4 ≤ length body → new ≡ take i body ++ (digits_read p (drop i body) ++ drop (i + 4) body) → q ≡ (begins_high (drop i body) && has_partner (drop i body))
    → take (i + 4) new ++ mended_from (Plain q) (drop (i + 4) new) ≡ take i body ++ mended_from (AfterU p) (drop i body)
digits_mended body new i p q inside e pair =
    let bytes = drop i body in
    let digits = digits_read p bytes in
    let left : 4 ≤ length bytes = omega (arith, length-drop i body, inside) in
    let front = take i body ++ digits in
    let whole : new ≡ front ++ drop (i + 4) body = e ∙ sym (append_assoc (take i body) digits (drop (i + 4) body)) in
    let size : length front ≡ i + 4 = omega (arith, length-append (take i body) digits, length_digits (is_lone p bytes) bytes left, length-take i body, inside) in
    let first : take (i + 4) new ≡ front = ap (take (i + 4)) whole ∙ ap (λ n. take n (front ++ drop (i + 4) body)) (sym size) ∙ take-append_seam front (drop (i + 4) body) in
    let rest : drop (i + 4) new ≡ drop (i + 4) body = ap (drop (i + 4)) whole ∙ ap (λ n. drop n (front ++ drop (i + 4) body)) (sym size) ∙ drop-append_seam front (drop (i + 4) body) in
    let after : drop (i + 4) body ≡ drop 4 bytes = sym (drop-drop 4 i body) in
    ap (λ l. l ++ mended_from (Plain q) (drop (i + 4) new)) first
    ∙ ap (λ l. front ++ mended_from (Plain q) l) (rest ∙ after)
    ∙ ap (λ b. front ++ mended_from (Plain b) (drop 4 bytes)) pair
    ∙ append_assoc (take i body) digits (mended_from (Plain (begins_high bytes && has_partner bytes)) (drop 4 bytes))
    ∙ ap (λ l. take i body ++ l) (sym (four p bytes left))

-- digits that stay
pub digits_kept : (body : List ℕ) (i : ℕ) (p : Bool) → is_lone p (drop i body) ≡ false → body ≡ take i body ++ (digits_read p (drop i body) ++ drop (i + 4) body)
digits_kept body i p e =
    let bytes = drop i body in
    sym (
    ap (λ b. take i body ++ (cond b (codes "FFFD") (take 4 bytes) ++ drop (i + 4) body)) e ∙ ap (λ l. take i body ++ (take 4 bytes ++ l)) (sym (drop-drop 4 i body))
    ∙ ap (λ l. take i body ++ l) (take-append-drop 4 bytes) ∙ take-append-drop i body)

-- what is seen of the bytes from a place on
pub all_from : (body : List ℕ) (i : ℕ) → take (length body - i) (drop i body) ≡ drop i body
all_from body i = take_all (length body - i) (drop i body) (omega (arith, length-drop i body))

pub single_of : (w : Within) → ((p : Bool) → w ≡ AfterU p → ⊥) → IsSingle w
single_of (Plain p) h = tt
single_of (AfterBackslash p) h = tt
single_of (AfterU p) h = h p refl

none_left : (w : Within) → mended_from w [] ≡ []
unfolding mended_from
none_left (Plain p) = refl
none_left (AfterBackslash p) = refl
none_left (AfterU p) = refl

pub all_mended : (body : List ℕ) (i : ℕ) (w : Within) → length body ≤ i → take i body ++ mended_from w (drop i body) ≡ body
all_mended body i w h = ap (λ l. take i body ++ l) (at_drop_all (mended_from w) body i h ∙ none_left w) ∙ append-nil (take i body) ∙ take_all i body h
