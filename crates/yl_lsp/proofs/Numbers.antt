-- Numbers that digits write.
use Rattle.std.proofs.Common.{◌≡◌, ℕ, ◌<◌, ◌≤◌, ◌^◌, inl, inr, ◌&&◌, not, Bool, true, false, cond, eqb, ltb, leb, List, [], ◌∷◌, length, drop, refl, sym, ◌∙◌, ap, subst, arith, Option, Some, None}
use Rattle.std.proofs.lemmas.Bool.{and_parts, cases_lt}
use Rattle.std.proofs.lemmas.Bool.Decides.{nat_tests}
use Rattle.std.proofs.lemmas.List.{nil_from_length}
use Rattle.std.proofs.lemmas.Str.Parse.{tells_digits}
use Rattle.std.specs.Char.{is_ascii_digit}
use Rattle.std.specs.List.{list_all}
use Rattle.std.specs.Str.Parse.{AllDigits, IsNumeral, digits_value, without_leading_plus}
use Rattle.yl_lsp.specs.Params.{whole_number}

-- digits of a number that fits 64 bits
abbrev pub Reads : List ℕ → Type 0
Reads ds = IsNumeral 10 ds × (digits_value 10 ds < 2 ^ 64)

first_digit : (c : ℕ) → is_ascii_digit c ≡ true → (48 ≤ c) × (c ≤ 57)
first_digit c h =
    let parts = and_parts (leb 48 c) (leb c 57) h in
    let low : 48 ≤ c = let e = parts.0 in grind (arith, nat_tests) in
    let high : c ≤ 57 = let e = parts.1 in grind (arith, nat_tests) in
    (low, high)

all_digits : (ds : List ℕ) → list_all is_ascii_digit ds ≡ true → AllDigits 10 ds
all_digits [] h = tells_digits.empty
all_digits (c ∷ cs) h =
    let parts = and_parts (is_ascii_digit c) (list_all is_ascii_digit cs) h in
    tells_digits.more c cs (first_digit c parts.0) (all_digits cs parts.1)

-- no plus stands before digits
no_plus : (ds : List ℕ) → list_all is_ascii_digit ds ≡ true → without_leading_plus ds ≡ ds
no_plus [] h = refl
no_plus (c ∷ cs) h =
    let low = (first_digit c (and_parts (is_ascii_digit c) (list_all is_ascii_digit cs) h).0).0 in
    let other : eqb c 43 ≡ false = grind (arith, nat_tests) in
    ap (λ b. drop (cond b 1 0) (c ∷ cs)) other

when_digits : (a b c : Bool) (v : ℕ) → a ≡ true → b ≡ false → cond (a && not b && c) (Some v) None ≡ cond c (Some v) None
when_digits a b c v p q = ap (λ x. cond (x && not b && c) (Some v) None) p ∙ ap (λ x. cond (true && not x && c) (Some v) None) q

number_is : (ds : List ℕ) → list_all is_ascii_digit ds ≡ true → 0 < length ds → whole_number ds ≡ cond (ltb (digits_value 10 ds) (2 ^ 64)) (Some (digits_value 10 ds)) None
number_is ds h some =
    let other : eqb (length ds) 0 ≡ false = grind (arith, nat_tests) in
    when_digits (list_all is_ascii_digit ds) (eqb (length ds) 0) (ltb (digits_value 10 ds) (2 ^ 64)) (digits_value 10 ds) h other

pub read_number : (ds : List ℕ) (n : ℕ) → list_all is_ascii_digit ds ≡ true → Reads (without_leading_plus ds) × (n ≡ digits_value 10 (without_leading_plus ds)) → Some n ≡ whole_number ds
read_number ds n h read =
    let same = no_plus ds h in
    let some : 0 < length ds = subst (λ (l : List ℕ). 0 < length l) same read.0.0.0 in
    let fits : digits_value 10 ds < 2 ^ 64 = subst (λ (l : List ℕ). digits_value 10 l < 2 ^ 64) same read.0.1 in
    let test : ltb (digits_value 10 ds) (2 ^ 64) ≡ true = grind (arith, nat_tests) in
    ap (λ (k : ℕ). Some k) (read.1 ∙ ap (λ (l : List ℕ). digits_value 10 l) same) ∙ sym (number_is ds h some ∙ ap (λ b. cond b (Some (digits_value 10 ds)) None) test)

pub no_number : (ds : List ℕ) → list_all is_ascii_digit ds ≡ true → ¬ (Reads (without_leading_plus ds)) → ◌≡◌ {A = Option ℕ} None (whole_number ds)
no_number ds h fault =
    let same = no_plus ds h in
    elim (cases_lt 0 (length ds)) [
      | inl some ↦
          elim (cases_lt (digits_value 10 ds) (2 ^ 64)) [
            | inl fits ↦ absurd (fault (subst (λ (l : List ℕ). IsNumeral 10 l) (sym same) (some, all_digits ds h), subst (λ (l : List ℕ). digits_value 10 l < 2 ^ 64) (sym same) fits))
            | inr large ↦
                let test : ltb (digits_value 10 ds) (2 ^ 64) ≡ false = grind (arith, nat_tests) in
                sym (number_is ds h some ∙ ap (λ b. cond b (Some (digits_value 10 ds)) None) test)
          ]
      | inr none ↦ sym (ap (λ l. whole_number l) (nil_from_length ds (omega arith)))
    ]

pub none_but_digits : (ds : List ℕ) → list_all is_ascii_digit ds ≡ false → ◌≡◌ {A = Option ℕ} None (whole_number ds)
none_but_digits ds h = sym (ap (λ b. cond (b && not (eqb (length ds) 0) && ltb (digits_value 10 ds) (2 ^ 64)) (Some (digits_value 10 ds)) None) h)
