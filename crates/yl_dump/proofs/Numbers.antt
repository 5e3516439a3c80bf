-- Numbers in decimal and in hexadecimal digits.
use Rattle.std.proofs.Common.{◌≡◌, ℕ, ◌+◌, ◌/◌, ◌%◌, ◌<◌, ◌≤◌, true, List, [], ◌∷◌, ◌++◌, length, drop, decimal, ap, ◌∙◌, arith}
use Rattle.std.proofs.Math.ListN.{drop_of_length-le}
use Rattle.std.specs.Fmt.{digits, digits_onto}
use Rattle.std.proofs.lemmas.Fmt.{decimal_digit, decimal_step}

-- a number of two digits
pub decimal_two : (n : ℕ) → 10 ≤ n → n < 100 → decimal n ≡ (48 + n / 10) ∷ (48 + n % 10) ∷ []
decimal_two n more two =
    let tens : n / 10 < 10 = omega arith in
    decimal_step n more (omega arith) ∙ ap (λ (ds : List ℕ). ds ++ ((48 + n % 10) ∷ [])) (decimal_digit (n / 10) tens)

-- with all the room before them no digit is written yet
pub hex_start : (n : ℕ) (room : List ℕ) → length room ≡ 64 → digits_onto 64 16 true n (drop 64 room) ≡ digits 16 true n
unfolding digits
hex_start n room e =
    let none : drop 64 room ≡ [] = drop_of_length-le room {i = 64} (omega arith) in
    ap (λ (ds : List ℕ). digits_onto 64 16 true n ds) none
