-- Meaning: which plain scalars are strings: those that the core schema takes as nothing else (YAML
-- 1.2.2, 10.3.2).
use Rattle.std.specs.Prelude.{ℕ, Bool, true, false, not, ◌&&◌, ◌||◌, ◌==◌, if◌then◌else◌, List, [], ◌∷◌, length, drop, slice_index, codes, bytes_eq}
use Rattle.std.specs.List.{prefix_len, list_any, list_all}
use Rattle.std.specs.Char.{is_digit}
use Prim.Native.Char.{code}
use Rattle.yl_text.specs.Character.{starts_by}

abbrev pub is_word_of : List (List ℕ) → List ℕ → Bool
is_word_of words word = list_any (λ w. bytes_eq w word) words

-- one of the words for null, true, false and not-a-number
abbrev pub is_reserved_word : List ℕ → Bool
is_reserved_word =
    is_word_of (codes "~" ∷ codes "null" ∷ codes "Null" ∷ codes "NULL" ∷ codes "true" ∷ codes "True" ∷ codes "TRUE"
    ∷ codes "false" ∷ codes "False" ∷ codes "FALSE" ∷ codes ".nan" ∷ codes ".NaN" ∷ codes ".NAN" ∷ [])

abbrev pub is_decimal : ℕ → Bool
is_decimal c = is_digit c 10

-- one or more characters, all of which pass the test
abbrev pub all_and_some : (ℕ → Bool) → List ℕ → Bool
all_and_some test cs = not (length cs == 0) && list_all test cs

-- the text after its sign, if it has one
abbrev pub unsigned_text : List ℕ → List ℕ
unsigned_text cs = if slice_index cs 0 == code "+" || slice_index cs 0 == code "-" then drop 1 cs else cs

-- the text after the digits at its beginning
abbrev pub past_digits : List ℕ → List ℕ
past_digits cs = drop (prefix_len is_decimal cs) cs

-- the text after a point at its beginning and the digits that follow the point
abbrev pub past_fraction : List ℕ → List ℕ
past_fraction cs = if slice_index cs 0 == code "." then past_digits (drop 1 cs) else cs

-- nothing, or an exponent
abbrev pub is_exponent : List ℕ → Bool
is_exponent [] = true
is_exponent (c ∷ cs) = (c == code "e" || c == code "E") && all_and_some is_decimal (unsigned_text cs)

-- a point and digits, or digits, perhaps with a point and perhaps with more digits after the point;
-- then perhaps an exponent
abbrev pub is_number : List ℕ → Bool
is_number [] = false
is_number (c ∷ cs) =
    if c == code "." then starts_by is_decimal cs && is_exponent (past_digits cs)
    else is_decimal c && is_exponent (past_fraction (past_digits cs))

-- a number in base 8 or 16
abbrev pub is_based : List ℕ → Bool
is_based (c ∷ d ∷ cs) =
    c == code "0"
    && ((d == code "o" && all_and_some (λ c. is_digit c 8) cs) || (d == code "x" && all_and_some (λ c. is_digit c 16) cs))
is_based _ = false

-- a decimal number or an infinity, without its sign
abbrev pub is_signed : List ℕ → Bool
is_signed cs = is_number cs || is_word_of (codes ".inf" ∷ codes ".Inf" ∷ codes ".INF" ∷ []) cs

abbrev pub is_string : List ℕ → Bool
is_string cs = not (is_reserved_word cs || is_based cs || is_signed (unsigned_text cs))
