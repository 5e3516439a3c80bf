-- Meaning: the words and numbers in the values of a configuration.
use Rattle.std.specs.Prelude.{ℕ, Bool, true, false, not, ◌&&◌, ◌||◌, ◌==◌, nat_le, nat_lt, length, if◌then◌else◌, List, [], ◌∷◌, ◌+◌, ◌-◌, ◌*◌, Option, Some, None, codes, bytes_eq, option_and_then}
use Rattle.std.specs.Char.{is_ascii_digit}
use Rattle.std.specs.List.{list_any, list_all}
use Rattle.yl_lexeme.specs.declared.lexeme.Style.TheVariants.{Plain, Literal, Folded}
use Rattle.yl_events.specs.Event.{EventKindValue, ScalarOf}

-- the text of a plain scalar, and else nothing
abbrev pub plain_word : EventKindValue → List ℕ
plain_word (ScalarOf Plain text) = text
plain_word _ = []

-- the text of a plain or a quoted scalar, and else nothing
abbrev pub word : EventKindValue → List ℕ
word (ScalarOf Literal text) = []
word (ScalarOf Folded text) = []
word (ScalarOf _ text) = text
word _ = []

abbrev pub is_one_of : List (List ℕ) → List ℕ → Bool
is_one_of words w = list_any (bytes_eq w) words

abbrev pub true_words : List (List ℕ)
true_words = codes "true" ∷ codes "True" ∷ codes "TRUE" ∷ codes "yes" ∷ codes "Yes" ∷ codes "YES" ∷ codes "on" ∷ codes "On" ∷ codes "ON" ∷ []

abbrev pub false_words : List (List ℕ)
false_words = codes "false" ∷ codes "False" ∷ codes "FALSE" ∷ codes "no" ∷ codes "No" ∷ codes "NO" ∷ codes "off" ∷ codes "Off" ∷ codes "OFF" ∷ []

-- ---- numbers: digits, perhaps with a sign before them; at most a million

abbrev pub largest : ℕ
largest = 1000000

-- 43 is `+`, 45 is `-`
abbrev pub unsigned : List ℕ → List ℕ
unsigned [] = []
unsigned (c ∷ cs) = if (c == 43) || (c == 45) then cs else c ∷ cs

abbrev pub is_minus : List ℕ → Bool
is_minus [] = false
is_minus (c ∷ cs) = c == 45

-- the number whose digits are those of `n` and then these. 48 is the digit 0
unfoldable pub digits_behind : ℕ → List ℕ → ℕ
digits_behind n [] = n
digits_behind n (d ∷ ds) = digits_behind (10 * n + (d - 48)) ds

abbrev pub are_digits : List ℕ → Bool
are_digits ds = nat_lt 0 (length ds) && list_all is_ascii_digit ds

-- the number that these digits denote, unless it is greater than `largest`
abbrev pub small_number : List ℕ → Option ℕ
small_number ds = if are_digits ds && nat_le (digits_behind 0 ds) largest then Some (digits_behind 0 ds) else None

-- a number of at least `least`. Minus zero is zero
abbrev pub from_least : Bool → ℕ → ℕ → Option ℕ
from_least minus least n = if nat_le least n && (not minus || n == 0) then Some n else None

abbrev pub number : ℕ → List ℕ → Option ℕ
number least w = option_and_then (from_least (is_minus w) least) (small_number (unsigned w))

-- a number, or -1, which is no bound
abbrev pub limit_by : Bool → ℕ → Option (Option ℕ)
limit_by minus n = if not minus || n == 0 then Some (Some n) else if n == 1 then Some None else None

abbrev pub limit : List ℕ → Option (Option ℕ)
limit w = option_and_then (limit_by (is_minus w)) (small_number (unsigned w))

-- true for a true word, and false for a false word
abbrev pub flag : List ℕ → Option Bool
flag w = if is_one_of true_words w then Some true else if is_one_of false_words w then Some false else None
