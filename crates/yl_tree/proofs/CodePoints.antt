-- The order of texts by bytes is that by code points.
use Rattle.std.proofs.Common.{◌≡◌, ◌<◌, ◌≤◌, ℕ, ◌+◌, ◌/◌, List, [], ◌∷◌, ◌++◌, refl, sym, ◌∙◌, ap, arith, ⊎_elim}
use Rattle.std.specs.Ordering.{nat_cmp, ordering_then, ordering_reverse}
use Rattle.std.specs.declared.cmp.Ordering.TheVariants.{Less, Equal, Greater}
use Rattle.std.specs.Cmp.Lexicographic.{slice_cmp, nat_list_cmp_total}
use Rattle.std.specs.Str.{chars, IsUtf8}
use Rattle.std.proofs.lemmas.Bool.{cases_lt, le-ltb, lt-ltb}
use Rattle.std.proofs.lemmas.Bool.Decides.{nat_tests}
use Rattle.std.proofs.lemmas.Str.{encode_ascii, encodes-chars}
use lib.Utf8.{encodes, encode, next}

below : (x y : ℕ) → x < y → nat_cmp x y ≡ Less
below x y h = grind (arith, nat_tests)

itself : (x : ℕ) → nat_cmp x x ≡ Equal
itself x = grind (arith, nat_tests)

at_head : (x y : ℕ) (xs ys : List ℕ) → x < y → slice_cmp nat_cmp (x ∷ xs) (y ∷ ys) ≡ Less
at_head x y xs ys h = rw (below x y h) refl

behind : (x y : ℕ) (xs ys : List ℕ) → x ≡ y → slice_cmp nat_cmp xs ys ≡ Less → slice_cmp nat_cmp (x ∷ xs) (y ∷ ys) ≡ Less
behind x y xs ys e h = rw (e, itself y) h

-- ---- the bytes of a character, by how many they are

two_bytes : (c : ℕ) → 128 ≤ c → c < 2048 → encode c ≡ (192 + c / 64) ∷ next c ∷ []
unfolding encode
two_bytes c l h = rw (le-ltb c 128 l, lt-ltb c 2048 h) refl

three_bytes : (c : ℕ) → 2048 ≤ c → c < 65536 → encode c ≡ (224 + c / 4096) ∷ next (c / 64) ∷ next c ∷ []
unfolding encode
three_bytes c l h =
    let a : 128 ≤ c = omega arith in
    rw (le-ltb c 128 a, le-ltb c 2048 l, lt-ltb c 65536 h) refl

four_bytes : (c : ℕ) → 65536 ≤ c → encode c ≡ (240 + c / 262144) ∷ next (c / 4096) ∷ next (c / 64) ∷ next c ∷ []
unfolding encode
four_bytes c l =
    let a : 128 ≤ c = omega arith in
    let b : 2048 ≤ c = omega arith in
    rw (le-ltb c 128 a, le-ltb c 2048 b, le-ltb c 65536 l) refl

-- the first byte is at least k
pub record Leads (k : ℕ) (bs : List ℕ) : Type 0 where
  pub first : ℕ
  pub rest : List ℕ
  pub least : k ≤ first
  pub is : bs ≡ first ∷ rest

leads_four : (c : ℕ) → 65536 ≤ c → Leads 240 (encode c)
leads_four c l = record { first = 240 + c / 262144; rest = next (c / 4096) ∷ next (c / 64) ∷ next c ∷ []; least = omega arith; is = four_bytes c l }

leads_three : (c : ℕ) → 2048 ≤ c → Leads 224 (encode c)
leads_three c l =
    ⊎_elim
    (λ (h : c < 65536). record { first = 224 + c / 4096; rest = next (c / 64) ∷ next c ∷ []; least = omega arith; is = three_bytes c l h })
    (λ (h : 65536 ≤ c). let m = leads_four c h in record { first = m.first; rest = m.rest; least = omega (arith, m.least); is = m.is })
    (cases_lt c 65536)

leads_two : (c : ℕ) → 128 ≤ c → Leads 192 (encode c)
leads_two c l =
    ⊎_elim
    (λ (h : c < 2048). record { first = 192 + c / 64; rest = next c ∷ []; least = omega arith; is = two_bytes c l h })
    (λ (h : 2048 ≤ c). let m = leads_three c h in record { first = m.first; rest = m.rest; least = omega (arith, m.least); is = m.is })
    (cases_lt c 2048)

-- a character of fewer bytes
shorter : (k x : ℕ) (xs bs ys : List ℕ) → x < k → Leads k bs → slice_cmp nat_cmp (x ∷ xs) (bs ++ ys) ≡ Less
shorter k x xs bs ys h m = rw m.is (at_head x m.first xs (m.rest ++ ys) (omega (arith, m.least)))

-- ---- characters of as many bytes: the bytes behind equal first ones

last_byte : (c d : ℕ) (xs ys : List ℕ) → c < d → c / 64 ≡ d / 64 → slice_cmp nat_cmp (next c ∷ xs) (next d ∷ ys) ≡ Less
last_byte c d xs ys h e = at_head (next c) (next d) xs ys (omega arith)

last_two : (c d : ℕ) (xs ys : List ℕ) → c < d → c / 4096 ≡ d / 4096 → slice_cmp nat_cmp (next (c / 64) ∷ next c ∷ xs) (next (d / 64) ∷ next d ∷ ys) ≡ Less
last_two c d xs ys h e =
    ⊎_elim
    (λ (l : c / 64 < d / 64). at_head (next (c / 64)) (next (d / 64)) (next c ∷ xs) (next d ∷ ys) (omega arith))
    (λ (l : d / 64 ≤ c / 64).
    let same : c / 64 ≡ d / 64 = omega arith in
    behind (next (c / 64)) (next (d / 64)) (next c ∷ xs) (next d ∷ ys) (ap next same) (last_byte c d xs ys h same))
    (cases_lt (c / 64) (d / 64))

last_three : (c d : ℕ) (xs ys : List ℕ) → c < d → c / 262144 ≡ d / 262144
    → slice_cmp nat_cmp (next (c / 4096) ∷ next (c / 64) ∷ next c ∷ xs) (next (d / 4096) ∷ next (d / 64) ∷ next d ∷ ys) ≡ Less
last_three c d xs ys h e =
    ⊎_elim
    (λ (l : c / 4096 < d / 4096). at_head (next (c / 4096)) (next (d / 4096)) (next (c / 64) ∷ next c ∷ xs) (next (d / 64) ∷ next d ∷ ys) (omega arith))
    (λ (l : d / 4096 ≤ c / 4096).
    let same : c / 4096 ≡ d / 4096 = omega arith in
    behind (next (c / 4096)) (next (d / 4096)) (next (c / 64) ∷ next c ∷ xs) (next (d / 64) ∷ next d ∷ ys) (ap next same) (last_two c d xs ys h same))
    (cases_lt (c / 4096) (d / 4096))

of_two : (c d : ℕ) (xs ys : List ℕ) → c < d → slice_cmp nat_cmp ((192 + c / 64) ∷ next c ∷ xs) ((192 + d / 64) ∷ next d ∷ ys) ≡ Less
of_two c d xs ys h =
    ⊎_elim
    (λ (l : c / 64 < d / 64). at_head (192 + c / 64) (192 + d / 64) (next c ∷ xs) (next d ∷ ys) (omega arith))
    (λ (l : d / 64 ≤ c / 64).
    let same : c / 64 ≡ d / 64 = omega arith in
    behind (192 + c / 64) (192 + d / 64) (next c ∷ xs) (next d ∷ ys) (ap (λ (n : ℕ). 192 + n) same) (last_byte c d xs ys h same))
    (cases_lt (c / 64) (d / 64))

of_three : (c d : ℕ) (xs ys : List ℕ) → c < d
    → slice_cmp nat_cmp ((224 + c / 4096) ∷ next (c / 64) ∷ next c ∷ xs) ((224 + d / 4096) ∷ next (d / 64) ∷ next d ∷ ys) ≡ Less
of_three c d xs ys h =
    ⊎_elim
    (λ (l : c / 4096 < d / 4096). at_head (224 + c / 4096) (224 + d / 4096) (next (c / 64) ∷ next c ∷ xs) (next (d / 64) ∷ next d ∷ ys) (omega arith))
    (λ (l : d / 4096 ≤ c / 4096).
    let same : c / 4096 ≡ d / 4096 = omega arith in
    behind (224 + c / 4096) (224 + d / 4096) (next (c / 64) ∷ next c ∷ xs) (next (d / 64) ∷ next d ∷ ys) (ap (λ (n : ℕ). 224 + n) same) (last_two c d xs ys h same))
    (cases_lt (c / 4096) (d / 4096))

of_four : (c d : ℕ) (xs ys : List ℕ) → c < d
    → slice_cmp nat_cmp ((240 + c / 262144) ∷ next (c / 4096) ∷ next (c / 64) ∷ next c ∷ xs) ((240 + d / 262144) ∷ next (d / 4096) ∷ next (d / 64) ∷ next d ∷ ys) ≡ Less
of_four c d xs ys h =
    ⊎_elim
    (λ (l : c / 262144 < d / 262144). at_head (240 + c / 262144) (240 + d / 262144) (next (c / 4096) ∷ next (c / 64) ∷ next c ∷ xs) (next (d / 4096) ∷ next (d / 64) ∷ next d ∷ ys) (omega arith))
    (λ (l : d / 262144 ≤ c / 262144).
    let same : c / 262144 ≡ d / 262144 = omega arith in
    behind (240 + c / 262144) (240 + d / 262144) (next (c / 4096) ∷ next (c / 64) ∷ next c ∷ xs) (next (d / 4096) ∷ next (d / 64) ∷ next d ∷ ys) (ap (λ (n : ℕ). 240 + n) same) (last_three c d xs ys h same))
    (cases_lt (c / 262144) (d / 262144))

-- ---- one character

from_one : (c d : ℕ) (xs ys : List ℕ) → c < d → c < 128 → slice_cmp nat_cmp (encode c ++ xs) (encode d ++ ys) ≡ Less
from_one c d xs ys h one =
    rw (encode_ascii c one)
    (⊎_elim
    (λ (l : d < 128). rw (encode_ascii d l) (at_head c d xs ys h))
    (λ (l : 128 ≤ d). shorter 192 c xs (encode d) ys (omega arith) (leads_two d l))
    (cases_lt d 128))

from_two : (c d : ℕ) (xs ys : List ℕ) → c < d → 128 ≤ c → c < 2048 → slice_cmp nat_cmp (encode c ++ xs) (encode d ++ ys) ≡ Less
from_two c d xs ys h l two =
    rw (two_bytes c l two)
    (⊎_elim
    (λ (m : d < 2048). rw (two_bytes d (omega arith) m) (of_two c d xs ys h))
    (λ (m : 2048 ≤ d). shorter 224 (192 + c / 64) (next c ∷ xs) (encode d) ys (omega arith) (leads_three d m))
    (cases_lt d 2048))

from_three : (c d : ℕ) (xs ys : List ℕ) → c < d → 2048 ≤ c → c < 65536 → slice_cmp nat_cmp (encode c ++ xs) (encode d ++ ys) ≡ Less
from_three c d xs ys h l three =
    rw (three_bytes c l three)
    (⊎_elim
    (λ (m : d < 65536). rw (three_bytes d (omega arith) m) (of_three c d xs ys h))
    (λ (m : 65536 ≤ d). shorter 240 (224 + c / 4096) (next (c / 64) ∷ next c ∷ xs) (encode d) ys (omega arith) (leads_four d m))
    (cases_lt d 65536))

from_four : (c d : ℕ) (xs ys : List ℕ) → c < d → 65536 ≤ c → slice_cmp nat_cmp (encode c ++ xs) (encode d ++ ys) ≡ Less
from_four c d xs ys h l = rw (four_bytes c l, four_bytes d (omega arith)) (of_four c d xs ys h)

lower : (c d : ℕ) (xs ys : List ℕ) → c < d → slice_cmp nat_cmp (encode c ++ xs) (encode d ++ ys) ≡ Less
lower c d xs ys h =
    ⊎_elim
    (λ (a : c < 128). from_one c d xs ys h a)
    (λ (a : 128 ≤ c). ⊎_elim
    (λ (b : c < 2048). from_two c d xs ys h a b)
    (λ (b : 2048 ≤ c). ⊎_elim
    (λ (e : c < 65536). from_three c d xs ys h b e)
    (λ (e : 65536 ≤ c). from_four c d xs ys h e)
    (cases_lt c 65536))
    (cases_lt c 2048))
    (cases_lt c 128)

-- equal bytes in front
same_front : (bs xs ys : List ℕ) → slice_cmp nat_cmp (bs ++ xs) (bs ++ ys) ≡ slice_cmp nat_cmp xs ys
same_front [] xs ys = refl
same_front (b ∷ bs) xs ys = rw (itself b) (same_front bs xs ys)

above : (x y : ℕ) → y < x → nat_cmp x y ≡ Greater
above x y h = grind (arith, nat_tests)

one_character : (c d : ℕ) (xs ys : List ℕ) → slice_cmp nat_cmp (encode c ++ xs) (encode d ++ ys) ≡ ordering_then (nat_cmp c d) (slice_cmp nat_cmp xs ys)
one_character c d xs ys =
    ⊎_elim
    (λ (h : c < d). rw (below c d h) (lower c d xs ys h))
    (λ (h : d ≤ c). ⊎_elim
    (λ (l : d < c). rw (above c d l) (nat_list_cmp_total.antisymm (encode c ++ xs) (encode d ++ ys) ∙ ap ordering_reverse (lower d c ys xs l)))
    (λ (l : c ≤ d). let same : c ≡ d = omega arith in rw (same, itself d) (same_front (encode d) xs ys))
    (cases_lt d c))
    (cases_lt c d)

pub record Begins (bs : List ℕ) : Type 0 where
  pub first : ℕ
  pub rest : List ℕ
  pub is : bs ≡ first ∷ rest

begins : (c : ℕ) → Begins (encode c)
begins c =
    ⊎_elim
    (λ (h : c < 128). record { first = c; rest = []; is = encode_ascii c h })
    (λ (h : 128 ≤ c). let m = leads_two c h in record { first = m.first; rest = m.rest; is = m.is })
    (cases_lt c 128)

pub encoded_order : (cs ds : List ℕ) → slice_cmp nat_cmp (encodes cs) (encodes ds) ≡ slice_cmp nat_cmp cs ds
encoded_order [] [] = refl
encoded_order [] (d ∷ ds) = rw (begins d).is refl
encoded_order (c ∷ cs) [] = rw (begins c).is refl
encoded_order (c ∷ cs) (d ∷ ds) = one_character c d (encodes cs) (encodes ds) ∙ ap (ordering_then (nat_cmp c d)) (encoded_order cs ds)

pub order : (a b : List ℕ) → IsUtf8 a → IsUtf8 b → slice_cmp nat_cmp a b ≡ slice_cmp nat_cmp (chars a) (chars b)
order a b u w =
    sym (ap (λ (x : List ℕ). slice_cmp nat_cmp x (encodes (chars b))) (encodes-chars a u) ∙ ap (slice_cmp nat_cmp a) (encodes-chars b w))
    ∙ encoded_order (chars a) (chars b)
