-- Laws of a text that is put between quotes run by run.
use Rattle.std.proofs.Common.{◌≡◌, ℕ, ◌+◌, ◌-◌, ◌<◌, ◌≤◌, true, false, List, [], ◌∷◌, ◌++◌, length, take, drop, get_or, refl, sym, ap, ◌∙◌, subst, arith, rules, tests, append-nil, append_assoc, take-append-drop, length-drop}
use Rattle.std.proofs.Math.Seq.{take-add}
use Rattle.std.proofs.lemmas.List.{get_or-drop, take_all, take_more}
use Rattle.std.proofs.lemmas.List.Concat.{flat_map-append}
use Rattle.std.proofs.lemmas.Bool.Decides.{nat_tests}
use Rattle.std.specs.Char.{digit_char}
use Rattle.std.specs.Prelude.{nat_lt, ◌/◌, ◌%◌}
use Rattle.json.specs.Print.{escape, escape_byte, escape_letter, quoted}
use Rattle.yl_frames.specs.Escapes.{is_special}

pub escape_plain : (x : ℕ) → is_special x ≡ false → escape_byte x ≡ x ∷ []
unfolding escape_byte
escape_plain x e = search (rules, tests)

pub escape_short : (x letter : ℕ) → escape_letter x ≡ letter → 0 < letter → escape_byte x ≡ 92 ∷ letter ∷ []
unfolding escape_byte
escape_short x letter e h = rw e (search (rules, tests))

-- a byte that needs an escape and has no short one is a control character
is_control : (x : ℕ) → escape_letter x ≡ 0 → is_special x ≡ true → nat_lt x 32 ≡ true
is_control x e h = grind (arith, nat_tests)

pub escape_long : (x high low : ℕ) → escape_letter x ≡ 0 → is_special x ≡ true → high ≡ digit_char (x / 16) → low ≡ digit_char (x % 16) → escape_byte x ≡ 92 ∷ 117 ∷ 48 ∷ 48 ∷ high ∷ low ∷ []
unfolding escape_byte
escape_long x high low e h p q = rw (e, is_control x e h, p, q) refl

-- the bytes from one place to another
abbrev run : List ℕ → ℕ → ℕ → List ℕ
run bytes from i = take (i - from) (drop from bytes)

escape-append : (xs ys : List ℕ) → escape (xs ++ ys) ≡ escape xs ++ escape ys
escape-append xs ys = flat_map-append escape_byte xs ys

up_to : (bytes : List ℕ) (from i : ℕ) → from ≤ i → take i bytes ≡ take from bytes ++ run bytes from i
up_to bytes from i h = let whole : from + (i - from) ≡ i = omega (arith, h) in ap (λ n. take n bytes) (sym whole) ∙ take-add from (i - from) bytes

pub run_put : (bytes : List ℕ) (from i : ℕ) → from ≤ i → escape (run bytes from i) ≡ run bytes from i → (34 ∷ escape (take from bytes)) ++ run bytes from i ≡ 34 ∷ escape (take i bytes)
run_put bytes from i h plain = ap (λ l. 34 ∷ l) (ap (λ l. escape (take from bytes) ++ l) (sym plain) ∙ sym (escape-append (take from bytes) (run bytes from i)) ∙ ap escape (sym (up_to bytes from i h)))

pub byte_put : (bytes : List ℕ) (i d : ℕ) → i < length bytes → (34 ∷ escape (take i bytes)) ++ escape_byte (get_or bytes i d) ≡ 34 ∷ escape (take (i + 1) bytes)
byte_put bytes i d h = ap (λ l. 34 ∷ l) (sym (
    ap escape (take_more bytes i d h) ∙ escape-append (take i bytes) (get_or bytes i d ∷ [])
    ∙ ap (λ l. escape (take i bytes) ++ l) (append-nil (escape_byte (get_or bytes i d)))))

pub run_more : (bytes : List ℕ) (from i d : ℕ) → from ≤ i → i < length bytes → is_special (get_or bytes i d) ≡ false → escape (run bytes from i) ≡ run bytes from i → escape (run bytes from (i + 1)) ≡ run bytes from (i + 1)
run_more bytes from i d h within not plain =
    let x = get_or bytes i d in
    let next : (i + 1) - from ≡ (i - from) + 1 = omega (arith, h) in
    let place : from + (i - from) ≡ i = omega (arith, h) in
    let inside : i - from < length (drop from bytes) = omega (arith, length-drop from bytes, within, h) in
    let last : get_or (drop from bytes) (i - from) d ≡ x = get_or-drop from bytes (i - from) d ∙ ap (λ n. get_or bytes n d) place in
    let longer : run bytes from (i + 1) ≡ run bytes from i ++ x ∷ [] = ap (λ n. take n (drop from bytes)) next ∙ take_more (drop from bytes) (i - from) d inside ∙ ap (λ y. run bytes from i ++ y ∷ []) last in
    ap escape longer ∙ escape-append (run bytes from i) (x ∷ []) ∙ ap (λ l. l ++ escape (x ∷ [])) plain
    ∙ ap (λ l. run bytes from i ++ l) (append-nil (escape_byte x) ∙ escape_plain x not) ∙ sym longer

-- no byte is an empty run
pub none_run : (bytes : List ℕ) (i : ℕ) → escape (run bytes i i) ≡ run bytes i i
none_run bytes i = let none : i - i ≡ 0 = omega arith in rw none refl

-- all up to the end, and then the quote
pub text_put : (bytes : List ℕ) (from n : ℕ) → n ≡ length bytes → from ≤ n → escape (run bytes from n) ≡ run bytes from n → ((34 ∷ escape (take from bytes)) ++ run bytes from n) ++ (34 ∷ []) ≡ quoted bytes
text_put bytes from n e h plain = ap (λ l. l ++ (34 ∷ [])) (run_put bytes from n h plain) ∙ ap (λ l. (34 ∷ escape l) ++ (34 ∷ [])) (take_all n bytes (omega (arith, e)))

-- what breaks within the first bytes breaks within the whole
pub broken_at : (breaks : List ℕ → Type 0) (longer : (xs ys : List ℕ) → breaks xs → breaks (xs ++ ys)) (bytes : List ℕ) (i : ℕ) → breaks (34 ∷ escape (take i bytes)) → breaks (quoted bytes)
broken_at breaks longer bytes i h =
    let parts : escape (take i bytes) ++ (escape (drop i bytes) ++ 34 ∷ []) ≡ escape bytes ++ 34 ∷ [] =
    sym (append_assoc (escape (take i bytes)) (escape (drop i bytes)) (34 ∷ [])) ∙ ap (λ l. l ++ 34 ∷ []) (sym (escape-append (take i bytes) (drop i bytes)) ∙ ap escape (take-append-drop i bytes)) in
    subst breaks (ap (λ l. 34 ∷ l) parts) (longer (34 ∷ escape (take i bytes)) (escape (drop i bytes) ++ 34 ∷ []) h)
