-- Whether a line can be broken is told by its bytes.
use Rattle.std.proofs.Common.{◌≡◌, ◌==◌, ◌<◌, ◌≤◌, ℕ, ◌++◌, length, List, [], ◌∷◌, Bool, true, false, cond, drop, refl, ◌∙◌, ap, arith, ⊎_elim, length-append}
use Rattle.std.specs.Prelude.{slice_index}
use Rattle.std.specs.List.{prefix_len, list_any}
use Rattle.std.proofs.lemmas.Bool.{cases_lt, ne_eqb}
use Rattle.std.proofs.lemmas.Bool.Decides.{nat_tests}
use Rattle.std.proofs.lemmas.Str.{encode_ascii, length-encode, len_utf8_bounds}
use Rattle.yl_rules.specs.LineLength.{past_mark, is_one_word, is_non_breakable}
use Rattle.yl_rules.proofs.Encoded.{IsAsciiTest, long, prefix_len-encodes, drop-encodes, list_any-encodes, list_any-past_one}
use lib.Utf8.{encodes, encode}

abbrev is_space : ℕ → Bool
is_space c = c == 0x20

abbrev pub is_hash : ℕ → Bool
is_hash c = c == 0x23

space_is_ascii : IsAsciiTest is_space
space_is_ascii b h = grind (arith, nat_tests)

pub hash_is_ascii : IsAsciiTest is_hash
hash_is_ascii b h = grind (arith, nat_tests)

no_bytes : (cs : List ℕ) → (length (encodes cs) == 0) ≡ (length cs == 0)
no_bytes [] = refl
no_bytes (c ∷ cs) = grind (arith, nat_tests, length-append (encode c) (encodes cs), length-encode c, (len_utf8_bounds c).0)

-- equal answers at each choice
choose : (p : ℕ → Bool) (x y : Bool) (a a' b b' d d' : List ℕ) → list_any p a ≡ list_any p a' → (y ≡ true → list_any p b ≡ list_any p b') → list_any p d ≡ list_any p d'
    → list_any p (cond x a (cond y b d)) ≡ list_any p (cond x a' (cond y b' d'))
choose p true y a a' b b' d d' ea eb ed = ea
choose p false true a a' b b' d d' ea eb ed = eb refl
choose p false false a a' b b' d d' ea eb ed = ed

past_hashes : (cs : List ℕ) → list_any is_space (drop 1 (drop (prefix_len is_hash (encodes cs)) (encodes cs))) ≡ list_any is_space (drop 1 (drop (prefix_len is_hash cs) cs))
past_hashes cs =
    ap (λ (n : ℕ). list_any is_space (drop 1 (drop n (encodes cs)))) (prefix_len-encodes is_hash cs hash_is_ascii)
    ∙ ap (λ (bs : List ℕ). list_any is_space (drop 1 bs)) (drop-encodes is_hash cs hash_is_ascii)
    ∙ list_any-past_one is_space (drop (prefix_len is_hash cs) cs) space_is_ascii

-- the first byte is that of no mark where the first character is none
first_ascii : (c : ℕ) (cs : List ℕ) → c < 128 → slice_index (encodes (c ∷ cs)) 0 ≡ c
first_ascii c cs h = ap (λ (bs : List ℕ). slice_index (bs ++ encodes cs) 0) (encode_ascii c h)

past_dash : (c : ℕ) (cs : List ℕ) → c < 128 → list_any is_space (drop 2 (encodes (c ∷ cs))) ≡ list_any is_space (drop 2 (c ∷ cs))
past_dash c cs h = ap (λ (bs : List ℕ). list_any is_space (drop 2 (bs ++ encodes cs))) (encode_ascii c h) ∙ list_any-past_one is_space cs space_is_ascii

any_past_mark : (cs : List ℕ) → list_any is_space (past_mark (encodes cs)) ≡ list_any is_space (past_mark cs)
any_past_mark [] = refl
any_past_mark (c ∷ cs) =
    let any = list_any-encodes is_space (c ∷ cs) space_is_ascii in
    ⊎_elim
    (λ (h : c < 128).
    rw (first_ascii c cs h)
    (choose is_space (c == 0x23) (c == 0x2D) _ _ _ _ _ _ (past_hashes (c ∷ cs)) (λ _. past_dash c cs h) any))
    (λ (h : 128 ≤ c).
    let first : 128 ≤ slice_index (encodes (c ∷ cs)) 0 = (long is_space c space_is_ascii h).first (encodes cs) in
    rw (
      ne_eqb (slice_index (encodes (c ∷ cs)) 0) 0x23 (λ e. omega (arith, e, first)),
      ne_eqb (slice_index (encodes (c ∷ cs)) 0) 0x2D (λ e. omega (arith, e, first)),
      ne_eqb c 0x23 (λ e. omega (arith, e, h)),
      ne_eqb c 0x2D (λ e. omega (arith, e, h)),
    ) any)
    (cases_lt c 128)

one_word : (cs : List ℕ) → is_one_word (encodes cs) ≡ is_one_word cs
one_word cs = rw (no_bytes cs, any_past_mark cs) refl

pub is_non_breakable-encodes : (cs : List ℕ) → is_non_breakable (encodes cs) ≡ is_non_breakable cs
is_non_breakable-encodes cs =
    ap (λ (n : ℕ). is_one_word (drop n (encodes cs))) (prefix_len-encodes is_space cs space_is_ascii)
    ∙ ap is_one_word (drop-encodes is_space cs space_is_ascii)
    ∙ one_word (drop (prefix_len is_space cs) cs)
