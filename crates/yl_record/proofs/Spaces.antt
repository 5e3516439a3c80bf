-- A row begins with as many spaces by its bytes as by its characters.
use Rattle.std.proofs.Common.{◌≡◌, ◌==◌, ◌<◌, ◌≤◌, ℕ, ◌+◌, ◌/◌, ◌++◌, List, [], ◌∷◌, Bool, true, false, cond, ltb, refl, sym, ◌∙◌, ap, arith, ⊎_elim}
use Rattle.std.specs.List.{prefix_len}
use Rattle.std.specs.Str.{chars, IsUtf8}
use Rattle.std.proofs.lemmas.Bool.{cases_lt, le-ltb}
use Rattle.std.proofs.lemmas.Bool.Decides.{nat_tests}
use Rattle.std.proofs.lemmas.Str.{encode_ascii, encodes-chars}
use Prim.Native.Char.{code}
use lib.Utf8.{encodes, encode, next}

abbrev is_space : ℕ → Bool
is_space c = c == code " "

past_space : (c : ℕ) → 128 ≤ c → is_space c ≡ false
past_space c h = grind (arith, nat_tests)

none_first : (x : ℕ) (bs : List ℕ) → 128 ≤ x → prefix_len is_space (x ∷ bs) ≡ 0
none_first x bs h = rw (past_space x h) refl

pick : (P : List ℕ → Type 0) (x y : Bool) (a b c : List ℕ) → P a → P b → P c → P (cond x a (cond y b c))
pick P true y a b c pa pb pc = pa
pick P false true a b c pa pb pc = pb
pick P false false a b c pa pb pc = pc

-- a character past ASCII is no space, and its first byte is none
none_long : (c : ℕ) (bs : List ℕ) → 128 ≤ c → prefix_len is_space (encode c ++ bs) ≡ 0
unfolding encode
none_long c bs h =
    rw (le-ltb c 128 h)
    (pick (λ xs. prefix_len is_space (xs ++ bs) ≡ 0) (ltb c 2048) (ltb c 65536) _ _ _
    (none_first (192 + c / 64) (next c ∷ bs) (omega arith))
    (none_first (224 + c / 4096) (next (c / 64) ∷ next c ∷ bs) (omega arith))
    (none_first (240 + c / 262144) (next (c / 4096) ∷ next (c / 64) ∷ next c ∷ bs) (omega arith)))

spaces_encoded : (cs : List ℕ) → prefix_len is_space (encodes cs) ≡ prefix_len is_space cs
spaces_encoded [] = refl
spaces_encoded (c ∷ cs) =
    ⊎_elim
    (λ (h : c < 128). rw (encode_ascii c h, spaces_encoded cs) refl)
    (λ (h : 128 ≤ c). rw (past_space c h) (none_long c (encodes cs) h))
    (cases_lt c 128)

pub spaces_in_bytes : (bs : List ℕ) → IsUtf8 bs → prefix_len is_space bs ≡ prefix_len is_space (chars bs)
spaces_in_bytes bs u = ap (prefix_len is_space) (sym (encodes-chars bs u)) ∙ spaces_encoded (chars bs)
