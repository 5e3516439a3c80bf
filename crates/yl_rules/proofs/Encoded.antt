-- Tests that ASCII characters alone pass, over a text's characters and over its bytes.
use Rattle.std.proofs.Common.{◌≡◌, ◌==◌, ◌<◌, ◌≤◌, ℕ, ◌+◌, ◌/◌, ◌++◌, length, List, [], ◌∷◌, Bool, true, false, cond, ltb, drop, refl, sym, ◌∙◌, ap, arith, add_comm, ⊎_elim, append_assoc, add-one}
use Rattle.std.specs.Prelude.{◌||◌, reverse, nat_lt, nat_le, slice_index}
use Rattle.std.specs.List.{prefix_len, suffix_len, list_any, count_by}
use Rattle.std.proofs.lemmas.Bool.{cases_lt, le-ltb}
use Rattle.std.proofs.lemmas.Bool.Decides.{nat_tests}
use Rattle.std.proofs.lemmas.List.{reverse-append, append-nil}
use Rattle.std.proofs.lemmas.List.Sums.{sum_by-append}
use Rattle.std.proofs.lemmas.Str.{encode_ascii}
use Rattle.yl_text.specs.Character.{starts_by}
use lib.Utf8.{encodes, encode, next}

-- no byte of a longer character passes
abbrev pub IsAsciiTest : (ℕ → Bool) → Type 0
IsAsciiTest p = (b : ℕ) → 128 ≤ b → p b ≡ false

-- the test says the same of each byte of a longer character
abbrev pub IsSameTest : (ℕ → Bool) → Bool → Type 0
IsSameTest q v = (b : ℕ) → 128 ≤ b → q b ≡ v

-- the byte begins a character
abbrev pub begins : ℕ → Bool
begins b = nat_lt b 0x80 || nat_le 0xc0 b

-- the bytes of a longer character, as such tests see them
pub record IsLong (p : ℕ → Bool) (bs : List ℕ) : Type 0 where
  pub front : (zs : List ℕ) → prefix_len p (bs ++ zs) ≡ 0
  pub back : (zs : List ℕ) → prefix_len p (reverse bs ++ zs) ≡ 0
  pub any : (zs : List ℕ) → list_any p (bs ++ zs) ≡ list_any p zs
  pub rest : (zs : List ℕ) → list_any p (drop 1 (bs ++ zs)) ≡ list_any p zs
  pub count : count_by begins bs ≡ 1
  pub first : (zs : List ℕ) → 128 ≤ slice_index (bs ++ zs) 0
  -- a test that all of them pass, or none
  pub start : (q : ℕ → Bool) (v : Bool) (zs : List ℕ) → IsSameTest q v → starts_by q (bs ++ zs) ≡ v

next_low : (n : ℕ) → 128 ≤ next n
next_low n = omega arith

begins_lead : (n : ℕ) → 192 ≤ n → begins n ≡ true
begins_lead n h = grind (arith, nat_tests)

begins_ascii : (n : ℕ) → n < 128 → begins n ≡ true
begins_ascii n h = grind (arith, nat_tests)

begins_next : (n : ℕ) → begins (next n) ≡ false
begins_next n = grind (arith, nat_tests)

pick : (P : List ℕ → Type 0) (x y : Bool) (a b c : List ℕ) → P a → P b → P c → P (cond x a (cond y b c))
pick P true y a b c pa pb pc = pa
pick P false true a b c pa pb pc = pb
pick P false false a b c pa pb pc = pc

two : (p : ℕ → Bool) (x y : ℕ) → IsAsciiTest p → 192 ≤ x → IsLong p (x ∷ next y ∷ [])
two p x y t h =
    let px : p x ≡ false = t x (omega arith) in
    let py : p (next y) ≡ false = t (next y) (next_low y) in
    record {
      front = λ zs. rw px;
      back = λ zs. rw py;
      any = λ zs. rw (px, py);
      rest = λ zs. rw py;
      count = rw (begins_lead x h, begins_next y);
      first = λ zs. omega arith;
      start = λ q v zs same. same x (omega arith);
    }

three : (p : ℕ → Bool) (x y z : ℕ) → IsAsciiTest p → 192 ≤ x → IsLong p (x ∷ next y ∷ next z ∷ [])
three p x y z t h =
    let px : p x ≡ false = t x (omega arith) in
    let py : p (next y) ≡ false = t (next y) (next_low y) in
    let pz : p (next z) ≡ false = t (next z) (next_low z) in
    record {
      front = λ zs. rw px;
      back = λ zs. rw pz;
      any = λ zs. rw (px, py, pz);
      rest = λ zs. rw (py, pz);
      count = rw (begins_lead x h, begins_next y, begins_next z);
      first = λ zs. omega arith;
      start = λ q v zs same. same x (omega arith);
    }

four : (p : ℕ → Bool) (x y z w : ℕ) → IsAsciiTest p → 192 ≤ x → IsLong p (x ∷ next y ∷ next z ∷ next w ∷ [])
four p x y z w t h =
    let px : p x ≡ false = t x (omega arith) in
    let py : p (next y) ≡ false = t (next y) (next_low y) in
    let pz : p (next z) ≡ false = t (next z) (next_low z) in
    let pw : p (next w) ≡ false = t (next w) (next_low w) in
    record {
      front = λ zs. rw px;
      back = λ zs. rw pw;
      any = λ zs. rw (px, py, pz, pw);
      rest = λ zs. rw (py, pz, pw);
      count = rw (begins_lead x h, begins_next y, begins_next z, begins_next w);
      first = λ zs. omega arith;
      start = λ q v zs same. same x (omega arith);
    }

-- a character past ASCII
pub long : (p : ℕ → Bool) (c : ℕ) → IsAsciiTest p → 128 ≤ c → IsLong p (encode c)
unfolding encode
long p c t h =
    rw (le-ltb c 128 h)
    (pick (IsLong p) (ltb c 2048) (ltb c 65536) _ _ _
    (two p (192 + c / 64) c t (omega arith))
    (three p (224 + c / 4096) (c / 64) c t (omega arith))
    (four p (240 + c / 262144) (c / 4096) (c / 64) c t (omega arith)))

-- the white space at the end, and other characters there
reversed : List ℕ → List ℕ
reversed [] = []
reversed (c ∷ cs) = reverse (encode c) ++ reversed cs

reversed-append : (cs ds : List ℕ) → reversed (cs ++ ds) ≡ reversed cs ++ reversed ds
unfolding reversed
reversed-append [] ds = refl
reversed-append (c ∷ cs) ds = rw (reversed-append cs ds) (sym (append_assoc (reverse (encode c)) (reversed cs) (reversed ds)))

reverse-encodes : (cs : List ℕ) → reverse (encodes cs) ≡ reversed (reverse cs)
unfolding reversed
reverse-encodes [] = refl
reverse-encodes (c ∷ cs) =
    let bytes = reverse-append (encode c) (encodes cs) in
    let characters = reverse-append (c ∷ []) cs in
    bytes ∙ rw (reverse-encodes cs) (sym (ap reversed characters ∙ reversed-append (reverse cs) (c ∷ []) ∙ ap (λ (xs : List ℕ). reversed (reverse cs) ++ xs) (append-nil (reverse (encode c)))))

prefix_len-reversed : (p : ℕ → Bool) (cs : List ℕ) → IsAsciiTest p → prefix_len p (reversed cs) ≡ prefix_len p cs
unfolding reversed
prefix_len-reversed p [] t = refl
prefix_len-reversed p (c ∷ cs) t =
    ⊎_elim
    (λ (h : c < 128). rw (encode_ascii c h, prefix_len-reversed p cs t) refl)
    (λ (h : 128 ≤ c). rw (t c h) ((long p c t h).back (reversed cs)))
    (cases_lt c 128)

pub suffix_len-encodes : (p : ℕ → Bool) (cs : List ℕ) → IsAsciiTest p → suffix_len p (encodes cs) ≡ suffix_len p cs
suffix_len-encodes p cs t = ap (prefix_len p) (reverse-encodes cs) ∙ prefix_len-reversed p (reverse cs) t

pub prefix_len-encodes : (p : ℕ → Bool) (cs : List ℕ) → IsAsciiTest p → prefix_len p (encodes cs) ≡ prefix_len p cs
prefix_len-encodes p [] t = refl
prefix_len-encodes p (c ∷ cs) t =
    ⊎_elim
    (λ (h : c < 128). rw (encode_ascii c h, prefix_len-encodes p cs t) refl)
    (λ (h : 128 ≤ c). rw (t c h) ((long p c t h).front (encodes cs)))
    (cases_lt c 128)

drop_more : (n x : ℕ) (xs : List ℕ) → drop (1 + n) (x ∷ xs) ≡ drop n xs
drop_more n x xs = rw (add_comm 1 n, add-one) refl

-- a character that is one byte, and what follows
drop_ascii : (b : Bool) (n c : ℕ) (cs : List ℕ) → c < 128 → drop n (encodes cs) ≡ encodes (drop n cs) → drop (cond b (1 + n) 0) (encodes (c ∷ cs)) ≡ encodes (drop (cond b (1 + n) 0) (c ∷ cs))
drop_ascii true n c cs h e = rw (encode_ascii c h) (drop_more n c (encodes cs) ∙ e ∙ ap encodes (sym (drop_more n c cs)))
drop_ascii false n c cs h e = refl

-- what follows the front that passes
pub drop-encodes : (p : ℕ → Bool) (cs : List ℕ) → IsAsciiTest p → drop (prefix_len p cs) (encodes cs) ≡ encodes (drop (prefix_len p cs) cs)
drop-encodes p [] t = refl
drop-encodes p (c ∷ cs) t =
    ⊎_elim
    (λ (h : c < 128). drop_ascii (p c) (prefix_len p cs) c cs h (drop-encodes p cs t))
    (λ (h : 128 ≤ c). rw (t c h) refl)
    (cases_lt c 128)

pub list_any-encodes : (p : ℕ → Bool) (cs : List ℕ) → IsAsciiTest p → list_any p (encodes cs) ≡ list_any p cs
list_any-encodes p [] t = refl
list_any-encodes p (c ∷ cs) t =
    ⊎_elim
    (λ (h : c < 128). rw (encode_ascii c h, list_any-encodes p cs t) refl)
    (λ (h : 128 ≤ c). rw (t c h) ((long p c t h).any (encodes cs) ∙ list_any-encodes p cs t))
    (cases_lt c 128)

-- behind one byte or one character
pub list_any-past_one : (p : ℕ → Bool) (cs : List ℕ) → IsAsciiTest p → list_any p (drop 1 (encodes cs)) ≡ list_any p (drop 1 cs)
list_any-past_one p [] t = refl
list_any-past_one p (c ∷ cs) t =
    ⊎_elim
    (λ (h : c < 128). ap (λ (bs : List ℕ). list_any p (drop 1 (bs ++ encodes cs))) (encode_ascii c h) ∙ list_any-encodes p cs t)
    (λ (h : 128 ≤ c). (long p c t h).rest (encodes cs) ∙ list_any-encodes p cs t)
    (cases_lt c 128)

-- a character has one byte that begins it
count_one : (c : ℕ) → count_by begins (encode c) ≡ 1
count_one c =
    ⊎_elim
    (λ (h : c < 128). rw (encode_ascii c h, begins_ascii c h) refl)
    (λ (h : 128 ≤ c). (long (λ b. b == 0x20) c (λ b l. grind (arith, nat_tests)) h).count)
    (cases_lt c 128)

-- as many bytes begin a character as there are characters
pub count-encodes : (cs : List ℕ) → count_by begins (encodes cs) ≡ length cs
count-encodes [] = refl
count-encodes (c ∷ cs) = sum_by-append (λ b. cond (begins b) 1 0) (encode c) (encodes cs) ∙ rw (count_one c, count-encodes cs, add_comm 1 (length cs), add-one) refl

pub starts_by-encodes : (q : ℕ → Bool) (v : Bool) (cs : List ℕ) → IsSameTest q v → starts_by q (encodes cs) ≡ starts_by q cs
starts_by-encodes q v [] same = refl
starts_by-encodes q v (c ∷ cs) same =
    ⊎_elim
    (λ (h : c < 128). ap (λ (bs : List ℕ). starts_by q (bs ++ encodes cs)) (encode_ascii c h))
    (λ (h : 128 ≤ c). (long (λ b. b == 0x20) c (λ b l. grind (arith, nat_tests)) h).start q v (encodes cs) same ∙ sym (same c h))
    (cases_lt c 128)
