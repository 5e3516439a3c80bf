-- A plain scalar of whose first byte the test says no is a string.
use Rattle.std.proofs.Common.{◌≡◌, ℕ, Bool, true, false, not, ◌&&◌, ◌||◌, List, [], ◌∷◌, refl, sym, ap, ◌∙◌}
use Rattle.std.specs.Prelude.{◌==◌, bytes_eq, codes}
use Rattle.std.specs.List.{list_all, list_any}
use Rattle.std.proofs.lemmas.Bool.{eqb-true}
use Rattle.std.proofs.lemmas.Slice.Eq.{bytes_eq-Decides}
use Prim.Native.Char.{code}
use Rattle.yl_lexeme_rules.specs.Strings.{is_based, is_decimal, is_number, is_reserved_word, is_signed, is_string, is_word_of, unsigned_text}
use Rattle.yl_lexeme_rules.specs.FirstBytes.{begins_no_string, first_bytes, may_be_no_string}

both_true : (a b : Bool) → (a && b) ≡ true → (a ≡ true) × (b ≡ true)
both_true true b all = (refl, all)
both_true false b all = cc

differ : (test : List ℕ → Bool) (v w : List ℕ) → test v ≡ true → test w ≡ false → v ≡ w → ⊥
differ test v w passed failed same =
    let wrong : true ≡ false = sym passed ∙ ap test same ∙ failed in cc

neither : (a b : Bool) → (a ≡ true → ⊥) → b ≡ false → (a || b) ≡ false
neither true b other none = absurd (other refl)
neither false b other none = none

-- a word of which a test says no is not among words of which it says yes
not_among : (test : List ℕ → Bool) (ws : List (List ℕ)) (word : List ℕ)
    → list_all test ws ≡ true → test word ≡ false → is_word_of ws word ≡ false
not_among test [] word all failed = refl
not_among test (w ∷ ws) word all failed =
    let tested = both_true (test w) (list_all test ws) all in
    neither (bytes_eq w word) (is_word_of ws word)
    (λ same. differ test w word tested.0 failed ((bytes_eq-Decides w word).0 same))
    (not_among test ws word tested.1 failed)

both_false : (a b : Bool) → (a || b) ≡ false → (a ≡ false) × (b ≡ false)
both_false false b none = (refl, none)
both_false true b none = cc

-- of a list none passes a test
none_passes : (test : ℕ → Bool) (x : ℕ) (xs : List ℕ) → list_any test (x ∷ xs) ≡ false
    → (test x ≡ false) × (list_any test xs ≡ false)
none_passes test x xs none = both_false (test x) (list_any test xs) none

or_false : (a b : Bool) → a ≡ false → b ≡ false → (a || b) ≡ false
or_false true b p q = cc
or_false false b p q = q

not_true : (b : Bool) → (b ≡ true → ⊥) → b ≡ false
not_true true other = absurd (other refl)
not_true false other = refl

not_zero : (c : ℕ) → is_decimal c ≡ false → (c == code "0") ≡ false
not_zero c none =
    not_true (c == code "0")
    (λ e. let wrong : true ≡ false = sym (ap is_decimal (eqb-true c (code "0") e)) ∙ none in cc)

not_based : (c : ℕ) (cs : List ℕ) → is_decimal c ≡ false → is_based (c ∷ cs) ≡ false
not_based c [] none = refl
not_based c (d ∷ cs) none = let z = not_zero c none in rw z

module _ (c : ℕ) (cs : List ℕ) (none : begins_no_string c ≡ false) where
  no_word : (ws : List (List ℕ)) → list_all may_be_no_string ws ≡ true
      → is_word_of ws (c ∷ cs) ≡ false
  no_word ws all = not_among may_be_no_string ws (c ∷ cs) all none

  parts : (list_any (λ b. c == b) first_bytes ≡ false) × (is_decimal c ≡ false)
  parts = both_false (list_any (λ b. c == b) first_bytes) (is_decimal c) none

  no_tilde : (list_any (λ b. c == b) (codes ".+-nNtTfF") ≡ false)
  no_tilde = (none_passes (λ b. c == b) (code "~") (codes ".+-nNtTfF") parts.0).1

  points : ((c == code ".") ≡ false) × (list_any (λ b. c == b) (codes "+-nNtTfF") ≡ false)
  points = none_passes (λ b. c == b) (code ".") (codes "+-nNtTfF") no_tilde

  pluses : ((c == code "+") ≡ false) × (list_any (λ b. c == b) (codes "-nNtTfF") ≡ false)
  pluses = none_passes (λ b. c == b) (code "+") (codes "-nNtTfF") points.1

  hyphens : ((c == code "-") ≡ false) × (list_any (λ b. c == b) (codes "nNtTfF") ≡ false)
  hyphens = none_passes (λ b. c == b) (code "-") (codes "nNtTfF") pluses.1

  same_text : unsigned_text (c ∷ cs) ≡ c ∷ cs
  same_text = let p = pluses.0 in let h = hyphens.0 in rw (p, h)

  not_number : is_number (c ∷ cs) ≡ false
  not_number = let p = points.0 in let d = parts.1 in rw (p, d)

  not_reserved : is_reserved_word (c ∷ cs) ≡ false
  not_reserved =
      no_word (codes "~" ∷ codes "null" ∷ codes "Null" ∷ codes "NULL" ∷ codes "true" ∷ codes "True" ∷ codes "TRUE"
      ∷ codes "false" ∷ codes "False" ∷ codes "FALSE" ∷ codes ".nan" ∷ codes ".NaN" ∷ codes ".NAN" ∷ []) refl

  not_signed : is_signed (c ∷ cs) ≡ false
  not_signed =
      let infinities = codes ".inf" ∷ codes ".Inf" ∷ codes ".INF" ∷ [] in
      or_false (is_number (c ∷ cs)) (is_word_of infinities (c ∷ cs)) not_number (no_word infinities refl)

  begins_string : is_string (c ∷ cs) ≡ true
  begins_string =
      let text = c ∷ cs in
      ap not
      (or_false (is_reserved_word text || is_based text) (is_signed (unsigned_text text))
      (or_false (is_reserved_word text) (is_based text) not_reserved (not_based c cs parts.1))
      (ap is_signed same_text ∙ not_signed))

pub is_string_by_first : (text : List ℕ) → may_be_no_string text ≡ false → is_string text ≡ true
is_string_by_first [] none = refl
is_string_by_first (c ∷ cs) none = begins_string c cs none
