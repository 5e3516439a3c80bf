-- A text that is written in quotes is read back.
use Rattle.std.proofs.Common.{◌≡◌, ℕ, suc, ◌+◌, Bool, true, false, ◌&&◌, cond, List, [], ◌∷◌, ◌++◌, length, get_or, refl, ap, sym, ◌∙◌, append_assoc, arith, eqb, zero-add, ne_eqb}
use Rattle.std.specs.List.{list_all}
use Rattle.std.proofs.lemmas.Bool.{eqb-true}
use Rattle.std.proofs.lemmas.List.{append-nil}
use Rattle.yl_scalar.specs.Allowed.{is_quoted_character}
use Rattle.yl_scalar.specs.Reading.{Whole, outcome_of_step, outcome_of_lines}
use Rattle.yl_scalar.specs.Quoted.{Closes, stretch, quote}
use Rattle.yl_scalar.specs.QuotedSteps.{quoted_step_behind, quoted_start, quoted_step, quoted_finish}
use Rattle.yl_scalar.specs.Written.{quoted_text, QuotedLaw}

-- text that was read before a character, and text behind it
abbrev ReadsBack : Bool → List ℕ → List ℕ → List ℕ → ℕ → ℕ → Type 0
ReadsBack double after text before kept at =
    stretch double 0 before kept at (quoted_text double text ++ quote double ∷ after) ≡ Closes (before ++ text) (at + (length (quoted_text double text) + 1))

first_holds : (a b : Bool) → (a && b) ≡ true → a ≡ true
first_holds true b h = refl
first_holds false b h = cc

rest_holds : (a b : Bool) → (a && b) ≡ true → b ≡ true
rest_holds true b h = h
rest_holds false b h = cc

not_zero : (n : ℕ) → eqb (suc n) 0 ≡ false
not_zero n = ne_eqb (suc n) 0 (λ e. cc)

module _ (after : List ℕ) (cs before : List ℕ) (kept at : ℕ) where
  -- one character longer in the text, and so much longer as it is written
  joined : (double : Bool) (c d len : ℕ) → c ≡ d → len ≡ length (quoted_text double cs) →
      Closes ((before ++ d ∷ []) ++ cs) (at + 1 + (len + 1)) ≡ Closes (before ++ c ∷ cs) (at + (suc len + 1))
  joined double c d len e l =
      let place : at + 1 + (len + 1) ≡ at + (suc len + 1) = omega arith in
      ap (λ x. Closes x (at + 1 + (len + 1))) (append_assoc before (d ∷ []) cs) ∙ ap (λ x. Closes (before ++ x ∷ cs) (at + 1 + (len + 1))) (sym e) ∙ ap (λ k. Closes (before ++ c ∷ cs) k) place

  joined_two : (double : Bool) (c d len : ℕ) → c ≡ d → len ≡ length (quoted_text double cs) →
      Closes ((before ++ d ∷ []) ++ cs) (at + 1 + 1 + (len + 1)) ≡ Closes (before ++ c ∷ cs) (at + (suc (suc len) + 1))
  joined_two double c d len e l =
      let place : at + 1 + 1 + (len + 1) ≡ at + (suc (suc len) + 1) = omega arith in
      ap (λ x. Closes x (at + 1 + 1 + (len + 1))) (append_assoc before (d ∷ []) cs) ∙ ap (λ x. Closes (before ++ x ∷ cs) (at + 1 + 1 + (len + 1))) (sym e) ∙ ap (λ k. Closes (before ++ c ∷ cs) k) place

  abbrev Below : Bool → Type 0
  Below double = (before : List ℕ) (kept at : ℕ) → ReadsBack double after cs before kept at

  double_one : (c : ℕ) → is_quoted_character c ≡ true → (x y : Bool) → eqb c 0x22 ≡ x → eqb c 0x5C ≡ y → Below true →
      stretch true 0 before kept at ((cond x (0x5C ∷ 0x22 ∷ []) (cond y (0x5C ∷ 0x5C ∷ []) (c ∷ [])) ++ quoted_text true cs) ++ 0x22 ∷ after)
      ≡ Closes (before ++ c ∷ cs) (at + (length (cond x (0x5C ∷ 0x22 ∷ []) (cond y (0x5C ∷ 0x5C ∷ []) (c ∷ [])) ++ quoted_text true cs) + 1))
  double_one c ok true y x_is y_is ih =
      rw (not_zero (length (quoted_text true cs ++ 0x22 ∷ after))) (ih (before ++ 0x22 ∷ []) (length before + 1) (at + 1 + 1) ∙ joined_two true c 0x22 (length (quoted_text true cs)) (eqb-true c 0x22 x_is) refl)
  double_one c ok false true x_is y_is ih =
      rw (not_zero (length (quoted_text true cs ++ 0x22 ∷ after))) (ih (before ++ 0x5C ∷ []) (length before + 1) (at + 1 + 1) ∙ joined_two true c 0x5C (length (quoted_text true cs)) (eqb-true c 0x5C y_is) refl)
  double_one c ok false false x_is y_is ih =
      rw (x_is, y_is, ok) (ih (before ++ c ∷ []) _ (at + 1) ∙ joined true c c (length (quoted_text true cs)) refl refl)

  single_one : (c : ℕ) → is_quoted_character c ≡ true → (x : Bool) → eqb c 0x27 ≡ x → Below false →
      stretch false 0 before kept at ((cond x (0x27 ∷ 0x27 ∷ []) (c ∷ []) ++ quoted_text false cs) ++ 0x27 ∷ after)
      ≡ Closes (before ++ c ∷ cs) (at + (length (cond x (0x27 ∷ 0x27 ∷ []) (c ∷ []) ++ quoted_text false cs) + 1))
  single_one c ok true x_is ih =
      ih (before ++ 0x27 ∷ []) (length before + 1) (at + 1 + 1) ∙ joined_two false c 0x27 (length (quoted_text false cs)) (eqb-true c 0x27 x_is) refl
  single_one c ok false x_is ih =
      rw (x_is, ok) (ih (before ++ c ∷ []) _ (at + 1) ∙ joined false c c (length (quoted_text false cs)) refl refl)

reads_back : (double : Bool) (after text before : List ℕ) (kept at : ℕ) → list_all is_quoted_character text ≡ true → eqb (get_or after 0 0) 0x27 ≡ false →
    ReadsBack double after text before kept at
reads_back true after [] before kept at ok free = ap (λ t. Closes t (at + 1)) (sym (append-nil before))
reads_back false after [] before kept at ok free = rw free (ap (λ t. Closes t (at + 1)) (sym (append-nil before)))
reads_back true after (c ∷ cs) before kept at ok free =
    double_one after cs before kept at c (first_holds _ _ ok) (eqb c 0x22) (eqb c 0x5C) refl refl
    (λ before kept at. reads_back true after cs before kept at (rest_holds _ _ ok) free)
reads_back false after (c ∷ cs) before kept at ok free =
    single_one after cs before kept at c (first_holds _ _ ok) (eqb c 0x27) refl
    (λ before kept at. reads_back false after cs before kept at (rest_holds _ _ ok) free)

pub quoted_law : QuotedLaw
quoted_law double opening text after lines ok free =
    ap (λ part. outcome_of_step (λ s. outcome_of_lines quoted_step quoted_finish s lines) (quoted_step_behind (quoted_start double opening) (opening + 1) part)) (reads_back double after text [] 0 0 ok free)
    ∙ ap (λ k. Whole (record { down = 0; column = opening + 1 + k; value = text })) (zero-add (length (quoted_text double text) + 1))
