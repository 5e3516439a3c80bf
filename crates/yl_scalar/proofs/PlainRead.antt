-- A plain scalar read line by line is what the lines that it takes make of it.
use Rattle.std.proofs.Common.{◌≡◌, ℕ, suc, ◌+◌, Bool, true, false, ◌&&◌, cond, List, [], ◌∷◌, ◌++◌, length, take, refl, ap, sym, ◌∙◌, append_assoc, arith, eqb, one-add, zero-add, ne_eqb}
use Rattle.std.specs.Prelude.{Option, Some, None}
use Rattle.std.specs.List.{prefix_len}
use Rattle.std.proofs.lemmas.Bool.{eqb-true}
use Rattle.std.proofs.lemmas.List.{append-nil}
use Rattle.yl_text.specs.Character.{is_white, is_blank, without_front}
use Rattle.yl_scalar.specs.Allowed.{first_bad}
use Rattle.yl_scalar.specs.Reading.{ScalarOutcomeValue, Whole, GoesOn, EndedAbove, outcome_of_step, outcome_of_lines, unless_bad}
use Rattle.yl_scalar.specs.Folding.{joint}
use Rattle.yl_scalar.specs.Plain.{part, reaches_end, continues}
use Rattle.yl_scalar.specs.PlainSteps.{PlainReaderValue, plain_extent, plain_step, plain_finish, plain_step_behind, with_line}
use Rattle.yl_scalar.specs.PlainLines.{scalar_line_count, folded_value, end_column, bad_below, unless_refused, of_lines, plain_scalar}
use Rattle.yl_scalar.specs.Laws.{PlainLaw}

abbrev whole : ℕ → ℕ → List ℕ → ScalarOutcomeValue
whole down column value = Whole (record { down = down; column = column; value = value })

-- where its last line stands, if it takes n more
abbrev bottom : PlainReaderValue → ℕ → ℕ
bottom s n = cond (eqb n 0) s.down (s.down + s.blanks + n)

-- what n more lines make of it
abbrev left : PlainReaderValue → ℕ → List (List ℕ) → ScalarOutcomeValue
left s n lines = unless_refused (bad_below s.flow (s.down + s.blanks + 1) (take n lines))
    (whole (bottom s n) (end_column s.flow s.column (take n lines)) (s.value ++ folded_value s.flow s.blanks (take n lines)))

abbrev reading : PlainReaderValue → List (List ℕ) → ScalarOutcomeValue
reading = outcome_of_lines plain_step plain_finish

abbrev Agrees : PlainReaderValue → List (List ℕ) → Type 0
Agrees s lines = reading s lines ≡ left s (scalar_line_count s.flow s.least lines) lines

nothing : (s : PlainReaderValue) (lines : List (List ℕ)) → left s 0 lines ≡ Whole (plain_extent s)
nothing s lines = ap (λ v. whole s.down s.column v) (append-nil s.value)

-- a blank line has no text
pub blank_front : (line : List ℕ) → is_blank line ≡ true → without_front line ≡ []
blank_front [] h = refl
blank_front (c ∷ cs) h = by_case (is_white c) h (blank_front cs)
  where
    by_case : (b : Bool) → (b && is_blank cs) ≡ true → (is_blank cs ≡ true → without_front cs ≡ []) → cond b (without_front cs) (c ∷ cs) ≡ []
    by_case true h ih = ih h
    by_case false h ih = cc

not_zero : (n : ℕ) → eqb (suc n) 0 ≡ false
not_zero n = ne_eqb (suc n) 0 (λ e. cc)

module _ (s : PlainReaderValue) (line : List ℕ) (more : List (List ℕ)) where
  abbrev later : PlainReaderValue
  later = record s { blanks = s.blanks + 1 }

  abbrev n : ℕ
  n = scalar_line_count s.flow s.least more

  -- the places of a line's faults, and what follows
  abbrev behind : ℕ → ℕ → ℕ → List ℕ → ScalarOutcomeValue
  behind down low column value = unless_refused (bad_below s.flow down (take n more)) (whole low column value)

  abbrev own : List ℕ
  own = part s.flow true (without_front line)

  -- the column behind the line
  abbrev line_end : ℕ
  line_end = prefix_len is_white line + length own

  blank : is_blank line ≡ true → (x : Bool) → eqb n 0 ≡ x → Agrees later more → reading later more ≡ left s (cond x 0 (1 + n)) (line ∷ more)
  blank h true z ih = ih ∙ ap (λ k. left later k more) (eqb-true n 0 z) ∙ nothing later more ∙ sym (nothing s (line ∷ more))
  blank h false z ih =
      let places : s.down + (s.blanks + 1) + 1 ≡ s.down + s.blanks + 1 + 1 = omega arith in
      let lows : s.down + (s.blanks + 1) + n ≡ s.down + s.blanks + suc n = omega arith in
      let column : cond (is_blank line) s.column line_end ≡ s.column = rw h refl in
      rw (one-add, blank_front line h, h, not_zero n)
      (ih ∙ ap (λ low. behind (s.down + (s.blanks + 1) + 1) low (end_column s.flow s.column (take n more)) (s.value ++ folded_value s.flow (s.blanks + 1) (take n more))) (rw z lows)
      ∙ ap (λ d. behind d (s.down + s.blanks + suc n) (end_column s.flow s.column (take n more)) (s.value ++ folded_value s.flow (s.blanks + 1) (take n more))) places
      ∙ ap (λ c. behind (s.down + s.blanks + 1 + 1) (s.down + s.blanks + suc n) (end_column s.flow c (take n more)) (s.value ++ folded_value s.flow (s.blanks + 1) (take n more))) (sym column))

  abbrev low_at : ℕ
  low_at = s.down + s.blanks + 1

  abbrev prefix_column : ℕ → ℕ
  prefix_column column = end_column s.flow column (take n more)

  -- a line with text, which the scalar reaches the end of or not
  text : is_blank line ≡ false → (goes : Bool) (bad : Option ℕ) → first_bad own ≡ bad → Agrees (with_line s line) more →
      outcome_of_step (λ s. reading s more) (unless_bad bad low_at (prefix_len is_white line) (plain_step_behind goes (with_line s line))) ≡ left s (cond goes (1 + n) 1) (line ∷ more)
  text h true (Some i) e ih = rw (one-add, e) refl
  text h false (Some i) e ih = rw e refl
  text h false None e ih = rw (h, e) (ap (λ v. whole low_at line_end v) (simp (append_assoc, append-nil)))
  text h true None e ih =
      let places : low_at + 0 + 1 ≡ low_at + 1 = omega arith in
      let value : s.value ++ joint None s.blanks ++ own ++ folded_value s.flow 0 (take n more) ≡ s.value ++ (joint None s.blanks ++ own ++ folded_value s.flow 0 (take n more)) = simp append_assoc in
      let column : cond (is_blank line) s.column line_end ≡ line_end = rw h refl in
      rw (one-add, h, e, not_zero n)
      (ih ∙ ap (λ low. behind (low_at + 0 + 1) low (prefix_column line_end) (s.value ++ joint None s.blanks ++ own ++ folded_value s.flow 0 (take n more))) (lower (eqb n 0) refl)
      ∙ ap (λ d. behind d (s.down + s.blanks + suc n) (prefix_column line_end) (s.value ++ joint None s.blanks ++ own ++ folded_value s.flow 0 (take n more))) places
      ∙ ap (λ v. behind (low_at + 1) (s.down + s.blanks + suc n) (prefix_column line_end) v) value
      ∙ ap (λ c. behind (low_at + 1) (s.down + s.blanks + suc n) (prefix_column c) (s.value ++ (joint None s.blanks ++ own ++ folded_value s.flow 0 (take n more)))) (sym column))
    where
      lower : (x : Bool) → eqb n 0 ≡ x → cond x low_at (low_at + 0 + n) ≡ s.down + s.blanks + suc n
      lower true z = let zero_left : n ≡ 0 = eqb-true n 0 z in omega arith
      lower false z = omega arith

  not_blank : is_blank line ≡ false → (x : Bool) → Agrees (with_line s line) more →
      outcome_of_step (λ s. reading s more) (cond x (unless_bad (first_bad own) low_at (prefix_len is_white line) (plain_step_behind (reaches_end s.flow true (without_front line)) (with_line s line))) (EndedAbove (plain_extent s)))
      ≡ left s (cond x (cond (reaches_end s.flow true (without_front line)) (1 + n) 1) 0) (line ∷ more)
  not_blank h true ih = text h (reaches_end s.flow true (without_front line)) (first_bad own) refl ih
  not_blank h false ih = sym (nothing s (line ∷ more))

  any : (x : Bool) → is_blank line ≡ x → Agrees later more → Agrees (with_line s line) more →
      outcome_of_step (λ s. reading s more) (cond x (GoesOn later) (cond (continues s.flow s.least line) (unless_bad (first_bad own) low_at (prefix_len is_white line) (plain_step_behind (reaches_end s.flow true (without_front line)) (with_line s line))) (EndedAbove (plain_extent s))))
      ≡ left s (cond x (cond (eqb n 0) 0 (1 + n)) (cond (continues s.flow s.least line) (cond (reaches_end s.flow true (without_front line)) (1 + n) 1) 0)) (line ∷ more)
  any true h blank_ih text_ih = blank h (eqb n 0) refl blank_ih
  any false h blank_ih text_ih = not_blank h (continues s.flow s.least line) text_ih

agrees : (lines : List (List ℕ)) (s : PlainReaderValue) → Agrees s lines
agrees [] s = sym (nothing s [])
agrees (line ∷ more) s = any s line more (is_blank line) refl (agrees more (later s line more)) (agrees more (with_line s line))

module _ (flow : Bool) (least at : ℕ) (first : List ℕ) (lines : List (List ℕ)) where
  abbrev own_first : List ℕ
  own_first = part flow false first

  abbrev start : PlainReaderValue
  start = record { flow = flow; least = least; down = 0; column = at + length own_first; blanks = 0; value = own_first }

  abbrev m : ℕ
  m = scalar_line_count flow least lines

  law : (reaches : Bool) (bad : Option ℕ) → first_bad own_first ≡ bad →
      outcome_of_step (λ s. reading s lines) (unless_bad bad 0 at (plain_step_behind reaches start))
      ≡ of_lines flow at first (cond reaches (scalar_line_count flow least lines) 0) (take (cond reaches (scalar_line_count flow least lines) 0) lines)
  law reaches (Some i) e = rw e refl
  law false None e = rw e (ap (λ v. whole 0 (at + length own_first) v) (sym (append-nil own_first)))
  law true None e = rw e (agrees lines start ∙ ap (λ low. unless_refused (bad_below flow 1 (take m lines)) (whole low (end_column flow (at + length own_first) (take m lines)) (own_first ++ folded_value flow 0 (take m lines)))) (lower (eqb m 0) refl))
    where
      lower : (x : Bool) → eqb m 0 ≡ x → cond x 0 (0 + 0 + m) ≡ m
      lower true z = sym (eqb-true m 0 z)
      lower false z = zero-add m

pub plain_law : PlainLaw
unfolding plain_scalar
plain_law flow least at first lines = law flow least at first lines (reaches_end flow false first) (first_bad (part flow false first)) refl
