-- A block scalar read line by line is what the lines that it takes make of it.
use Rattle.std.proofs.Common.{◌≡◌, ℕ, suc, ◌+◌, Bool, true, false, not, ◌&&◌, cond, List, [], ◌∷◌, ◌++◌, length, take, drop, map, nat_le, refl, ap, sym, ◌∙◌, append_assoc, arith, eqb, one-add, zero-add, ne_eqb}
use Rattle.std.specs.Prelude.{Option, Some, None}
use Rattle.std.specs.List.{prefix_len}
use Rattle.std.proofs.lemmas.Bool.{eqb-true, le-leb}
use Rattle.std.proofs.lemmas.List.{append-nil}
use Rattle.yl_text.specs.Character.{is_blank, is_marker, indentation}
use Rattle.yl_scalar.specs.Allowed.{first_bad}
use Rattle.yl_scalar.specs.Reading.{ScalarOutcomeValue, Whole, GoesOn, EndedAbove, outcome_of_step, outcome_of_lines, unless_bad}
use Rattle.yl_scalar.specs.Header.{indicators, explicit_content, misfit}
use Rattle.yl_scalar.specs.Block.{BlockReaderValue, block_extent, block_step, block_finish, unless_too_deep, block}
use Rattle.yl_scalar.specs.PlainLines.{unless_refused}
use Rattle.yl_scalar.specs.BlockLines.{content_line_count, last_end, bad_content, of_content, unless_deeper, content_below, deeper, below_header, block_scalar}
use Rattle.yl_scalar.specs.Laws.{BlockLaw}

abbrev whole : ℕ → ℕ → ScalarOutcomeValue
whole down column = Whole (record { down = down; column = column; value = [] })

-- a scalar that stands so
abbrev state : ℕ → Option ℕ → ℕ → ℕ → ℕ → List ℕ → BlockReaderValue
state least content down column blanks spaces = record { least = least; content = content; down = down; column = column; blanks = blanks; spaces = spaces }

abbrev reading : BlockReaderValue → List (List ℕ) → ScalarOutcomeValue
reading = outcome_of_lines block_step block_finish

abbrev bottom : ℕ → ℕ → ℕ → ℕ
bottom down blanks n = cond (eqb n 0) down (down + blanks + n)

-- what n more lines make of it
abbrev left : ℕ → ℕ → ℕ → ℕ → List (List ℕ) → ScalarOutcomeValue
left down column blanks n lines = unless_refused (bad_content (down + blanks + 1) (take n lines)) (whole (bottom down blanks n) (last_end column (take n lines)))

not_zero : (n : ℕ) → eqb (suc n) 0 ≡ false
not_zero n = ne_eqb (suc n) 0 (λ e. cc)

module _ (content down column blanks : ℕ) (line : List ℕ) (more : List (List ℕ)) where
  abbrev n : ℕ
  n = content_line_count content more

  abbrev behind : ℕ → ℕ → ℕ → ScalarOutcomeValue
  behind at low c = unless_refused (bad_content at (take n more)) (whole low (last_end c (take n more)))

  -- a blank line above the same lines
  blank : is_blank line ≡ true → (x : Bool) → eqb n 0 ≡ x → left down column (blanks + 1) n more ≡ left down column blanks (cond x 0 (1 + n)) (line ∷ more)
  blank h true z = ap (λ k. left down column (blanks + 1) k more) (eqb-true n 0 z)
  blank h false z =
      let places : down + (blanks + 1) + 1 ≡ down + blanks + 1 + 1 = omega arith in
      let lows : down + (blanks + 1) + n ≡ down + blanks + suc n = omega arith in
      let end : cond (is_blank line) column (length line) ≡ column = rw h refl in
      rw (one-add, h, not_zero n)
      (ap (λ low. behind (down + (blanks + 1) + 1) low column) (rw z lows)
      ∙ ap (λ at. behind at (down + blanks + suc n) column) places
      ∙ ap (λ c. behind (down + blanks + 1 + 1) (down + blanks + suc n) c) (sym end))

  abbrev low_at : ℕ
  low_at = down + blanks + 1

  -- a line of content
  text : (least : ℕ) (spaces : List ℕ) → is_blank line ≡ false → (bad : Option ℕ) → first_bad line ≡ bad →
      reading (state least (Some content) low_at (length line) 0 spaces) more ≡ left low_at (length line) 0 n more →
      outcome_of_step (λ s. reading s more) (unless_bad bad low_at 0 (GoesOn (state least (Some content) low_at (length line) 0 spaces))) ≡ left down column blanks (1 + n) (line ∷ more)
  text least spaces h (Some i) e ih = rw (one-add, h, e) refl
  text least spaces h None e ih =
      let places : low_at + 0 + 1 ≡ low_at + 1 = omega arith in
      let end : cond (is_blank line) column (length line) ≡ length line = rw h refl in
      rw (one-add, h, e, not_zero n)
      (ih ∙ ap (λ low. behind (low_at + 0 + 1) low (length line)) (lower (eqb n 0) refl)
      ∙ ap (λ at. behind at (down + blanks + suc n) (length line)) places
      ∙ ap (λ c. behind (low_at + 1) (down + blanks + suc n) c) (sym end))
    where
      lower : (x : Bool) → eqb n 0 ≡ x → cond x low_at (low_at + 0 + n) ≡ down + blanks + suc n
      lower true z = let zero_left : n ≡ 0 = eqb-true n 0 z in omega arith
      lower false z = omega arith

-- with a content column that is known
abbrev Agrees : ℕ → ℕ → List ℕ → ℕ → ℕ → ℕ → List (List ℕ) → Type 0
Agrees content least spaces down column blanks lines =
    reading (state least (Some content) down column blanks spaces) lines ≡ left down column blanks (content_line_count content lines) lines

module _ (content least : ℕ) (spaces : List ℕ) (down column blanks : ℕ) (line : List ℕ) (more : List (List ℕ)) where
  any : (b m l : Bool) → is_blank line ≡ b →
      Agrees content least spaces down column (blanks + 1) more → Agrees content least spaces (down + blanks + 1) (length line) 0 more →
      outcome_of_step (λ s. reading s more) (cond b (GoesOn (state least (Some content) down column (blanks + 1) spaces))
      (cond m (EndedAbove (block_extent (state least (Some content) down column blanks spaces)))
      (cond l (unless_bad (first_bad line) (down + blanks + 1) 0 (GoesOn (state least (Some content) (down + blanks + 1) (length line) 0 spaces)))
      (EndedAbove (block_extent (state least (Some content) down column blanks spaces))))))
      ≡ left down column blanks (cond b (cond (eqb (content_line_count content more) 0) 0 (1 + content_line_count content more)) (cond (not m && l) (1 + content_line_count content more) 0)) (line ∷ more)
  any true m l h blank_ih text_ih = blank_ih ∙ blank content down column blanks line more h (eqb (content_line_count content more) 0) refl
  any false true l h blank_ih text_ih = refl
  any false false true h blank_ih text_ih = text content down column blanks line more least spaces h (first_bad line) refl text_ih
  any false false false h blank_ih text_ih = refl

agrees : (lines : List (List ℕ)) (content least : ℕ) (spaces : List ℕ) (down column blanks : ℕ) → Agrees content least spaces down column blanks lines
agrees [] content least spaces down column blanks = refl
agrees (line ∷ more) content least spaces down column blanks =
    any content least spaces down column blanks line more (is_blank line) (is_marker line) (nat_le content (indentation line)) refl
    (agrees more content least spaces down column (blanks + 1)) (agrees more content least spaces (down + blanks + 1) (length line) 0)

-- with a content column that is sought
abbrev Seeks : ℕ → ℕ → List ℕ → ℕ → List (List ℕ) → Type 0
Seeks least column spaces blanks lines =
    reading (state least None 0 column blanks spaces) lines
    ≡ content_below least column (spaces ++ map indentation (take (prefix_len is_blank lines) lines))
    (λ content. left 0 column blanks (content_line_count content lines) lines) (drop (prefix_len is_blank lines) lines)

-- the same answers behind the same lines
same : (least column : ℕ) (spaces : List ℕ) (lines : List (List ℕ)) (f g : ℕ → ScalarOutcomeValue) → ((content : ℕ) → f content ≡ g content) →
    content_below least column spaces f lines ≡ content_below least column spaces g lines
same least column spaces [] f g e = refl
same least column spaces (line ∷ lines) f g e = ap (λ r. cond (not (is_marker line) && nat_le least (indentation line)) (unless_deeper (deeper (indentation line) 1 spaces) r) (whole 0 column)) (e (indentation line))

le_self : (k : ℕ) → nat_le k k ≡ true
le_self k = le-leb k k (omega arith)

module _ (least column : ℕ) (spaces : List ℕ) (blanks : ℕ) (line : List ℕ) (more : List (List ℕ)) where
  abbrev k : ℕ
  k = prefix_len is_blank more

  abbrev found : ℕ → ScalarOutcomeValue
  found content = left 0 column blanks (content_line_count content (line ∷ more)) (line ∷ more)

  blank_seeks : is_blank line ≡ true → Seeks least column (spaces ++ indentation line ∷ []) (blanks + 1) more →
      reading (state least None 0 column (blanks + 1) (spaces ++ indentation line ∷ [])) more
      ≡ content_below least column (spaces ++ map indentation (take (1 + k) (line ∷ more))) found (drop (1 + k) (line ∷ more))
  blank_seeks h ih =
      let each : (content : ℕ) → left 0 column (blanks + 1) (content_line_count content more) more ≡ found content = λ content. rw h (blank content 0 column blanks line more h (eqb (content_line_count content more) 0) refl) in
      rw one-add (ih ∙ same least column ((spaces ++ indentation line ∷ []) ++ map indentation (take k more)) (drop k more) (λ content. left 0 column (blanks + 1) (content_line_count content more) more) found each
      ∙ ap (λ xs. content_below least column xs found (drop k more)) (append_assoc spaces (indentation line ∷ []) (map indentation (take k more))))

  text_seeks : is_blank line ≡ false → (m l : Bool) → is_marker line ≡ m → (d : Option (ℕ × ℕ)) →
      outcome_of_step (λ s. reading s more) (cond m (EndedAbove (block_extent (state least None 0 column blanks spaces)))
      (cond l (unless_too_deep d (unless_bad (first_bad line) (0 + blanks + 1) 0 (GoesOn (state least (Some (indentation line)) (0 + blanks + 1) (length line) 0 spaces))))
      (EndedAbove (block_extent (state least None 0 column blanks spaces)))))
      ≡ cond (not m && l) (unless_deeper d (found (indentation line))) (whole 0 column)
  text_seeks h true l m_is d = refl
  text_seeks h false false m_is d = refl
  text_seeks h false true m_is (Some p) = refl
  text_seeks h false true m_is None =
      let taken : content_line_count (indentation line) (line ∷ more) ≡ 1 + content_line_count (indentation line) more = rw (h, m_is, le_self (indentation line)) refl in
      text (indentation line) 0 column blanks line more least spaces h (first_bad line) refl (agrees more (indentation line) least spaces (0 + blanks + 1) (length line) 0)
      ∙ ap (λ j. left 0 column blanks j (line ∷ more)) (sym taken)

  any_seeks : (b : Bool) → is_blank line ≡ b → Seeks least column (spaces ++ indentation line ∷ []) (blanks + 1) more →
      outcome_of_step (λ s. reading s more) (cond b (GoesOn (state least None 0 column (blanks + 1) (spaces ++ indentation line ∷ [])))
      (cond (is_marker line) (EndedAbove (block_extent (state least None 0 column blanks spaces)))
      (cond (nat_le least (indentation line)) (unless_too_deep (deeper (indentation line) 1 spaces) (unless_bad (first_bad line) (0 + blanks + 1) 0 (GoesOn (state least (Some (indentation line)) (0 + blanks + 1) (length line) 0 spaces))))
      (EndedAbove (block_extent (state least None 0 column blanks spaces))))))
      ≡ content_below least column (spaces ++ map indentation (take (cond b (1 + k) 0) (line ∷ more))) found (drop (cond b (1 + k) 0) (line ∷ more))
  any_seeks true h ih = blank_seeks h ih
  any_seeks false h ih =
      text_seeks h (is_marker line) (nat_le least (indentation line)) refl (deeper (indentation line) 1 spaces)
      ∙ ap (λ xs. content_below least column xs found (line ∷ more)) (sym (append-nil spaces))

seeks : (lines : List (List ℕ)) (least column : ℕ) (spaces : List ℕ) (blanks : ℕ) → Seeks least column spaces blanks lines
seeks [] least column spaces blanks = refl
seeks (line ∷ more) least column spaces blanks =
    any_seeks least column spaces blanks line more (is_blank line) refl (seeks more least column (spaces ++ indentation line ∷ []) (blanks + 1))

-- behind the header
module _ (least column : ℕ) (lines : List (List ℕ)) where
  straight : (content : ℕ) → left 0 column 0 (content_line_count content lines) lines ≡ of_content column (content_line_count content lines) (take (content_line_count content lines) lines)
  straight content = ap (λ low. unless_refused (bad_content 1 (take (content_line_count content lines) lines)) (whole low (last_end column (take (content_line_count content lines) lines)))) (lower (content_line_count content lines) (eqb (content_line_count content lines) 0) refl)
    where
      lower : (n : ℕ) (x : Bool) → eqb n 0 ≡ x → cond x 0 (0 + 0 + n) ≡ n
      lower n true z = sym (eqb-true n 0 z)
      lower n false z = zero-add n

  below : (given : Option ℕ) → reading (state least given 0 column 0 []) lines ≡ below_header least column lines given
  below (Some content) = agrees lines content least [] 0 column 0 ∙ straight content
  below None = seeks lines least column [] 0
      ∙ same least column (map indentation (take (prefix_len is_blank lines) lines)) (drop (prefix_len is_blank lines) lines) (λ content. left 0 column 0 (content_line_count content lines) lines)
      (λ content. of_content column (content_line_count content lines) (take (content_line_count content lines) lines)) straight

-- by the header's first character that does not fit, and the first of those up to it that is not allowed
module _ (least at : ℕ) (header : List ℕ) (lines : List (List ℕ)) where
  whole_header : misfit header ≡ None → (bad : Option ℕ) → first_bad header ≡ bad → block least at header lines ≡ block_scalar least at header lines
  unfolding block_scalar
  whole_header fits None e = rw (fits, e) (below least (at + 1 + length header) lines (explicit_content least (indicators header).0))
  whole_header fits (Some i) e = rw (fits, e) refl

  up_to : (place : ℕ) → misfit header ≡ Some place → (bad : Option ℕ) → first_bad (take (place + 1) header) ≡ bad → block least at header lines ≡ block_scalar least at header lines
  unfolding block_scalar
  up_to place m None e = rw (m, e) refl
  up_to place m (Some i) e = rw (m, e) refl

  by_misfit : (m : Option ℕ) → misfit header ≡ m → block least at header lines ≡ block_scalar least at header lines
  by_misfit None fits = whole_header fits (first_bad header) refl
  by_misfit (Some place) m = up_to place m (first_bad (take (place + 1) header)) refl

pub block_law : BlockLaw
block_law least at header lines = by_misfit least at header lines (misfit header) refl
