-- Where a scalar that goes on may end: no row below is taken back.
use Rattle.std.proofs.Common.{◌≡◌, ℕ, ◌+◌, ◌≤◌, ◌<◌, ◌⊎◌, inl, inr, Bool, true, false, cond, List, [], ◌∷◌, length, Option, Some, None, refl, arith, eqb, leb}
use Rattle.std.specs.Prelude.{option_map}
use Rattle.std.specs.Option.{option_map_or}
use Rattle.std.proofs.lemmas.Bool.{eqb-true}
use Rattle.std.specs.List.{prefix_len}
use Rattle.yl_text.specs.Character.{is_white, is_blank, is_marker, indentation, without_front}
use Rattle.yl_scalar.specs.declared.answer.ScalarFault.TheVariants.{UnclosedQuote, MarkerInQuote, BadEscape}
use Rattle.yl_scalar.specs.Reading.{ScalarOutcomeValue, Whole, Refused, ScalarStepValue, GoesOn, EndedAbove, Fails, outcome_of_step, outcome_of_lines, unless_bad}
use Rattle.yl_scalar.specs.Allowed.{first_bad}
use Rattle.yl_scalar.specs.Plain.{part, reaches_end, continues}
use Rattle.yl_scalar.specs.PlainSteps.{PlainReaderValue, plain_extent, plain_step, plain_finish, with_line, plain_step_behind}
use Rattle.yl_scalar.specs.Quoted.{Stretch, Closes, Breaks, Faulty, stretch}
use Rattle.yl_scalar.specs.QuotedSteps.{QuotedReaderValue, quoted_step, quoted_finish, quoted_step_behind, with_break}
use Rattle.yl_scalar.specs.Block.{BlockReaderValue, block_extent, block_step, block_finish, text_line, unless_too_deep, spaces_with}
use Rattle.yl_scalar.specs.BlockLines.{deeper}

-- ---- plain scalars

abbrev pub PlainEnds : PlainReaderValue → ScalarOutcomeValue → Type 0
PlainEnds s (Whole e) = ((e.down ≡ s.down) × (e.column ≡ s.column)) ⊎ (s.down + s.blanks < e.down)
PlainEnds s (Refused fault down column) = s.down + s.blanks < down

plain_blank : (s : PlainReaderValue) (r : ScalarOutcomeValue) → PlainEnds (record s { blanks = s.blanks + 1 }) r → PlainEnds s r
plain_blank s (Whole e) (inl h) = inl h
plain_blank s (Whole e) (inr h) = inr (omega arith)
plain_blank s (Refused fault down column) h = omega arith

plain_line : (s : PlainReaderValue) (row : List ℕ) (r : ScalarOutcomeValue) → PlainEnds (with_line s row) r → PlainEnds s r
plain_line s row (Whole e) (inl h) = inr (omega (arith, h.0))
plain_line s row (Whole e) (inr h) = inr (omega arith)
plain_line s row (Refused fault down column) h = omega arith

pub plain_ends_at : (s : PlainReaderValue) (rows : List (List ℕ)) → PlainEnds s (outcome_of_lines plain_step plain_finish s rows)
plain_ends_at s [] = inl (refl, refl)
plain_ends_at s (row ∷ rows) =
    by_case (is_blank row) (continues s.flow s.least row) (first_bad (part s.flow true (without_front row))) (reaches_end s.flow true (without_front row))
    (plain_blank s _ (plain_ends_at (record s { blanks = s.blanks + 1 }) rows)) (plain_line s row _ (plain_ends_at (with_line s row) rows))
  where
    by_case : (blank goes : Bool) (bad : Option ℕ) (reaches : Bool)
        → PlainEnds s (outcome_of_lines plain_step plain_finish (record s { blanks = s.blanks + 1 }) rows) → PlainEnds s (outcome_of_lines plain_step plain_finish (with_line s row) rows)
        → PlainEnds s (outcome_of_step (λ s. outcome_of_lines plain_step plain_finish s rows)
        (cond blank (GoesOn (record s { blanks = s.blanks + 1 }))
        (cond goes (unless_bad bad (s.down + s.blanks + 1) (prefix_len is_white row) (plain_step_behind reaches (with_line s row))) (EndedAbove (plain_extent s)))))
    by_case true goes bad reaches p q = p
    by_case false false bad reaches p q = inl (refl, refl)
    by_case false true (Some i) reaches p q = omega arith
    by_case false true None true p q = q
    by_case false true None false p q = inr (omega arith)

-- ---- quoted scalars

abbrev pub QuotedEnds : QuotedReaderValue → ScalarOutcomeValue → Type 0
QuotedEnds s (Whole e) = s.down + s.blanks < e.down
QuotedEnds s (Refused fault down column) = (fault ≡ UnclosedQuote) ⊎ (s.down + s.blanks ≤ down)

quoted_blank : (s : QuotedReaderValue) (r : ScalarOutcomeValue) → QuotedEnds (record s { blanks = s.blanks + 1 }) r → QuotedEnds s r
quoted_blank s (Whole e) h = omega arith
quoted_blank s (Refused fault down column) (inl h) = inl h
quoted_blank s (Refused fault down column) (inr h) = inr (omega arith)

-- behind a line that is not blank, with this value and backslash
abbrev pub behind : QuotedReaderValue → List ℕ → Option ℕ → QuotedReaderValue
behind s value backslash = record (with_break s) { value = value; backslash = backslash }

quoted_line : (s : QuotedReaderValue) (value : List ℕ) (backslash : Option ℕ) (r : ScalarOutcomeValue) → QuotedEnds (behind s value backslash) r → QuotedEnds s r
quoted_line s value backslash (Whole e) h = omega arith
quoted_line s value backslash (Refused fault down column) (inl h) = inl h
quoted_line s value backslash (Refused fault down column) (inr h) = inr (omega arith)

cut_ends : (s : QuotedReaderValue) (backslash : Option ℕ) (b : Bool) → (b ≡ true → s.blanks ≡ 0)
    → QuotedEnds s (option_map_or (λ column. Refused BadEscape s.down column) (cond b backslash None) (Refused UnclosedQuote 0 s.opening))
cut_ends s None true h = inl refl
cut_ends s None false h = inl refl
cut_ends s (Some column) true h = let e = h refl in inr (omega arith)
cut_ends s (Some column) false h = inl refl

pub quoted_ends_at : (s : QuotedReaderValue) (rows : List (List ℕ)) → QuotedEnds s (outcome_of_lines quoted_step quoted_finish s rows)
quoted_ends_at s [] = cut_ends s s.backslash (eqb s.blanks 0) (λ h. eqb-true s.blanks 0 h)
quoted_ends_at s (row ∷ rows) =
    by_case (is_marker row) (is_blank row) (stretch s.double 0 (with_break s).value (length (with_break s).value) 0 (without_front row))
    (quoted_blank s _ (quoted_ends_at (record s { blanks = s.blanks + 1 }) rows))
    (λ value backslash. quoted_line s value backslash _ (quoted_ends_at (behind s value backslash) rows))
  where
    by_case : (marker blank : Bool) (t : Stretch)
        → QuotedEnds s (outcome_of_lines quoted_step quoted_finish (record s { blanks = s.blanks + 1 }) rows)
        → ((value : List ℕ) (backslash : Option ℕ) → QuotedEnds s (outcome_of_lines quoted_step quoted_finish (behind s value backslash) rows))
        → QuotedEnds s (outcome_of_step (λ s. outcome_of_lines quoted_step quoted_finish s rows)
        (cond marker (Fails MarkerInQuote (s.down + s.blanks + 1) 0)
        (cond blank (GoesOn (record s { blanks = s.blanks + 1 })) (quoted_step_behind (with_break s) (prefix_len is_white row) t))))
    by_case true blank t p q = inr (omega arith)
    by_case false true t p q = p
    by_case false false (Closes text place) p q = omega arith
    by_case false false (Breaks text backslash) p q = q text (option_map (λ place. prefix_len is_white row + place) backslash)
    by_case false false (Faulty fault place) p q = inr (omega arith)

-- ---- block scalars

abbrev pub BlockEnds : BlockReaderValue → ScalarOutcomeValue → Type 0
BlockEnds s (Whole e) = ((e.down ≡ s.down) × (e.column ≡ s.column)) ⊎ (s.down + s.blanks < e.down)
BlockEnds s (Refused fault down column) = (s.content ≡ None) ⊎ (s.down + s.blanks < down)

-- a blank line leaves a column that is known
block_blank : (s : BlockReaderValue) (spaces : List ℕ) (r : ScalarOutcomeValue) → BlockEnds (record s { blanks = s.blanks + 1; spaces = spaces }) r → BlockEnds s r
block_blank s spaces (Whole e) (inl h) = inl h
block_blank s spaces (Whole e) (inr h) = inr (omega arith)
block_blank s spaces (Refused fault down column) (inl h) = inl h
block_blank s spaces (Refused fault down column) (inr h) = inr (omega arith)

abbrev pub behind_content : BlockReaderValue → ℕ → List ℕ → BlockReaderValue
behind_content s content line = record { least = s.least; content = Some content; down = s.down + s.blanks + 1; column = length line; blanks = 0; spaces = s.spaces }

block_content : (s : BlockReaderValue) (content : ℕ) (line : List ℕ) (r : ScalarOutcomeValue) → BlockEnds (behind_content s content line) r → BlockEnds s r
block_content s content line (Whole e) (inl h) = inr (omega (arith, h.0))
block_content s content line (Whole e) (inr h) = inr (omega arith)
block_content s content line (Refused fault down column) (inl h) = cc
block_content s content line (Refused fault down column) (inr h) = inr (omega arith)

module _ (s : BlockReaderValue) (row : List ℕ) (rows : List (List ℕ)) where
  abbrev below : ScalarStepValue BlockReaderValue → ScalarOutcomeValue
  below t = outcome_of_step (λ s. outcome_of_lines block_step block_finish s rows) t

  contents : (content : ℕ) (bad : Option ℕ) → BlockEnds s (outcome_of_lines block_step block_finish (behind_content s content row) rows)
      → BlockEnds s (below (unless_bad bad (s.down + s.blanks + 1) 0 (GoesOn (behind_content s content row))))
  contents content None q = q
  contents content (Some i) q = inr (omega arith)

  begins : (content : ℕ) (deep : Option (ℕ × ℕ)) (bad : Option ℕ) → s.content ≡ None → BlockEnds s (outcome_of_lines block_step block_finish (behind_content s content row) rows)
      → BlockEnds s (below (unless_too_deep deep (unless_bad bad (s.down + s.blanks + 1) 0 (GoesOn (behind_content s content row)))))
  begins content None bad e q = contents content bad q
  begins content (Some place) bad e q = inl e

  either : (b : Bool) (t : ScalarStepValue BlockReaderValue) → BlockEnds s (below t) → BlockEnds s (below (cond b t (EndedAbove (block_extent s))))
  either true t h = h
  either false t h = inl (refl, refl)

  texts : (known : Option ℕ) → s.content ≡ known → ((content : ℕ) → BlockEnds s (outcome_of_lines block_step block_finish (behind_content s content row) rows)) → BlockEnds s (below (text_line known s row))
  texts None e q =
      either (leb s.least (indentation row)) _ (begins (indentation row) (deeper (indentation row) 1 s.spaces) (first_bad row) e (q (indentation row)))
  texts (Some content) e q = either (leb content (indentation row)) _ (contents content (first_bad row) (q content))

  lines : (blank marker : Bool) → ((spaces : List ℕ) → BlockEnds s (outcome_of_lines block_step block_finish (record s { blanks = s.blanks + 1; spaces = spaces }) rows))
      → BlockEnds s (below (text_line s.content s row))
      → BlockEnds s (below (cond blank (GoesOn (record s { blanks = s.blanks + 1; spaces = spaces_with s.content s.spaces row })) (cond marker (EndedAbove (block_extent s)) (text_line s.content s row))))
  lines true marker p q = p (spaces_with s.content s.spaces row)
  lines false true p q = inl (refl, refl)
  lines false false p q = q

pub block_ends_at : (s : BlockReaderValue) (rows : List (List ℕ)) → BlockEnds s (outcome_of_lines block_step block_finish s rows)
block_ends_at s [] = inl (refl, refl)
block_ends_at s (row ∷ rows) =
    lines s row rows (is_blank row) (is_marker row)
    (λ spaces. block_blank s spaces _ (block_ends_at (record s { blanks = s.blanks + 1; spaces = spaces }) rows))
    (texts s row rows s.content refl (λ content. block_content s content row _ (block_ends_at (behind_content s content row) rows)))
