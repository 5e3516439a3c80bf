-- A scalar that is carried from row to row gives what reading it whole gives.
use Rattle.std.proofs.Common.{◌≡◌, ℕ, suc, ◌+◌, ◌-◌, ◌≤◌, ◌⊎◌, inl, inr, Bool, true, false, cond, not, ◌&&◌, ◌||◌, List, [], ◌∷◌, ◌++◌, length, length-append, take, drop, Option, Some, None, refl, ap, sym, subst, ◌∙◌, eqb, ltb, leb, arith, zero-add}
use Rattle.std.specs.List.{prefix_len}
use Rattle.std.specs.Prelude.{option_map, get_or}
use Rattle.std.specs.Option.{option_map_or}
use Rattle.std.proofs.lemmas.Bool.{eqb-true}
use Rattle.std.proofs.Math.Seq.{take-length}
use Rattle.yl_text.specs.Character.{is_white, is_blank, is_marker, indentation, without_front, without_end}
use Rattle.yl_scalar.specs.declared.answer.ScalarFault.{ScalarFault}
use Rattle.yl_scalar.specs.declared.answer.ScalarFault.TheVariants.{UnclosedQuote, MarkerInQuote, BadEscape}
use Rattle.yl_scalar.specs.Reading.{ScalarOutcomeValue, Whole, Refused, ScalarStepValue, GoesOn, EndsIn, EndedAbove, Fails, outcome_of_lines, unless_bad}
use Rattle.yl_scalar.specs.Allowed.{first_bad, is_quoted_character}
use Rattle.yl_scalar.specs.Plain.{stop, part, reaches_end, continues}
use Rattle.yl_scalar.specs.PlainSteps.{PlainReaderValue, plain_extent, plain_step, plain_finish, with_line, plain_step_behind}
use Rattle.yl_scalar.specs.Quoted.{Stretch, Closes, Breaks, Faulty, stretch, quote}
use Rattle.yl_scalar.specs.Escape.{escape}
use Rattle.yl_scalar.specs.QuotedSteps.{QuotedReaderValue, quoted_step, quoted_finish, quoted_step_behind, with_break}
use Rattle.yl_scalar.specs.Block.{BlockReaderValue, block_extent, block_step, block_finish, text_line, with_content, unless_too_deep, spaces_with}
use Rattle.yl_scalar.specs.BlockLines.{deeper}
use Rattle.yl_row.specs.Fault.{of_scalar, is_unclosed}
use Rattle.yl_row.specs.ScalarReader.{ScalarReaderValue, InPlain, InQuoted, InBlock, map_step, reader_step, reader_finish, rows_in, KeepsSpaces}
use Rattle.yl_row.proofs.Wholes.{PlainEnds, QuotedEnds, BlockEnds, behind, behind_content, plain_ends_at, quoted_ends_at, block_ends_at}
use Rattle.yl_row.proofs.Modes.{read_alike}

abbrev pub ModeEnds : ScalarReaderValue → ScalarOutcomeValue → Type 0
ModeEnds (InPlain s) r = PlainEnds s r
ModeEnds (InQuoted s) r = QuotedEnds s r
ModeEnds (InBlock s) r = BlockEnds s r

pub mode_ends_at : (m : ScalarReaderValue) (rows : List (List ℕ)) → ModeEnds m (outcome_of_lines reader_step reader_finish m rows)
mode_ends_at (InPlain s) rows = subst (PlainEnds s) (sym (read_alike InPlain plain_step plain_finish (λ s row. refl) (λ s. refl) s rows)) (plain_ends_at s rows)
mode_ends_at (InQuoted s) rows = subst (QuotedEnds s) (sym (read_alike InQuoted quoted_step quoted_finish (λ s row. refl) (λ s. refl) s rows)) (quoted_ends_at s rows)
mode_ends_at (InBlock s) rows = subst (BlockEnds s) (sym (read_alike InBlock block_step block_finish (λ s row. refl) (λ s. refl) s rows)) (block_ends_at s rows)

-- a row that the scalar goes through, so many rows below its first one, hides nothing of what this whole reading leaves behind
abbrev pub Carries : ℕ → List ℕ → ScalarOutcomeValue → Type 0
Carries passed row (Whole e) =
    ((e.down - passed ≡ 0) × (is_blank row ≡ true)) ⊎ (((e.down - passed ≡ 1) × (is_blank (drop e.column row) ≡ true)) ⊎ (2 ≤ e.down - passed))
Carries passed row (Refused fault down column) = ((is_blank row || is_unclosed (of_scalar fault)) ≡ true) ⊎ (1 ≤ down - passed)

-- what a row is to a scalar
abbrev pub Facts : ScalarReaderValue → List ℕ → ScalarStepValue ScalarReaderValue → Type 0
Facts m row (GoesOn m') = (rows_in m' ≡ rows_in m + 1) × ((r : ScalarOutcomeValue) → ModeEnds m' r → Carries (rows_in m) row r) × (KeepsSpaces m → KeepsSpaces m')
Facts m row (EndsIn e) = e.down ≡ rows_in m + 1
Facts m row (EndedAbove e) = e.down ≤ rows_in m
Facts m row (Fails fault down column) = (is_unclosed (of_scalar fault) ≡ false) × ((down ≡ rows_in m + 1) ⊎ ((down ≤ rows_in m) × (is_blank row ≡ false)))

-- ---- what is left of a row behind a plain scalar that goes on

drop_front : (row : List ℕ) (k : ℕ) → drop (prefix_len is_white row + k) row ≡ drop k (without_front row)
drop_front [] k = rw zero-add
drop_front (c ∷ cs) k = by_case (is_white c) (drop_front cs k)
  where
    by_case : (b : Bool) → drop (prefix_len is_white cs + k) cs ≡ drop k (without_front cs) → drop (cond b (1 + prefix_len is_white cs) 0 + k) (c ∷ cs) ≡ drop k (cond b (without_front cs) (c ∷ cs))
    by_case true ih = let e : 1 + prefix_len is_white cs + k ≡ suc (prefix_len is_white cs + k) = omega arith in ap (λ n. drop n (c ∷ cs)) e ∙ ih
    by_case false ih = rw zero-add

pub blank_end : (t : List ℕ) → is_blank (drop (length (without_end t)) t) ≡ true
blank_end [] = refl
blank_end (c ∷ cs) = by_case (is_blank (c ∷ cs)) refl (blank_end cs)
  where
    by_case : (b : Bool) → is_blank (c ∷ cs) ≡ b → is_blank (drop (length (without_end cs)) cs) ≡ true → is_blank (drop (length (cond b [] (c ∷ without_end cs))) (c ∷ cs)) ≡ true
    by_case true h ih = h
    by_case false h ih = ih

remainder : (flow : Bool) (row : List ℕ) → reaches_end flow true (without_front row) ≡ true → is_blank (drop (prefix_len is_white row + length (part flow true (without_front row))) row) ≡ true
remainder flow row h =
    let t = without_front row in
    let e : part flow true (without_front row) ≡ without_end (without_front row) =
    ap without_end (ap (λ n. take n (without_front row)) (eqb-true (stop flow true (without_front row)) (length (without_front row)) h) ∙ take-length (without_front row)) in
    ap is_blank (drop_front row (length (part flow true (without_front row))) ∙ ap (λ p. drop (length p) (without_front row)) e) ∙ blank_end (without_front row)

pub blank_behind : (row : List ℕ) → is_blank (drop (length row) row) ≡ true
blank_behind [] = refl
blank_behind (c ∷ cs) = blank_behind cs

-- ---- plain

module _ (s : PlainReaderValue) (row : List ℕ) where
  plain_blank : is_blank row ≡ true → (r : ScalarOutcomeValue) → PlainEnds (record s { blanks = s.blanks + 1 }) r → Carries (s.down + s.blanks) row r
  plain_blank h (Whole e) (inl p) = inl (omega (arith, p.0), h)
  plain_blank h (Whole e) (inr p) = inr (inr (omega arith))
  plain_blank h (Refused fault down column) p = inr (omega arith)

  plain_line : reaches_end s.flow true (without_front row) ≡ true → (r : ScalarOutcomeValue) → PlainEnds (with_line s row) r → Carries (s.down + s.blanks) row r
  plain_line h (Whole e) (inl p) = inr (inl (omega (arith, p.0), ap (λ n. is_blank (drop n row)) p.1 ∙ remainder s.flow row h))
  plain_line h (Whole e) (inr p) = inr (inr (omega arith))
  plain_line h (Refused fault down column) p = inr (omega arith)

  plain_taken : (reaches : Bool) → reaches_end s.flow true (without_front row) ≡ reaches → Facts (InPlain s) row (map_step InPlain (plain_step_behind reaches (with_line s row)))
  plain_taken true h = (omega arith, plain_line h, λ k. tt)
  plain_taken false h = refl

  plain_bad : (bad : Option ℕ) → Facts (InPlain s) row (map_step InPlain (plain_step_behind (reaches_end s.flow true (without_front row)) (with_line s row)))
      → Facts (InPlain s) row (map_step InPlain (unless_bad bad (s.down + s.blanks + 1) (prefix_len is_white row) (plain_step_behind (reaches_end s.flow true (without_front row)) (with_line s row))))
  plain_bad None h = h
  plain_bad (Some i) h = (refl, inl refl)

  plain_facts : (blank goes : Bool) → is_blank row ≡ blank → Facts (InPlain s) row (map_step InPlain
      (cond blank (GoesOn (record s { blanks = s.blanks + 1 }))
      (cond goes (unless_bad (first_bad (part s.flow true (without_front row))) (s.down + s.blanks + 1) (prefix_len is_white row) (plain_step_behind (reaches_end s.flow true (without_front row)) (with_line s row)))
      (EndedAbove (plain_extent s)))))
  plain_facts true goes h = (omega arith, plain_blank h, λ k. tt)
  plain_facts false true h = plain_bad (first_bad (part s.flow true (without_front row))) (plain_taken (reaches_end s.flow true (without_front row)) refl)
  plain_facts false false h = omega arith

-- ---- quoted

-- no line of a quoted scalar has the fault that the quote is open
abbrev NotOpen : Stretch → Type 0
NotOpen (Closes text place) = Unit {0}
NotOpen (Breaks text backslash) = Unit {0}
NotOpen (Faulty fault place) = is_unclosed (of_scalar fault) ≡ false

not_open_if : (b : Bool) (x y : Stretch) → NotOpen x → NotOpen y → NotOpen (cond b x y)
not_open_if true x y p q = p
not_open_if false x y p q = q

escape_not_open : (place : ℕ) (e : Option (ℕ × ℕ)) (more : ℕ × ℕ → Stretch) → ((e : ℕ × ℕ) → NotOpen (more e)) → NotOpen (option_map_or more e (Faulty BadEscape place))
escape_not_open place None more h = refl
escape_not_open place (Some e) more h = h e

not_open : (double : Bool) (skip : ℕ) (text : List ℕ) (kept at : ℕ) (cs : List ℕ) → NotOpen (stretch double skip text kept at cs)
not_open double skip text kept at [] = tt
not_open double skip text kept at (c ∷ cs) =
    not_open_if (ltb 0 skip) _ _ (not_open double (skip - 1) text kept (at + 1) cs)
    (not_open_if (eqb c (quote double)) _ _
    (not_open_if (not double && eqb (get_or cs 0 0) 0x27) _ _ (not_open double 1 (text ++ c ∷ []) (length text + 1) (at + 1) cs) tt)
    (not_open_if (double && eqb c 0x5C) _ _
    (not_open_if (eqb (length cs) 0) _ _ tt
    (escape_not_open at (escape cs) _ (λ e. not_open double (e.1 + 1) (text ++ e.0 ∷ []) (length text + 1) (at + 1) cs)))
    (not_open_if (is_quoted_character c) _ _ (not_open double 0 (text ++ c ∷ []) _ (at + 1) cs) refl)))

module _ (s : QuotedReaderValue) (row : List ℕ) where
  open_quote : (fault : ScalarFault) → fault ≡ UnclosedQuote → (is_blank row || is_unclosed (of_scalar fault)) ≡ true
  open_quote fault h = ap (λ fault. is_blank row || is_unclosed (of_scalar fault)) h ∙ or_true (is_blank row)
    where
      or_true : (b : Bool) → (b || true) ≡ true
      or_true true = refl
      or_true false = refl

  quoted_blank : (r : ScalarOutcomeValue) → QuotedEnds (record s { blanks = s.blanks + 1 }) r → Carries (s.down + s.blanks) row r
  quoted_blank (Whole e) p = inr (inr (omega arith))
  quoted_blank (Refused fault down column) (inl p) = inl (open_quote fault p)
  quoted_blank (Refused fault down column) (inr p) = inr (omega arith)

  quoted_line : (value : List ℕ) (backslash : Option ℕ) (r : ScalarOutcomeValue) → QuotedEnds (behind s value backslash) r → Carries (s.down + s.blanks) row r
  quoted_line value backslash (Whole e) p = inr (inr (omega arith))
  quoted_line value backslash (Refused fault down column) (inl p) = inl (open_quote fault p)
  quoted_line value backslash (Refused fault down column) (inr p) = inr (omega arith)

  quoted_facts : (marker blank : Bool) (t : Stretch) → NotOpen t → Facts (InQuoted s) row (map_step InQuoted
      (cond marker (Fails MarkerInQuote (s.down + s.blanks + 1) 0)
      (cond blank (GoesOn (record s { blanks = s.blanks + 1 })) (quoted_step_behind (with_break s) (prefix_len is_white row) t))))
  quoted_facts true blank t n = (refl, inl refl)
  quoted_facts false true t n = (omega arith, quoted_blank, λ k. tt)
  quoted_facts false false (Closes text place) n = refl
  quoted_facts false false (Breaks text backslash) n = (omega arith, quoted_line text (option_map (λ place. prefix_len is_white row + place) backslash), λ k. tt)
  quoted_facts false false (Faulty fault place) n = (n, inl refl)

-- ---- block

module _ (s : BlockReaderValue) (row : List ℕ) where
  block_blank : is_blank row ≡ true → (spaces : List ℕ) (r : ScalarOutcomeValue) → BlockEnds (record s { blanks = s.blanks + 1; spaces = spaces }) r → Carries (s.down + s.blanks) row r
  block_blank h spaces (Whole e) (inl p) = inl (omega (arith, p.0), h)
  block_blank h spaces (Whole e) (inr p) = inr (inr (omega arith))
  block_blank h spaces (Refused fault down column) p = inl (ap (λ b. b || is_unclosed (of_scalar fault)) h)

  block_line : (content : ℕ) (r : ScalarOutcomeValue) → BlockEnds (behind_content s content row) r → Carries (s.down + s.blanks) row r
  block_line content (Whole e) (inl p) = inr (inl (omega (arith, p.0), ap (λ n. is_blank (drop n row)) p.1 ∙ blank_behind row))
  block_line content (Whole e) (inr p) = inr (inr (omega arith))
  block_line content (Refused fault down column) (inl p) = cc
  block_line content (Refused fault down column) (inr p) = inr (omega arith)

  content_facts : (content : ℕ) (bad : Option ℕ) → Facts (InBlock s) row (map_step InBlock (unless_bad bad (s.down + s.blanks + 1) 0 (GoesOn (behind_content s content row))))
  content_facts content None = (omega arith, block_line content, λ k. omega arith)
  content_facts content (Some i) = (refl, inl refl)

  -- the lines above whose spaces are too many are blank lines of the scalar
  begun_facts : (deep : Option (ℕ × ℕ)) (content : ℕ) → is_blank row ≡ false → ((place : ℕ × ℕ) → deep ≡ Some place → place.0 ≤ s.down + s.blanks)
      → Facts (InBlock s) row (map_step InBlock (unless_too_deep deep (with_content s content row)))
  begun_facts None content h within = content_facts content (first_bad row)
  begun_facts (Some place) content h within = (refl, inr (within place refl, h))

  either_facts : (b : Bool) (t : ScalarStepValue BlockReaderValue) → Facts (InBlock s) row (map_step InBlock t) → Facts (InBlock s) row (map_step InBlock (cond b t (EndedAbove (block_extent s))))
  either_facts true t h = h
  either_facts false t h = omega arith

  text_facts : (known : Option ℕ) → is_blank row ≡ false → ((place : ℕ × ℕ) → deeper (indentation row) 1 s.spaces ≡ Some place → place.0 ≤ s.down + s.blanks)
      → Facts (InBlock s) row (map_step InBlock (text_line known s row))
  text_facts None h within = either_facts (leb s.least (indentation row)) _ (begun_facts (deeper (indentation row) 1 s.spaces) (indentation row) h within)
  text_facts (Some content) h within = either_facts (leb content (indentation row)) _ (content_facts content (first_bad row))

  spaces_kept : (known : Option ℕ) → length s.spaces ≤ s.down + s.blanks → length (spaces_with known s.spaces row) ≤ s.down + (s.blanks + 1)
  spaces_kept None k = omega (arith, length-append s.spaces (indentation row ∷ []))
  spaces_kept (Some content) k = omega arith

  block_facts : (blank marker : Bool) → is_blank row ≡ blank → ((place : ℕ × ℕ) → deeper (indentation row) 1 s.spaces ≡ Some place → place.0 ≤ s.down + s.blanks)
      → Facts (InBlock s) row (map_step InBlock
      (cond blank (GoesOn (record s { blanks = s.blanks + 1; spaces = spaces_with s.content s.spaces row })) (cond marker (EndedAbove (block_extent s)) (text_line s.content s row))))
  block_facts true marker h within = (omega arith, block_blank h (spaces_with s.content s.spaces row), λ k. spaces_kept s.content k)
  block_facts false true h within = omega arith
  block_facts false false h within = text_facts s.content h within

deeper_within : (column place : ℕ) (spaces : List ℕ) (found : ℕ × ℕ) → deeper column place spaces ≡ Some found → found.0 + 1 ≤ place + length spaces
deeper_within column place [] found h = cc
deeper_within column place (n ∷ ns) found h = by_case (ltb column n) h (deeper_within column (place + 1) ns found)
  where
    by_case : (b : Bool) → cond b (Some (place, n)) (deeper column (place + 1) ns) ≡ Some found → (deeper column (place + 1) ns ≡ Some found → found.0 + 1 ≤ place + 1 + length ns) → found.0 + 1 ≤ place + length (n ∷ ns)
    by_case true h ih = let e : (place, n) ≡ found = cc in let e0 : place ≡ found.0 = ap (λ (p : ℕ × ℕ). p.0) e in omega arith
    by_case false h ih = let le = ih h in omega arith

pub facts : (m : ScalarReaderValue) (row : List ℕ) → KeepsSpaces m → Facts m row (reader_step m row)
facts (InPlain s) row k = plain_facts s row (is_blank row) (continues s.flow s.least row) refl
facts (InQuoted s) row k =
    quoted_facts s row (is_marker row) (is_blank row) _ (not_open s.double 0 (with_break s).value (length (with_break s).value) 0 (without_front row))
facts (InBlock s) row k =
    block_facts s row (is_blank row) (is_marker row) refl (λ place h. let le : place.0 + 1 ≤ 1 + length s.spaces = deeper_within (indentation row) 1 s.spaces place h in omega arith)
