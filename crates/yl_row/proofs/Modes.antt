-- Scalars of all styles are read alike.
use Rattle.std.proofs.Common.{◌≡◌, ℕ, ◌+◌, ◌-◌, ◌≤◌, ◌<◌, ◌^◌, Bool, true, false, not, ◌&&◌, cond, List, [], ◌∷◌, ◌++◌, length, take, length-take, Option, Some, None, refl, ap, sym, ◌∙◌, eqb, ltb, arith}
use Rattle.std.specs.Prelude.{get_or}
use Rattle.std.specs.Option.{option_map_or}
use Rattle.yl_text.specs.Character.{is_blank, without_end}
use Rattle.yl_scalar.specs.declared.answer.ScalarFault.TheVariants.{BadEscape, BadHeader}
use Rattle.yl_scalar.specs.declared.answer.ScalarStep.{ScalarStep}
use Rattle.yl_scalar.specs.declared.answer.ScalarStep.TheVariants as line
use Rattle.yl_scalar.specs.Reading.{ScalarOutcomeValue, ScalarStepValue, GoesOn, EndsIn, EndedAbove, Fails, outcome_of_step, outcome_of_lines, unless_bad}
use Rattle.yl_scalar.specs.Reader.{step_value}
use Rattle.yl_scalar.specs.Allowed.{first_bad, is_quoted_character}
use Rattle.yl_scalar.specs.Escape.{escape}
use Rattle.yl_scalar.specs.Plain.{stop, part, reaches_end}
use Rattle.yl_scalar.specs.PlainSteps.{PlainReaderValue, plain_begin, plain_step, plain_finish, plain_step_behind}
use Rattle.yl_scalar.specs.PlainLines.{plain_scalar}
use Rattle.yl_scalar.specs.Quoted.{Stretch, Closes, Breaks, Faulty, stretch, quote}
use Rattle.yl_scalar.specs.QuotedSteps.{QuotedReaderValue, quoted_begin, quoted_step, quoted_finish, quoted, quoted_step_behind, quoted_start}
use Rattle.yl_scalar.specs.Header.{indicators, misfit}
use Rattle.yl_scalar.specs.Block.{BlockReaderValue, block_begin, block_step, block_finish, header_end, header_read}
use Rattle.yl_scalar.specs.BlockLines.{block_scalar}
use Rattle.yl_scalar.proofs.PlainRead.{plain_law}
use Rattle.yl_scalar.proofs.BlockRead.{block_law}
use Rattle.yl_row.specs.ScalarReader.{ScalarReaderValue, InPlain, InQuoted, InBlock, map_step, reader_step, reader_finish}
use Rattle.yl_row.specs.Beginning.{EndsHere}

-- an answer says the same of a reader of any style
pub said_by_style : {S T : Type 0} (f : S → T) (l : ScalarStep) (value : List ℕ) (s : S) → step_value l value (f s) ≡ map_step f (step_value l value s)
said_by_style f line.GoesOn value s = refl
said_by_style f (line.EndsIn place) value s = refl
said_by_style f (line.EndedAbove place) value s = refl
said_by_style f (line.Fails fault place) value s = refl

module _ {S : Type 0} (f : S → ScalarReaderValue) (step : S → List ℕ → ScalarStepValue S) (finish : S → ScalarOutcomeValue)
    (steps : (s : S) (row : List ℕ) → reader_step (f s) row ≡ map_step f (step s row)) (ends : (s : S) → reader_finish (f s) ≡ finish s) where
  settled_with : (rows : List (List ℕ)) (t : ScalarStepValue S) → ((s : S) → outcome_of_lines reader_step reader_finish (f s) rows ≡ outcome_of_lines step finish s rows) →
      outcome_of_step (λ m. outcome_of_lines reader_step reader_finish m rows) (map_step f t) ≡ outcome_of_step (λ s. outcome_of_lines step finish s rows) t
  settled_with rows (GoesOn s) h = h s
  settled_with rows (EndsIn e) h = refl
  settled_with rows (EndedAbove e) h = refl
  settled_with rows (Fails fault down column) h = refl

  pub read_alike : (s : S) (rows : List (List ℕ)) → outcome_of_lines reader_step reader_finish (f s) rows ≡ outcome_of_lines step finish s rows
  read_alike s [] = ends s
  read_alike s (row ∷ rows) = ap (λ t. outcome_of_step (λ m. outcome_of_lines reader_step reader_finish m rows) t) (steps s row) ∙ settled_with rows (step s row) (λ s. read_alike s rows)

  settled_alike : (rows : List (List ℕ)) (t : ScalarStepValue S) → outcome_of_step (λ m. outcome_of_lines reader_step reader_finish m rows) (map_step f t) ≡ outcome_of_step (λ s. outcome_of_lines step finish s rows) t
  settled_alike rows t = settled_with rows t (λ s. read_alike s rows)

pub plain_alike : (flow : Bool) (least at : ℕ) (text : List ℕ) (rows : List (List ℕ)) →
    plain_scalar flow least at text rows ≡ outcome_of_step (λ m. outcome_of_lines reader_step reader_finish m rows) (map_step InPlain (plain_begin flow least at text))
plain_alike flow least at text rows = sym (plain_law flow least at text rows) ∙ sym (settled_alike InPlain plain_step plain_finish (λ s row. refl) (λ s. refl) rows (plain_begin flow least at text))

pub quoted_alike : (double : Bool) (opening : ℕ) (text : List ℕ) (rows : List (List ℕ)) →
    quoted double opening text rows ≡ outcome_of_step (λ m. outcome_of_lines reader_step reader_finish m rows) (map_step InQuoted (quoted_begin double opening text))
quoted_alike double opening text rows = sym (settled_alike InQuoted quoted_step quoted_finish (λ s row. refl) (λ s. refl) rows (quoted_begin double opening text))

pub block_alike : (least at : ℕ) (header : List ℕ) (rows : List (List ℕ)) →
    block_scalar least at header rows ≡ outcome_of_step (λ m. outcome_of_lines reader_step reader_finish m rows) (map_step InBlock (block_begin least at header))
block_alike least at header rows = sym (block_law least at header rows) ∙ sym (settled_alike InBlock block_step block_finish (λ s row. refl) (λ s. refl) rows (block_begin least at header))

-- ---- what ends in its first row ends no further down

pub ends_by : {S T : Type 0} (f : S → T) (t : ScalarStepValue S) → EndsHere t → EndsHere (map_step f t)
ends_by f (GoesOn s) h = tt
ends_by f (EndsIn e) h = h
ends_by f (EndedAbove e) h = h
ends_by f (Fails fault down column) h = tt

unless_ends : {S : Type 0} (bad : Option ℕ) (down column : ℕ) (t : ScalarStepValue S) → EndsHere t → EndsHere (unless_bad bad down column t)
unless_ends None down column t h = h
unless_ends (Some i) down column t h = tt

taken_ends : (reaches : Bool) (s : PlainReaderValue) → s.down ≡ 0 → s.column < 2 ^ 32 → EndsHere (plain_step_behind reaches s)
taken_ends true s h lt = tt
taken_ends false s h lt = (h, lt)

without_end_len : (xs : List ℕ) → length (without_end xs) ≤ length xs
without_end_len [] = omega arith
without_end_len (x ∷ xs) = by_case (is_blank (x ∷ xs)) (without_end_len xs)
  where
    by_case : (b : Bool) → length (without_end xs) ≤ length xs → length (cond b [] (x ∷ without_end xs)) ≤ length (x ∷ xs)
    by_case true h = omega arith
    by_case false h = omega arith

pub part_len : (flow bs : Bool) (text : List ℕ) → length (part flow bs text) ≤ length text
part_len flow bs text = omega (arith, without_end_len (take (stop flow bs text) text), length-take (stop flow bs text) text)

pub plain_ends : (flow : Bool) (least at : ℕ) (text : List ℕ) → at + length text < 2 ^ 31 → EndsHere (plain_begin flow least at text)
plain_ends flow least at text lt =
    let n = length (part flow false text) in
    let within : at + length (part flow false text) < 2 ^ 32 = omega (arith, part_len flow false text) in
    unless_ends (first_bad (part flow false text)) 0 at _ (taken_ends (reaches_end flow false text) _ refl within)

-- ---- what a line has of a quoted scalar ends in it

abbrev pub ClosesBy : ℕ → Stretch → Type 0
ClosesBy n (Closes text place) = place ≤ n
ClosesBy n (Breaks text backslash) = Unit {0}
ClosesBy n (Faulty fault place) = Unit {0}

closes_if : (n : ℕ) (b : Bool) (x y : Stretch) → ClosesBy n x → ClosesBy n y → ClosesBy n (cond b x y)
closes_if n true x y p q = p
closes_if n false x y p q = q

closes_later : (m n : ℕ) (t : Stretch) → m ≡ n → ClosesBy m t → ClosesBy n t
closes_later m n (Closes text place) e h = omega arith
closes_later m n (Breaks text backslash) e h = tt
closes_later m n (Faulty fault place) e h = tt

escape_closes : (n place : ℕ) (e : Option (ℕ × ℕ)) (more : ℕ × ℕ → Stretch) → ((e : ℕ × ℕ) → ClosesBy n (more e)) → ClosesBy n (option_map_or more e (Faulty BadEscape place))
escape_closes n place None more h = tt
escape_closes n place (Some e) more h = h e

pub stretch_closes : (double : Bool) (skip : ℕ) (text : List ℕ) (kept at : ℕ) (cs : List ℕ) → ClosesBy (at + length cs) (stretch double skip text kept at cs)
stretch_closes double skip text kept at [] = tt
stretch_closes double skip text kept at (c ∷ cs) =
    let n = at + length (c ∷ cs) in
    let same : at + 1 + length cs ≡ at + length (c ∷ cs) = omega arith in
    let next : (skip : ℕ) (text : List ℕ) (kept : ℕ) → ClosesBy (at + length (c ∷ cs)) (stretch double skip text kept (at + 1) cs) =
    λ skip text kept. closes_later (at + 1 + length cs) (at + length (c ∷ cs)) (stretch double skip text kept (at + 1) cs) same (stretch_closes double skip text kept (at + 1) cs) in
    closes_if (at + length (c ∷ cs)) (ltb 0 skip) _ _ (next (skip - 1) text kept)
    (closes_if (at + length (c ∷ cs)) (eqb c (quote double)) _ _
    (closes_if (at + length (c ∷ cs)) (not double && eqb (get_or cs 0 0) 0x27) _ _ (next 1 (text ++ c ∷ []) (length text + 1)) (omega arith))
    (closes_if (at + length (c ∷ cs)) (double && eqb c 0x5C) _ _
    (closes_if (at + length (c ∷ cs)) (eqb (length cs) 0) _ _ tt
    (escape_closes (at + length (c ∷ cs)) at (escape cs) _ (λ e. next (e.1 + 1) (text ++ e.0 ∷ []) (length text + 1))))
    (closes_if (at + length (c ∷ cs)) (is_quoted_character c) _ _ (next 0 (text ++ c ∷ []) _) tt)))

took_ends : (s : QuotedReaderValue) (column n : ℕ) (t : Stretch) → s.down ≡ 0 → column + n < 2 ^ 32 → ClosesBy n t → EndsHere (quoted_step_behind s column t)
took_ends s column n (Closes text place) h lt p = (h, omega arith)
took_ends s column n (Breaks text backslash) h lt p = tt
took_ends s column n (Faulty fault place) h lt p = tt

pub quoted_ends : (double : Bool) (opening : ℕ) (text : List ℕ) → opening + length text < 2 ^ 31 → EndsHere (quoted_begin double opening text)
quoted_ends double opening text lt =
    took_ends (quoted_start double opening) (opening + 1) (0 + length text) (stretch double 0 [] 0 0 text) refl (omega arith) (stretch_closes double 0 [] 0 0 text)

header_ends : (least column : ℕ) (header : List ℕ) (bad : Option ℕ) → EndsHere (header_read least column header bad)
header_ends least column header None =
    unless_ends {S = BlockReaderValue} (first_bad header) 0 column (GoesOn (header_end least (indicators header).0 (column + length header))) tt
header_ends least column header (Some place) =
    unless_ends {S = BlockReaderValue} (first_bad (take (place + 1) header)) 0 column (Fails BadHeader 0 (column + place)) tt

pub block_ends : (least at : ℕ) (header : List ℕ) → EndsHere (block_begin least at header)
block_ends least at header = header_ends least (at + 1) header (misfit header)
