-- Bridge: plain scalars, read line by line: YAML 1.2.2, 7.3.3 and 6.5.
use Rattle.std.specs.Prelude.{ℕ, Bool, true, false, if◌then◌else◌, List, ◌++◌, ◌+◌, length, None}
use Rattle.std.specs.List.{prefix_len}
use Rattle.yl_text.specs.Character.{is_white, is_blank, without_front}
use Rattle.yl_scalar.specs.Allowed.{first_bad}
use Rattle.yl_scalar.specs.Reading.{Extent, ScalarOutcomeValue, Whole, ScalarStepValue, GoesOn, EndsIn, EndedAbove, outcome_of_step, outcome_of_lines, unless_bad}
use Rattle.yl_scalar.specs.Folding.{joint}
use Rattle.yl_scalar.specs.Plain.{part, reaches_end, continues}

-- a scalar that may continue: whether it is in a flow collection, the least indentation of its
-- lines below, the place at which it ends so far, the number of blank lines since, and its value so
-- far
pub record PlainReaderValue : Type 0 where
  pub flow : Bool
  pub least : ℕ
  pub down : ℕ
  pub column : ℕ
  pub blanks : ℕ
  pub value : List ℕ

abbrev pub plain_extent : PlainReaderValue → Extent
plain_extent s = record { down = s.down; column = s.column; value = s.value }

-- the scalar after a line whose end it reaches or not
abbrev pub plain_step_behind : Bool → PlainReaderValue → ScalarStepValue PlainReaderValue
plain_step_behind reaches s = if reaches then GoesOn s else EndsIn (plain_extent s)

-- the scalar's part of its first line, where the scalar begins at the column `at`
abbrev pub plain_begin : Bool → ℕ → ℕ → List ℕ → ScalarStepValue PlainReaderValue
plain_begin flow least at text =
    unless_bad (first_bad (part flow false text)) 0 at
    (plain_step_behind (reaches_end flow false text)
    (record { flow = flow; least = least; down = 0; column = at + length (part flow false text); blanks = 0; value = part flow false text }))

-- the scalar with a line that continues it, below the blank ones
abbrev pub with_line : PlainReaderValue → List ℕ → PlainReaderValue
with_line s line = record {
  flow = s.flow;
  least = s.least;
  down = s.down + s.blanks + 1;
  column = prefix_len is_white line + length (part s.flow true (without_front line));
  blanks = 0;
  value = s.value ++ joint None s.blanks ++ part s.flow true (without_front line);
}

abbrev pub plain_step : PlainReaderValue → List ℕ → ScalarStepValue PlainReaderValue
plain_step s line =
    if is_blank line then GoesOn (record s { blanks = s.blanks + 1 })
    else if continues s.flow s.least line
    then unless_bad (first_bad (part s.flow true (without_front line))) (s.down + s.blanks + 1) (prefix_len is_white line)
    (plain_step_behind (reaches_end s.flow true (without_front line)) (with_line s line))
    else EndedAbove (plain_extent s)

-- a text may end after it
abbrev pub plain_finish : PlainReaderValue → ScalarOutcomeValue
plain_finish s = Whole (plain_extent s)

-- the scalar that begins at the column `at` of its first line, with the lines below
abbrev pub plain : Bool → ℕ → ℕ → List ℕ → List (List ℕ) → ScalarOutcomeValue
plain flow least at text lines = outcome_of_step (λ s. outcome_of_lines plain_step plain_finish s lines) (plain_begin flow least at text)
