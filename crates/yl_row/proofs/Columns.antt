-- Where a scalar ends lies within the rows that were read.
use Rattle.std.proofs.Common.{◌≡◌, ℕ, ◌+◌, ◌≤◌, Bool, true, false, cond, List, [], ◌∷◌, length, Option, Some, None, refl, ap, arith, eqb, leb}
use Rattle.std.specs.List.{prefix_len}
use Rattle.yl_text.specs.Character.{is_white, is_blank, is_marker, indentation, without_front}
use Rattle.yl_scalar.specs.declared.answer.ScalarFault.TheVariants.{MarkerInQuote}
use Rattle.yl_scalar.specs.Reading.{Extent, Whole, ScalarStepValue, GoesOn, EndedAbove, Fails, unless_bad}
use Rattle.yl_scalar.specs.Allowed.{first_bad}
use Rattle.yl_scalar.specs.Plain.{part, reaches_end, continues}
use Rattle.yl_scalar.specs.PlainSteps.{PlainReaderValue, plain_extent, with_line, plain_step_behind}
use Rattle.yl_scalar.specs.Quoted.{Stretch, Closes, Breaks, Faulty, stretch}
use Rattle.yl_scalar.specs.QuotedSteps.{QuotedReaderValue, quoted_step_behind, with_break}
use Rattle.yl_scalar.specs.Block.{BlockReaderValue, block_extent, text_line, with_content, unless_too_deep, spaces_with}
use Rattle.yl_scalar.specs.BlockLines.{deeper}
use Rattle.yl_row.specs.ScalarReader.{ScalarReaderValue, InPlain, InQuoted, InBlock, map_step, reader_step, ColumnBy, StepBy}
use Rattle.yl_row.proofs.Modes.{part_len, ClosesBy, stretch_closes}

unless_by : {S : Type 0} (f : S → ScalarReaderValue) (n : ℕ) (bad : Option ℕ) (down column : ℕ) (t : ScalarStepValue S) → StepBy n (map_step f t) → StepBy n (map_step f (unless_bad bad down column t))
unless_by f n None down column t h = h
unless_by f n (Some i) down column t h = tt

front_len : (row : List ℕ) → prefix_len is_white row + length (without_front row) ≡ length row
front_len [] = refl
front_len (c ∷ cs) = by_case (is_white c) (front_len cs)
  where
    by_case : (b : Bool) → prefix_len is_white cs + length (without_front cs) ≡ length cs
        → cond b (1 + prefix_len is_white cs) 0 + length (cond b (without_front cs) (c ∷ cs)) ≡ length (c ∷ cs)
    by_case true ih = omega arith
    by_case false ih = omega arith

-- ---- plain

taken_by : (n : ℕ) (reaches : Bool) (s : PlainReaderValue) → s.column ≤ n → StepBy n (map_step InPlain (plain_step_behind reaches s))
taken_by n true s h = h
taken_by n false s h = h

line_by : (n : ℕ) (s : PlainReaderValue) (row : List ℕ) → length row ≤ n → (with_line s row).column ≤ n
line_by n s row le = omega (arith, front_len row, part_len s.flow true (without_front row))

module _ (n : ℕ) (s : PlainReaderValue) (row : List ℕ) where
  plain_by : (blank goes : Bool) → s.column ≤ n → length row ≤ n → StepBy n (map_step InPlain
      (cond blank (GoesOn (record s { blanks = s.blanks + 1 }))
      (cond goes (unless_bad (first_bad (part s.flow true (without_front row))) (s.down + s.blanks + 1) (prefix_len is_white row) (plain_step_behind (reaches_end s.flow true (without_front row)) (with_line s row)))
      (EndedAbove (plain_extent s)))))
  plain_by true goes h le = h
  plain_by false true h le =
      unless_by InPlain n (first_bad (part s.flow true (without_front row))) (s.down + s.blanks + 1) (prefix_len is_white row) (plain_step_behind (reaches_end s.flow true (without_front row)) (with_line s row))
      (taken_by n (reaches_end s.flow true (without_front row)) (with_line s row) (line_by n s row le))
  plain_by false false h le = h

-- ---- quoted

took_by : (n : ℕ) (s : QuotedReaderValue) (column k : ℕ) (t : Stretch) → column + k ≤ n → ClosesBy k t → StepBy n (map_step InQuoted (quoted_step_behind s column t))
took_by n s column k (Closes text place) le p = omega arith
took_by n s column k (Breaks text backslash) le p = tt
took_by n s column k (Faulty fault place) le p = tt

module _ (n : ℕ) (s : QuotedReaderValue) (row : List ℕ) where
  quoted_by : (marker blank : Bool) (t : Stretch) → length row ≤ n → ClosesBy (0 + length (without_front row)) t → StepBy n (map_step InQuoted
      (cond marker (Fails MarkerInQuote (s.down + s.blanks + 1) 0)
      (cond blank (GoesOn (record s { blanks = s.blanks + 1 })) (quoted_step_behind (with_break s) (prefix_len is_white row) t))))
  quoted_by true blank t le p = tt
  quoted_by false true t le p = tt
  quoted_by false false t le p = took_by n (with_break s) (prefix_len is_white row) (0 + length (without_front row)) t (omega (arith, front_len row)) p

-- ---- block

module _ (n : ℕ) (s : BlockReaderValue) (row : List ℕ) where
  content_by : (content : ℕ) → length row ≤ n → StepBy n (map_step InBlock (with_content s content row))
  content_by content le =
      unless_by InBlock n (first_bad row) (s.down + s.blanks + 1) 0
      (GoesOn (record { least = s.least; content = Some content; down = s.down + s.blanks + 1; column = length row; blanks = 0; spaces = s.spaces })) le

  begun_by : (deep : Option (ℕ × ℕ)) (t : ScalarStepValue BlockReaderValue) → StepBy n (map_step InBlock t) → StepBy n (map_step InBlock (unless_too_deep deep t))
  begun_by None t h = h
  begun_by (Some place) t h = tt

  either_by : (b : Bool) (t : ScalarStepValue BlockReaderValue) → s.column ≤ n → StepBy n (map_step InBlock t) → StepBy n (map_step InBlock (cond b t (EndedAbove (block_extent s))))
  either_by true t h p = p
  either_by false t h p = h

  text_by : (known : Option ℕ) → s.column ≤ n → length row ≤ n → StepBy n (map_step InBlock (text_line known s row))
  text_by None h le =
      either_by (leb s.least (indentation row)) (unless_too_deep (deeper (indentation row) 1 s.spaces) (with_content s (indentation row) row)) h
      (begun_by (deeper (indentation row) 1 s.spaces) (with_content s (indentation row) row) (content_by (indentation row) le))
  text_by (Some content) h le = either_by (leb content (indentation row)) (with_content s content row) h (content_by content le)

  block_by : (blank marker : Bool) → s.column ≤ n → length row ≤ n → StepBy n (map_step InBlock
      (cond blank (GoesOn (record s { blanks = s.blanks + 1; spaces = spaces_with s.content s.spaces row })) (cond marker (EndedAbove (block_extent s)) (text_line s.content s row))))
  block_by true marker h le = h
  block_by false true h le = h
  block_by false false h le = text_by s.content h le

-- ---- any style

pub step_by : (n : ℕ) (m : ScalarReaderValue) (row : List ℕ) → ColumnBy n m → length row ≤ n → StepBy n (reader_step m row)
step_by n (InPlain s) row h le = plain_by n s row (is_blank row) (continues s.flow s.least row) h le
step_by n (InQuoted s) row h le =
    quoted_by n s row (is_marker row) (is_blank row) (stretch s.double 0 (with_break s).value (length (with_break s).value) 0 (without_front row)) le
    (stretch_closes s.double 0 (with_break s).value (length (with_break s).value) 0 (without_front row))
step_by n (InBlock s) row h le = block_by n s row (is_blank row) (is_marker row) h le

extent_by : (n : ℕ) (a e : Extent) → a.column ≤ n → Whole a ≡ Whole e → e.column ≤ n
extent_by n a e h is = let same : a ≡ e = cc in let columns : a.column ≡ e.column = ap (λ (x : Extent). x.column) same in omega arith

pub by_more : (a b : ℕ) (m : ScalarReaderValue) → a ≤ b → ColumnBy a m → ColumnBy b m
by_more a b (InPlain s) le h = omega arith
by_more a b (InQuoted s) le h = tt
by_more a b (InBlock s) le h = omega arith
