use Rattle.std.proofs.Common.{◌≡◌, ◌<◌, ◌≤◌, ◌-◌, ◌^◌, ℕ, List, length, All, sym, subst}
use Rattle.std.specs.Str.{chars}
use Rattle.yl_text.specs.Bounds.{AreFew, IsShort}
use Rattle.yl_text.specs.Lines.{RowValue, IsLines}
use Rattle.yl_text.proofs.Fitting.{lines_are_few, lines_are_short}
use Rattle.yl_scan.specs.Step.{characters_of}
use Rattle.yl_config.specs.TextReading.{reading_of}
use Rattle.yl_config.specs.Answered.{settings_answer}
use Rattle.yl_config.specs.Outcome.{Says}
use Rattle.yl_config.proofs.Saying.{are_lines, no_utf8, said_of_rows}
use Rattle.yl_config.proofs.config.Config.read.Goals as goal

pub returns-in-Err-NotUtf8 : goal.returns-in-Err-NotUtf8
returns-in-Err-NotUtf8 g c =
    (c.if-bytes-gt-MAX_BYTES.false, no_utf8 c.args.bytes.now c.in-Err-NotUtf8.field-0-0 (rw c.in-Err-NotUtf8.field-0-is at c.in-Err-NotUtf8.ensures.text))

pub judge_rows-requires-clause-few : goal.judge_rows-requires-clause-few
judge_rows-requires-clause-few g c =
    let P : List RowValue → Type 0 = λ ps. AreFew ps in
    subst P (sym c.deref.ensures.value) (lines_are_few c.in-Ok.rows.items (are_lines c.args.bytes.now c.in-Ok.rows.items c.if-bytes-gt-MAX_BYTES.false c.in-Ok.ensures.lines))

pub judge_rows-requires-clause-fits : goal.judge_rows-requires-clause-fits
judge_rows-requires-clause-fits g c =
    let P : List RowValue → Type 0 = λ ps. All IsShort ps in
    subst P (sym c.deref.ensures.value) (lines_are_short c.in-Ok.rows.items (are_lines c.args.bytes.now c.in-Ok.rows.items c.if-bytes-gt-MAX_BYTES.false c.in-Ok.ensures.lines))

pub returns-in-Ok-judge_rows : goal.returns-in-Ok-judge_rows
returns-in-Ok-judge_rows g c =
    let P : List RowValue → Type 0 = λ ps. Says (reading_of (characters_of ps)) (settings_answer c.in-Ok-judge_rows.answer) in
    said_of_rows c.args.bytes.now c.in-Ok.rows.items (settings_answer c.in-Ok-judge_rows.answer) c.in-Ok.ensures.text c.in-Ok.ensures.lines
    (subst P c.deref.ensures.value c.in-Ok-judge_rows.ensures)
