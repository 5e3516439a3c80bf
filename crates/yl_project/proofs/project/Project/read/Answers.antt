use Rattle.std.proofs.Common.{◌≡◌, List, All, sym, subst}
use Rattle.yl_text.specs.Bounds.{AreFew, IsShort}
use Rattle.yl_text.specs.Lines.{RowValue, lines_of}
use Rattle.yl_text.proofs.Fitting.{lines_are_few, lines_are_short}
use Rattle.yl_scan.specs.Step.{characters_of}
use Rattle.yl_config.specs.TextReading.{reading_of}
use Rattle.yl_config.proofs.Saying.{are_lines, no_utf8}
use Rattle.yl_project.specs.Answered.{project_answer, project_value}
use Rattle.yl_project.specs.Outcome.{Says, projecting}
use Rattle.yl_project.proofs.Saying.{told_of_rows}
use Rattle.yl_project.proofs.project.Project.read.Goals as goal

pub returns-in-Err-NotUtf8 : goal.returns-in-Err-NotUtf8
returns-in-Err-NotUtf8 g c =
    (c.if-bytes-gt-MAX_BYTES.false, no_utf8 c.args.bytes.now c.in-Err-NotUtf8.field-0-0 (rw c.in-Err-NotUtf8.field-0-is at c.in-Err-NotUtf8.ensures.text))

pub project_rows-requires-clause-few : goal.project_rows-requires-clause-few
project_rows-requires-clause-few g c =
    let P : List RowValue → Type 0 = λ ps. AreFew ps in
    subst P (sym c.deref.ensures.value) (lines_are_few c.in-Ok.rows.items (are_lines c.args.bytes.now c.in-Ok.rows.items c.if-bytes-gt-MAX_BYTES.false c.in-Ok.ensures.lines))

pub project_rows-requires-clause-fits : goal.project_rows-requires-clause-fits
project_rows-requires-clause-fits g c =
    let P : List RowValue → Type 0 = λ ps. All IsShort ps in
    subst P (sym c.deref.ensures.value) (lines_are_short c.in-Ok.rows.items (are_lines c.args.bytes.now c.in-Ok.rows.items c.if-bytes-gt-MAX_BYTES.false c.in-Ok.ensures.lines))

pub returns-in-Ok-project_rows : goal.returns-in-Ok-project_rows
returns-in-Ok-project_rows g c =
    let judge = projecting (project_value c.args.base) (lines_of c.args.ignore_lines.now) in
    let P : List RowValue → Type 0 = λ ps. Says (judge ps) (reading_of (characters_of ps)) (project_answer c.in-Ok-project_rows.answer) in
    told_of_rows judge c.args.bytes.now c.in-Ok.rows.items (project_answer c.in-Ok-project_rows.answer) c.in-Ok.ensures.text c.in-Ok.ensures.lines
    (subst P c.deref.ensures.value c.in-Ok-project_rows.ensures)
