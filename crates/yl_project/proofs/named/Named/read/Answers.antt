use Rattle.std.proofs.Common.{◌≡◌, List, All, sym, subst}
use Rattle.yl_text.specs.Bounds.{AreFew, IsShort}
use Rattle.yl_text.specs.Lines.{RowValue}
use Rattle.yl_text.proofs.Fitting.{lines_are_few, lines_are_short}
use Rattle.yl_scan.specs.Step.{characters_of}
use Rattle.yl_config.specs.TextReading.{reading_of}
use Rattle.yl_config.proofs.Saying.{are_lines, no_utf8}
use Rattle.yl_project.specs.Outcome.{Says, naming}
use Rattle.yl_project.proofs.Saying.{told_of_rows}
use Rattle.yl_project.proofs.named.Named.read.Goals as goal

pub returns-in-Err-NotUtf8 : goal.returns-in-Err-NotUtf8
returns-in-Err-NotUtf8 g c =
    (c.if-bytes-gt-MAX_BYTES.false, no_utf8 c.args.bytes.now c.in-Err-NotUtf8.field-0-0 (rw c.in-Err-NotUtf8.field-0-is at c.in-Err-NotUtf8.ensures.text))

pub named_rows-requires-clause-few : goal.named_rows-requires-clause-few
named_rows-requires-clause-few g c =
    let P : List RowValue → Type 0 = λ ps. AreFew ps in
    subst P (sym c.deref.ensures.value) (lines_are_few c.in-Ok.rows.items (are_lines c.args.bytes.now c.in-Ok.rows.items c.if-bytes-gt-MAX_BYTES.false c.in-Ok.ensures.lines))

pub named_rows-requires-clause-fits : goal.named_rows-requires-clause-fits
named_rows-requires-clause-fits g c =
    let P : List RowValue → Type 0 = λ ps. All IsShort ps in
    subst P (sym c.deref.ensures.value) (lines_are_short c.in-Ok.rows.items (are_lines c.args.bytes.now c.in-Ok.rows.items c.if-bytes-gt-MAX_BYTES.false c.in-Ok.ensures.lines))

pub returns-in-Ok-named_rows : goal.returns-in-Ok-named_rows
returns-in-Ok-named_rows g c =
    let judge = naming in
    let P : List RowValue → Type 0 = λ ps. Says (judge ps) (reading_of (characters_of ps)) c.in-Ok-named_rows.answer in
    told_of_rows judge c.args.bytes.now c.in-Ok.rows.items c.in-Ok-named_rows.answer c.in-Ok.ensures.text c.in-Ok.ensures.lines
    (subst P c.deref.ensures.value c.in-Ok-named_rows.ensures)
