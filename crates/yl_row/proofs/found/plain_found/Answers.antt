use Rattle.std.proofs.Common.{ℕ, List}
use Rattle.std.proofs.lemmas.Result.{IfOk-weaker}
use Rattle.yl_scalar.specs.Reader.{step_value, plain_reader_value}
use Rattle.yl_scalar.specs.PlainSteps.{plain_begin}
use Rattle.yl_row.specs.ScalarReader.{InPlain}
use Rattle.yl_row.specs.Begins.{BeginsAt}
use Rattle.yl_row.specs.Beginning.{BeginningRests}
use Rattle.yl_row.proofs.Beginnings.{plain_begins, line_begins}
use Rattle.yl_row.proofs.found.plain_found.Goals as goal

pub returns-clause-rests : goal.returns-clause-rests
returns-clause-rests g c =
    IfOk-weaker c.begun.result
    (λ s. (text : List ℕ) → BeginsAt c.args.at text (step_value c.in_ok-reader.line (plain_reader_value c.in_ok-reader.reader).value (InPlain (plain_reader_value c.in_ok-reader.reader))) → BeginningRests c.args.at text s)
    (λ s. BeginningRests c.args.at c.args.text.now s)
    (λ s h. h c.args.text.now
    (line_begins InPlain c.args.at c.args.text.now c.in_ok-reader.line (plain_reader_value c.in_ok-reader.reader).value (plain_reader_value c.in_ok-reader.reader) (plain_begin c.args.flow c.args.least c.args.at c.args.text.now)
    c.in_ok-reader.ensures.line (plain_begins c.args.flow c.args.least c.args.at c.args.text.now)))
    c.begun.ensures.rests
