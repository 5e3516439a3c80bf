use Rattle.std.proofs.Common.{ℕ, List, [], ◌∷◌}
use Rattle.std.proofs.lemmas.Result.{IfOk-weaker}
use Rattle.yl_scalar.specs.Reader.{step_value, block_reader_value}
use Rattle.yl_scalar.specs.Block.{block_begin}
use Rattle.yl_row.specs.ScalarReader.{InBlock}
use Rattle.yl_row.specs.Begins.{BeginsAt}
use Rattle.yl_row.specs.Beginning.{BeginningRests}
use Rattle.yl_row.proofs.Beginnings.{block_begins, line_begins}
use Rattle.yl_row.proofs.found.block_found.Goals as goal

pub returns-clause-rests : goal.returns-clause-rests
returns-clause-rests g c =
    IfOk-weaker c.begun.result
    (λ s. (text : List ℕ) → BeginsAt c.args.at text (step_value c.begin-reader.result.1 [] (InBlock (block_reader_value c.begin-reader.result.0))) → BeginningRests c.args.at text s)
    (λ s. (first : ℕ) → BeginningRests c.args.at (first ∷ c.args.rest.now) s)
    (λ s h first. h (first ∷ c.args.rest.now)
    (line_begins InBlock c.args.at (first ∷ c.args.rest.now) c.begin-reader.result.1 [] (block_reader_value c.begin-reader.result.0) (block_begin c.args.least c.args.at c.args.rest.now)
    c.begin-reader.ensures.line (block_begins c.args.least c.args.at first c.args.rest.now)))
    c.begun.ensures.rests
