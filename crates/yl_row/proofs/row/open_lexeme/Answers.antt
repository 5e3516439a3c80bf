use Rattle.yl_lexeme.specs.Surroundings.{surroundings_value}
use Rattle.yl_row.specs.Reader.{scalar_reader_value}
use Rattle.yl_row.proofs.Took.{open_goes}
use Rattle.yl_row.proofs.row.open_lexeme.Goals as goal

pub returns-in_ok-pass-in-None-clause-read : goal.returns-in_ok-pass-in-None-clause-read
returns-in_ok-pass-in-None-clause-read g c = λ rows tab more same.
    open_goes tab c.args.first c.args.at (surroundings_value c.args.surroundings.now) more c.args.before same rows c.args.style (scalar_reader_value c.args.reader) (surroundings_value c.pass.new.self)
    c.in_ok-pass-in-None.ensures c.in-None.is
