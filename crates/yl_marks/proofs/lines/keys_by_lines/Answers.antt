use Rattle.std.proofs.Common.{map}
use Rattle.yl_marks.specs.Keys.{token_of}
use Rattle.yl_marks.proofs.FactsByLines.{told_by_lines}
use Rattle.yl_marks.proofs.lines.keys_by_lines.Goals as goal

pub returns : goal.returns
returns c = λ xs. told_by_lines (map token_of xs)
