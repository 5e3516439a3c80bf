use Rattle.std.proofs.Common.{codes}
use Rattle.yl_formats.proofs.Pieces.{github_pieces}
use Rattle.yl_formats.proofs.github.parts_of.Goals as goal

pub returns : goal.returns
returns c =
    github_pieces (codes "::") (codes " file=") (codes ",line=") (codes ",col=") (codes ":") (codes " ") (codes "\n") _ _ _ _ _ _ _ _ _ _ _ _ c.name_between-rule.result.before.now c.name_between-rule.result.name.now c.name_between-rule.result.after.now _ c.as_bytes-2.ensures.value c.as_bytes-line.ensures.value c.as_bytes-column.ensures.value
    c.as_bytes.ensures.value c.as_bytes-3.ensures.value c.mark_of-mark.ensures c.name_between-rule.ensures
