use Rattle.std.proofs.Common.{◌∷◌, ◌++◌, codes}
use Rattle.yl_formats.proofs.Pieces.{colored_pieces}
use Rattle.yl_formats.proofs.colored.parts_of.Goals as goal

pub returns : goal.returns
returns c =
    colored_pieces (codes "  " ++ 27 ∷ codes "[2m") (codes ":") (27 ∷ codes "[0m") (codes "\n") 20 38 _ _ _ _ _ _ _ _ _ _ c.name_between-rule.result.before.now c.name_between-rule.result.name.now c.name_between-rule.result.after.now _ _ _ c.as_bytes-line.ensures.value c.as_bytes-column.ensures.value c.colored_name-level.ensures
    c.as_bytes.ensures.value c.mark_of-mark.ensures c.name_between-rule.ensures c.spaces_after-before_level.ensures c.spaces_after-before_message.ensures
