-- Meaning: which comments are addressed to the linter.
use Rattle.std.specs.Prelude.{Bool, ◌==◌, codes}
use Rattle.std.specs.List.{starts_with}
use Rattle.yl_lexeme.specs.Lexeme.{PlacedCommentValue}

-- the comment begins as each comment does that silences a rule
abbrev pub is_addressed : PlacedCommentValue → Bool
is_addressed c = starts_with (λ a b. a == b) c.text (codes "# yamllint ")
