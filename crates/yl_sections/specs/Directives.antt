-- Bridge: lexemes that are directives.
use Rattle.std.specs.Prelude.{Bool, true, ◌&&◌, List, [], ◌∷◌}
use Rattle.yl_lexeme.specs.Directives.{is_directive}
use Rattle.yl_lexeme.specs.Lexeme.{LexemeValue}

-- all lexemes are directives
abbrev pub are_directives : List LexemeValue → Bool
are_directives [] = true
are_directives (x ∷ xs) = is_directive x.kind && are_directives xs
