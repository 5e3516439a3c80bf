-- Meaning: whether a document declares itself to be one of YAML 1.2 (YAML 1.2.2, 6.8.1 and 9.1.2).
use Rattle.std.specs.Prelude.{Bool, false, ◌&&◌, ◌||◌, List, [], ◌∷◌}
use Rattle.yl_lexeme.specs.Lexeme.{LexemeValue}
use Rattle.yl_lexeme.specs.Directives.{is_directive}
use Rattle.yl_lexeme.specs.Version.{is_yaml_1_2}

-- one of the directives at the beginning of the document declares it to be one of YAML 1.2
abbrev pub is_1_2_document : List LexemeValue → Bool
is_1_2_document [] = false
is_1_2_document (x ∷ xs) = is_directive x.kind && (is_yaml_1_2 x || is_1_2_document xs)
