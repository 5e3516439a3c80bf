-- Meaning: the directive of a document of YAML 1.2: YAML 1.2.2, 6.8.1.
use Rattle.std.specs.Prelude.{ℕ, Bool, true, false, ◌&&◌, ◌||◌, List, [], ◌∷◌, codes, take, drop, bytes_eq}
use Rattle.yl_text.specs.Character.{is_white}
use Rattle.yl_lexeme.specs.Lexeme.{LexemeValue}
use Rattle.yl_lexeme.specs.Directives.{is_directive}

-- whether the text is one or more characters of white space and then this word
abbrev pub is_behind_white : List ℕ → List ℕ → Bool
is_behind_white word [] = false
is_behind_white word (c ∷ cs) = is_white c && (bytes_eq cs word || is_behind_white word cs)

-- whether it is an ns-yaml-directive of the version 1.2 ([86], [87]): the words `%YAML` and `1.2`
-- with white space between them
abbrev pub is_yaml_1_2 : LexemeValue → Bool
is_yaml_1_2 x =
    is_directive x.kind && (bytes_eq (take 5 x.value) (codes "%YAML") && is_behind_white (codes "1.2") (drop 5 x.value))
