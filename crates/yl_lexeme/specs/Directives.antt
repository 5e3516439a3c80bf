-- Meaning: where directives may be among the lexemes of a text: YAML 1.2.2, 6.8, 9.1 and 9.2.
use Rattle.std.specs.Prelude.{Bool, true, false, not, ◌&&◌, ◌||◌, List, [], ◌∷◌, Option, Some, None}
use Rattle.yl_lexeme.specs.declared.lexeme.Kind.{Kind}
use Rattle.yl_lexeme.specs.declared.lexeme.Kind.TheVariants.{Directive, DocEnd}

abbrev pub is_directive : Kind → Bool
is_directive Directive = true
is_directive _ = false

-- whether a directive may follow this last lexeme: none, the end of a document, or another
-- directive
abbrev pub is_directive_place : Option Kind → Bool
is_directive_place None = true
is_directive_place (Some DocEnd) = true
is_directive_place (Some Directive) = true
is_directive_place (Some _) = false

-- whether each directive among lexemes of these kinds is in such a place; `last` is the kind of the
-- lexeme before them, if there is one
abbrev pub directives_in_place : Option Kind → List Kind → Bool
directives_in_place last [] = true
directives_in_place last (k ∷ ks) = (not (is_directive k) || is_directive_place last) && directives_in_place (Some k) ks
