-- Meaning: where directives are among the lexemes of a text.
use Rattle.std.specs.Prelude.{◌≡◌, ℕ, true, List, map, None}
use Rattle.std.specs.List.{flat_map}
use Rattle.yl_lexeme.specs.declared.lexeme.Kind.{Kind}
use Rattle.yl_lexeme.specs.Directives.{directives_in_place}
use Rattle.yl_row.specs.Entries.{RowEntry, entries}

-- the kinds of the lexemes that begin in these rows
abbrev pub kinds_of : List RowEntry → List Kind
kinds_of es = flat_map (λ e. map (λ x. x.kind) e.lexemes) es

-- each directive of a text is its first lexeme, or directly follows the end of a document or
-- another directive
abbrev pub DirectivesStandInPlace : Type 0
DirectivesStandInPlace = (rows : List (List ℕ)) → directives_in_place None (kinds_of (entries rows)) ≡ true
