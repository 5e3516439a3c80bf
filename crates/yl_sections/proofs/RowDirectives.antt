-- Whether all lexemes are directives, after a row.
use Rattle.std.proofs.Common.{◌≡◌, ℕ, Bool, true, false, ◌&&◌, List, [], ◌∷◌, map, refl, ◌∙◌}
use Rattle.yl_lexeme.specs.Directives.{is_directive}
use Rattle.yl_lexeme.specs.Lexeme.{LexemeValue}
use Rattle.yl_marks.specs.Keys.{lexeme_at_line}
use Rattle.yl_lexeme_rules.specs.LexemesAlike.{after_lexemes}
use Rattle.yl_lexeme_rules.specs.LexemesLeft.{LexemesRead, after_lexeme}
use Rattle.yl_sections.specs.Directives.{are_directives}

and_all : (a : Bool) → a ≡ (a && true)
and_all true = refl
and_all false = refl

and_assoc : (a b c : Bool) → ((a && b) && c) ≡ (a && (b && c))
and_assoc true b c = refl
and_assoc false b c = refl

pub directives_after : (line : ℕ) (r : LexemesRead) (xs : List LexemeValue) → (after_lexemes r (map (lexeme_at_line line) xs)).in_directives ≡ (r.in_directives && are_directives xs)
directives_after line r [] = and_all r.in_directives
directives_after line r (x ∷ xs) = directives_after line (after_lexeme r (lexeme_at_line line x)) xs ∙ and_assoc r.in_directives (is_directive x.kind) (are_directives xs)
