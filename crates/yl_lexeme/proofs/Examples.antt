-- Worked rows: open columns, and the directive of YAML 1.2.
use Rattle.std.specs.Prelude.{◌≡◌, ℕ, refl, Bool, true, false, List, [], ◌∷◌, ◌++◌, Option, None, Some, codes}
use Rattle.yl_lexeme.specs.declared.lexeme.Kind.{Kind}
use Rattle.yl_lexeme.specs.declared.lexeme.Kind.TheVariants.{Directive, Entry, Value, Scalar, DocStart}
use Rattle.yl_lexeme.specs.declared.lexeme.Style.TheVariants.{Plain}
use Rattle.yl_lexeme.specs.Past.{PastLexeme}
use Rattle.yl_lexeme.specs.Columns.{is_open}
use Rattle.yl_lexeme.specs.Lexeme.{LexemeValue}
use Rattle.yl_lexeme.specs.Version.{is_yaml_1_2}

abbrev lexeme : Kind → ℕ → Bool → Option ℕ → PastLexeme
lexeme kind column first key = record { kind = kind; column = column; first = first; flow = false; begins = true; key = key }

-- `- k: v`: the columns of the entry and of the key are open
abbrev entry : List PastLexeme
entry = lexeme (Scalar Plain) 5 false None ∷ lexeme Value 3 false (Some 2) ∷ lexeme (Scalar Plain) 2 false None ∷ lexeme Entry 0 true None ∷ []

pub both_open : is_open 0 entry ≡ true
both_open = refl

pub key_open : is_open 2 entry ≡ true
key_open = refl

pub no_other : is_open 3 entry ≡ false
no_other = refl

-- and then `-` at the start of a line: the key's column is closed
pub closed : is_open 2 (lexeme Entry 0 true None ∷ entry) ≡ false
closed = refl

pub still_open : is_open 0 (lexeme Entry 0 true None ∷ entry) ≡ true
still_open = refl

-- and then `---`
pub marked : is_open 0 (lexeme DocStart 0 true None ∷ entry) ≡ false
marked = refl

-- ---- the directive of YAML 1.2

abbrev of_text : Kind → List ℕ → LexemeValue
of_text kind text = record { kind = kind; start = record { line = 0; col = 0 }; end = record { line = 0; col = 9 }; value = text }

abbrev directive : List ℕ → Bool
directive text = is_yaml_1_2 (of_text Directive text)

pub version_1_2 : directive (codes "%YAML 1.2") ≡ true
version_1_2 = refl

-- a tab and two spaces between the words
pub more_white_space : directive (codes "%YAML" ++ (9 ∷ codes "  1.2")) ≡ true
more_white_space = refl

pub version_1_1 : directive (codes "%YAML 1.1") ≡ false
version_1_1 = refl

pub third_word : directive (codes "%YAML 1.2 x") ≡ false
third_word = refl

pub longer_number : directive (codes "%YAML 1.20") ≡ false
longer_number = refl

pub small_letters : directive (codes "%yaml 1.2") ≡ false
small_letters = refl

pub one_word : directive (codes "%YAML1.2") ≡ false
one_word = refl

pub first_word_alone : directive (codes "%YAML") ≡ false
first_word_alone = refl

pub no_directive : is_yaml_1_2 (of_text (Scalar Plain) (codes "%YAML 1.2")) ≡ false
no_directive = refl
