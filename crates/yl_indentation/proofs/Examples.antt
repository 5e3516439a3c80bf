-- Short documents, what is expected in them and what the rule finds, computed.
use Rattle.std.specs.Prelude.{ℕ, ◌≡◌, refl, false, List, [], ◌∷◌, ◌++◌, codes}
use Rattle.std.specs.Fmt.{digits}
use Rattle.yl_text.specs.Finding.{FindingValue, one_finding}
use Rattle.yl_text.specs.declared.finding.RuleId.TheVariants.{Indentation}
use Rattle.yl_lexeme.specs.declared.lexeme.Style.TheVariants.{Plain}
use Rattle.yl_lexeme.specs.declared.lexeme.Kind.{Kind}
use Rattle.yl_lexeme.specs.declared.lexeme.Kind.TheVariants.{Entry, Value, Comma, SeqOpen, SeqClose, Scalar}
use Rattle.yl_marks.specs.declared.token.Token.{Token}
use Rattle.yl_marks.specs.Marks.{as_marked, symbols_of_tokens}
use Rattle.yl_indentation.specs.declared.fact.Expectation.{Expectation}
use Rattle.yl_indentation.specs.declared.fact.Expectation.TheVariants.{At, Beyond, EntryIn}
use Rattle.yl_indentation.specs.declared.fact.Fact.{Fact}
use Rattle.yl_indentation.specs.declared.options.IndentationOptions.{IndentationOptions}
use Rattle.yl_indentation.specs.declared.options.Spaces.TheVariants.{Consistent}
use Rattle.yl_indentation.specs.declared.options.IndentSequences.{IndentSequences}
use Rattle.yl_indentation.specs.declared.options.IndentSequences.TheVariants.{Indented, NotIndented, Whatever}
use Rattle.yl_indentation.specs.Facts.{indent_facts}
use Rattle.yl_indentation.specs.Problems.{text_problems}

-- a lexeme in a line, at a column
abbrev token : Kind → ℕ → ℕ → Token
token kind line column = record { kind = kind; start = record { line = line; col = column }; end_line = line }

abbrev word : ℕ → ℕ → Token
word line column = token (Scalar Plain) line column

-- the facts of a document of ten lexemes at most, where these are the leading spaces of its lines
abbrev facts : List ℕ → List Token → List Fact
facts indentations tokens = indent_facts tokens (as_marked tokens false (symbols_of_tokens tokens)) 10 indentations

abbrev fact : ℕ → ℕ → Expectation → Fact
fact line column e = record { line = line; column = column; expectation = e }

abbrev by : IndentSequences → IndentationOptions
by choice = record { spaces = Consistent; indent_sequences = choice }

abbrev wrong : ℕ → ℕ → List ℕ → List FindingValue
wrong line column rest = one_finding Indentation line column (codes "wrong indentation: expected " ++ rest)

-- a:
--     b: 1
-- c:
--   d: 1
abbrev two_steps : List Fact
two_steps = facts (0 ∷ 4 ∷ 0 ∷ 2 ∷ []) (word 0 0 ∷ token Value 0 1 ∷ word 1 4 ∷ token Value 1 5 ∷ word 1 7 ∷ word 2 0 ∷ token Value 2 1 ∷ word 3 2 ∷ token Value 3 3 ∷ word 3 5 ∷ [])

pub facts_of_two_steps : two_steps ≡ fact 0 0 (At 0) ∷ fact 1 4 (Beyond 0) ∷ fact 3 2 (Beyond 0) ∷ []
facts_of_two_steps = refl

pub the_first_step_holds : text_problems (by Indented) two_steps ≡ wrong 4 3 (codes "4 but found 2")
unfolding digits
the_first_step_holds = refl

-- a:
-- - 1
-- - 2
abbrev flush_sequence : List Fact
flush_sequence = facts (0 ∷ 0 ∷ 0 ∷ []) (word 0 0 ∷ token Value 0 1 ∷ token Entry 1 0 ∷ word 1 2 ∷ token Entry 2 0 ∷ word 2 2 ∷ [])

pub only_the_first_entry_is_checked : flush_sequence ≡ fact 0 0 (At 0) ∷ fact 1 0 (EntryIn 0) ∷ []
only_the_first_entry_is_checked = refl

pub no_step_yet : text_problems (by Indented) flush_sequence ≡ wrong 2 1 (codes "at least 1")
unfolding digits
no_step_yet = refl

pub flush_passes : text_problems (by NotIndented) flush_sequence ++ text_problems (by Whatever) flush_sequence ≡ []
flush_passes = refl

-- [
--     1,
--   2
-- ]
pub items_of_brackets :
    facts (0 ∷ 4 ∷ 2 ∷ 0 ∷ []) (token SeqOpen 0 0 ∷ word 1 4 ∷ token Comma 1 5 ∷ word 2 2 ∷ token SeqClose 3 0 ∷ [])
    ≡ fact 0 0 (At 0) ∷ fact 1 4 (Beyond 0) ∷ fact 2 2 (Beyond 0) ∷ fact 3 0 (At 0) ∷ []
items_of_brackets = refl

-- [1,
--   2]
pub aligned_items :
    facts (0 ∷ 2 ∷ []) (token SeqOpen 0 0 ∷ word 0 1 ∷ token Comma 0 2 ∷ word 1 2 ∷ token SeqClose 1 3 ∷ []) ≡ fact 0 0 (At 0) ∷ fact 1 2 (At 1) ∷ []
aligned_items = refl
