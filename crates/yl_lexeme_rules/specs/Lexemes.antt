-- Meaning: the problems that the rules on lexemes find in a document.
use Rattle.std.specs.Prelude.{ℕ, Bool, List, [], ◌∷◌, ◌++◌, take, Option, Some, None}
use Rattle.yl_lexeme.specs.Lexeme.{LexemeValue}
use Rattle.yl_marks.specs.declared.facts.KeyFacts.{KeyFacts}
use Rattle.yl_marks.specs.Facts.{key_facts}
use Rattle.yl_text.specs.Finding.{FindingValue}
use Rattle.yl_lexeme_rules.specs.declared.span.Span.{Span}
use Rattle.yl_lexeme_rules.specs.declared.brackets.Flow.TheVariants.{Mapping, Sequence}
use Rattle.yl_lexeme_rules.specs.declared.options.LexemeOptions.{LexemeOptions}
use Rattle.yl_lexeme_rules.specs.Spans.{span_of}
use Rattle.yl_lexeme_rules.specs.Brackets.{brackets}
use Rattle.yl_lexeme_rules.specs.Colons.{colons}
use Rattle.yl_lexeme_rules.specs.Commas.{commas}
use Rattle.yl_lexeme_rules.specs.DocumentStart.{document_start}
use Rattle.yl_lexeme_rules.specs.Hyphens.{hyphens}
use Rattle.yl_lexeme_rules.specs.QuotedStrings.{quoted_strings}
use Rattle.yl_lexeme_rules.specs.Truthy.{truthy}
use Rattle.yl_lexeme_rules.specs.Version.{is_1_2_document}

-- the rules on values. `is_1_2` says whether the document declares itself to be one of YAML 1.2
abbrev pub value_findings : Bool → LexemeOptions → Span → List ℕ → KeyFacts → List FindingValue
value_findings is_1_2 o x value key =
    truthy is_1_2 o.truthy x value key ++ quoted_strings o.quoted_strings x value key

-- all the rules, at a lexeme between its neighbours
abbrev pub findings_at :
    Bool → LexemeOptions → Option Span → Span → List ℕ → KeyFacts → Option Span → List FindingValue
findings_at is_1_2 o before x value key after =
    (brackets Mapping o.braces before x after
    ++ (brackets Sequence o.brackets before x after ++ commas o.commas before x after))
    ++ ((colons o.colons before x after
    ++ (hyphens o.hyphens x after ++ document_start o.document_start before x))
    ++ value_findings is_1_2 o x value key)

abbrev pub first_span : List LexemeValue → Option Span
first_span [] = None
first_span (x ∷ xs) = Some (span_of x)

-- the problems at each of these lexemes, which come after the lexeme `before`. Each has beside it
-- the facts that the keys of the document decide about it
abbrev pub findings_behind : Bool → LexemeOptions → Option Span → List LexemeValue → List KeyFacts → List FindingValue
findings_behind is_1_2 o before (x ∷ xs) (key ∷ keys) =
    findings_at is_1_2 o before (span_of x) x.value key (first_span xs)
    ++ findings_behind is_1_2 o (Some (span_of x)) xs keys
findings_behind is_1_2 o before _ _ = []

-- the problems at the first `counted` lexemes of a document. Whether one of them is a key may
-- depend on a lexeme after them
abbrev pub lexeme_findings : LexemeOptions → ℕ → List LexemeValue → List FindingValue
lexeme_findings o counted xs =
    findings_behind (is_1_2_document xs) o None (take counted xs) (key_facts xs)
