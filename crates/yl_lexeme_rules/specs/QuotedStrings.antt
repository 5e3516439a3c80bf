-- Meaning: yamllint's rule quoted-strings.
use Rattle.std.specs.Prelude.{ℕ, Bool, true, false, not, ◌&&◌, if◌then◌else◌, List, [], ◌+◌, codes, Option, Some, None}
use Rattle.yl_lexeme.specs.declared.lexeme.Style.TheVariants as style
use Rattle.yl_lexeme.specs.declared.lexeme.Kind.{Kind}
use Rattle.yl_lexeme.specs.declared.lexeme.Kind.TheVariants.{Scalar}
use Rattle.yl_marks.specs.declared.facts.KeyFacts.{KeyFacts}
use Rattle.yl_text.specs.declared.finding.RuleId.TheVariants.{QuotedStrings}
use Rattle.yl_text.specs.Finding.{FindingValue, one_finding}
use Rattle.yl_lexeme_rules.specs.declared.span.Span.{Span}
use Rattle.yl_lexeme_rules.specs.declared.quoted_strings.QuoteType.{QuoteType}
use Rattle.yl_lexeme_rules.specs.declared.quoted_strings.QuoteType.TheVariants.{Any, Single, Double}
use Rattle.yl_lexeme_rules.specs.declared.quoted_strings.QuotedStringsOptions.{QuotedStringsOptions}
use Rattle.yl_lexeme_rules.specs.Strings.{is_string}

-- a scalar that is quoted differently from what the options require
abbrev pub is_misquoted : Bool → QuoteType → Kind → List ℕ → Bool
is_misquoted required quotes (Scalar style.Plain) value = required && is_string value
is_misquoted required Double (Scalar style.Single) value = true
is_misquoted required Single (Scalar style.Double) value = true
is_misquoted required quotes _ value = false

abbrev pub misquoted_text : QuoteType → List ℕ
misquoted_text Any = codes "string value is not quoted with any quotes"
misquoted_text Single = codes "string value is not quoted with single quotes"
misquoted_text Double = codes "string value is not quoted with double quotes"

-- at a lexeme and its value, if the rule is on
abbrev pub quoted_strings : Option QuotedStringsOptions → Span → List ℕ → KeyFacts → List FindingValue
quoted_strings None x value key = []
quoted_strings (Some o) x value key =
    if not key.has_tag && not key.is_key && is_misquoted o.required o.quote_type x.kind value
    then one_finding QuotedStrings (x.start.line + 1) (x.start.col + 1) (misquoted_text o.quote_type) else []
