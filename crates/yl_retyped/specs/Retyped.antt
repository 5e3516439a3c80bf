-- Bridge: what may come before a value whose text changes, and at which values the rules on values
-- find nothing.
use Rattle.std.specs.Prelude.{◌≡◌, Bool, true, false, []}
use Rattle.yl_lexeme.specs.declared.lexeme.Kind.{Kind}
use Rattle.yl_lexeme.specs.declared.lexeme.Kind.TheVariants.{Entry, Value, Scalar}
use Rattle.yl_lexeme.specs.Lexeme.{LexemeValue}
use Rattle.yl_marks.specs.declared.facts.KeyFacts.{KeyFacts}
use Rattle.yl_lexeme_rules.specs.declared.options.LexemeOptions.{LexemeOptions}
use Rattle.yl_lexeme_rules.specs.Lexemes.{value_findings}
use Rattle.yl_lexeme_rules.specs.Spans.{span_of}

-- an indicator that asks for a value: a node that follows it in its line is a key only if a mapping
-- begins with it
abbrev pub asks_for_value : Kind → Bool
asks_for_value Entry = true
asks_for_value Value = true
asks_for_value _ = false

abbrev pub is_scalar : Kind → Bool
is_scalar (Scalar style) = true
is_scalar _ = false

-- what is known of a lexeme that is no part of a key
abbrev pub no_key : KeyFacts
no_key = record { is_key = false; has_tag = false }

-- the rules on values find nothing at a lexeme that is no key, if all truthy words count; so they
-- find nothing if fewer count
abbrev pub IsQuiet : LexemeOptions → LexemeValue → Type 0
IsQuiet o x = value_findings false o (span_of x) x.value no_key ≡ []
