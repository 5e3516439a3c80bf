-- Bridge: the problems that the rules on lexemes still find in a document, from a summary of the
-- lexemes that were read.
use Rattle.std.specs.Prelude.{Bool, true, false, ◌≡◌, ◌&&◌, ◌||◌, if◌then◌else◌, List, [], ◌++◌, ℕ, Option, Some, None}
use Rattle.std.specs.Option.{option_map_or}
use Rattle.yl_lexeme.specs.Lexeme.{LexemeValue}
use Rattle.yl_lexeme.specs.Directives.{is_directive}
use Rattle.yl_lexeme.specs.Version.{is_yaml_1_2}
use Rattle.yl_marks.specs.declared.facts.KeyFacts.{KeyFacts}
use Rattle.yl_text.specs.Finding.{FindingValue}
use Rattle.yl_lexeme_rules.specs.declared.span.Span.{Span}
use Rattle.yl_lexeme_rules.specs.declared.options.LexemeOptions.{LexemeOptions}
use Rattle.yl_lexeme_rules.specs.DocumentStart.{document_start}
use Rattle.yl_lexeme_rules.specs.Kinds.{indicator_findings, is_indicator}
use Rattle.yl_lexeme_rules.specs.Lexemes.{findings_behind, first_span, value_findings}
use Rattle.yl_lexeme_rules.specs.Spans.{span_of}
use Rattle.yl_lexeme_rules.specs.Version.{is_1_2_document}

-- the summary of the lexemes that were read
pub record LexemesRead : Type 0 where
  pub latest : Option Span  -- the latest of them
  pub earlier : Option Span  -- the one before it
  pub waits : Bool  -- the latest is an indicator, so the problems at it are still to come
  pub is_1_2 : Bool  -- a directive declares the document to be one of YAML 1.2
  pub in_directives : Bool  -- all of them are directives

abbrev pub none_read : LexemesRead
none_read = record { latest = None; earlier = None; waits = false; is_1_2 = false; in_directives = true }

-- the document is one of YAML 1.2, by the lexemes that were read and those that follow
abbrev pub IsVersion : Bool → LexemesRead → List LexemeValue → Type 0
IsVersion v r xs = v ≡ (r.is_1_2 || (r.in_directives && is_1_2_document xs))

-- the problems at an indicator between its neighbours
abbrev pub findings_at_indicator : LexemeOptions → Option Span → Span → Option Span → List FindingValue
findings_at_indicator o before x after =
    indicator_findings x.kind o before x after ++ document_start o.document_start before x

-- the problems that are still to come at the latest lexeme, where `after` is the next one, if any
abbrev pub findings_waiting : LexemeOptions → LexemesRead → Option Span → List FindingValue
findings_waiting o r after =
    if r.waits then option_map_or (λ x. findings_at_indicator o r.earlier x after) r.latest [] else []

-- the problems that are still to come in the document, if these lexemes follow and all of them
-- count. Each has beside it the facts that the keys of the document decide about it
abbrev pub lexemes_left : Bool → LexemeOptions → LexemesRead → List LexemeValue → List KeyFacts → List FindingValue
lexemes_left v o r xs ks = findings_waiting o r (first_span xs) ++ findings_behind v o r.latest xs ks

-- ---- one more lexeme

-- the problems at the next lexeme that are found before the lexeme after it is read: none if the
-- lexeme is an indicator, and else all
abbrev pub findings_told : Bool → LexemeOptions → Option Span → Span → List ℕ → KeyFacts → List FindingValue
findings_told v o before x value key =
    if is_indicator x.kind then []
    else document_start o.document_start before x ++ value_findings v o x value key

abbrev pub after_lexeme : LexemesRead → LexemeValue → LexemesRead
after_lexeme r x = record {
  latest = Some (span_of x);
  earlier = r.latest;
  waits = is_indicator x.kind;
  is_1_2 = r.is_1_2 || (r.in_directives && is_yaml_1_2 x);
  in_directives = r.in_directives && is_directive x.kind;
}
