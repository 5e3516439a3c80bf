-- Bridge: the problems that the rules on lexemes find at a lexeme, by its kind.
use Rattle.std.specs.Prelude.{Bool, true, false, List, [], ◌++◌, Option}
use Rattle.yl_lexeme.specs.declared.lexeme.Kind.{Kind}
use Rattle.yl_lexeme.specs.declared.lexeme.Kind.TheVariants.{Directive, DocStart, DocEnd, Entry, Key, Value, Comma, SeqOpen, SeqClose, MapOpen, MapClose, Alias, Anchor, Tag, Scalar}
use Rattle.yl_text.specs.Finding.{FindingValue}
use Rattle.yl_lexeme_rules.specs.declared.span.Span.{Span}
use Rattle.yl_lexeme_rules.specs.declared.brackets.Flow.TheVariants.{Mapping, Sequence}
use Rattle.yl_lexeme_rules.specs.declared.options.LexemeOptions.{LexemeOptions}
use Rattle.yl_lexeme_rules.specs.Brackets.{brackets}
use Rattle.yl_lexeme_rules.specs.Colons.{colons}
use Rattle.yl_lexeme_rules.specs.Commas.{commas}
use Rattle.yl_lexeme_rules.specs.DocumentStart.{document_start}
use Rattle.yl_lexeme_rules.specs.Hyphens.{hyphens}

-- at a lexeme of this kind, what the rules other than document-start and those on values find. At
-- each kind at most one of these rules finds something
abbrev pub indicator_findings :
    Kind → LexemeOptions → Option Span → Span → Option Span → List FindingValue
indicator_findings MapOpen o before x after = brackets Mapping o.braces before x after
indicator_findings MapClose o before x after = brackets Mapping o.braces before x after
indicator_findings SeqOpen o before x after = brackets Sequence o.brackets before x after
indicator_findings SeqClose o before x after = brackets Sequence o.brackets before x after
indicator_findings Comma o before x after = commas o.commas before x after
indicator_findings Value o before x after = colons o.colons before x after
indicator_findings Key o before x after = colons o.colons before x after
indicator_findings Entry o before x after = hyphens o.hyphens x after
indicator_findings Directive o before x after = []
indicator_findings DocStart o before x after = []
indicator_findings DocEnd o before x after = []
indicator_findings Alias o before x after = []
indicator_findings Anchor o before x after = []
indicator_findings Tag o before x after = []
indicator_findings (Scalar style) o before x after = []

-- these rules may find something at a lexeme of this kind
abbrev pub is_indicator : Kind → Bool
is_indicator MapOpen = true
is_indicator MapClose = true
is_indicator SeqOpen = true
is_indicator SeqClose = true
is_indicator Comma = true
is_indicator Value = true
is_indicator Key = true
is_indicator Entry = true
is_indicator _ = false

-- the rules on flow collections, at a lexeme between its neighbours
abbrev pub flow_findings : LexemeOptions → Option Span → Span → Option Span → List FindingValue
flow_findings o before x after =
    brackets Mapping o.braces before x after ++ (brackets Sequence o.brackets before x after
    ++ commas o.commas before x after)

-- the rules on block collections and documents, at a lexeme between its neighbours
abbrev pub block_findings : LexemeOptions → Option Span → Span → Option Span → List FindingValue
block_findings o before x after =
    colons o.colons before x after ++ (hyphens o.hyphens x after
    ++ document_start o.document_start before x)
