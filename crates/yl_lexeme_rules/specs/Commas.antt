-- Meaning: yamllint's rule commas.
use Rattle.std.specs.Prelude.{nat_lt, if◌then◌else◌, List, [], ◌++◌, ◌+◌, max, codes, Option, Some, None, is_some}
use Rattle.yl_lexeme.specs.Lexeme.{is_comma}
use Rattle.yl_text.specs.declared.finding.RuleId.TheVariants.{Commas}
use Rattle.yl_text.specs.Finding.{FindingValue, one_finding}
use Rattle.yl_lexeme_rules.specs.declared.span.Span.{Span}
use Rattle.yl_lexeme_rules.specs.declared.commas.CommasOptions.{CommasOptions}
use Rattle.yl_lexeme_rules.specs.Spans.{too_many, too_few}

-- a comma that is the first lexeme of its line, if there is a maximum before commas. It is reported
-- at the column before the comma, or at the first column
abbrev pub first_comma : CommasOptions → Span → List FindingValue
first_comma o y =
    if is_some o.max_spaces_before
    then one_finding Commas (y.start.line + 1) (max 1 y.start.col) (codes "too many spaces before comma") else []

abbrev pub before_comma : CommasOptions → Option Span → Span → List FindingValue
before_comma o None y = []
before_comma o (Some x) y =
    if nat_lt x.end_line y.start.line then first_comma o y
    else too_many Commas o.max_spaces_before x y (codes "too many spaces before comma")

abbrev pub behind_comma : CommasOptions → Span → Option Span → List FindingValue
behind_comma o x None = []
behind_comma o x (Some y) =
    too_few Commas o.min_spaces_after x y (codes "too few spaces after comma")
    ++ too_many Commas o.max_spaces_after x y (codes "too many spaces after comma")

-- at a lexeme between its neighbours, if the rule is on
abbrev pub commas : Option CommasOptions → Option Span → Span → Option Span → List FindingValue
commas None before x after = []
commas (Some o) before x after =
    if is_comma x.kind then before_comma o before x ++ behind_comma o x after else []
