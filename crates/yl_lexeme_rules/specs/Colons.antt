-- Meaning: yamllint's rule colons.
use Rattle.std.specs.Prelude.{Bool, true, false, ◌&&◌, ◌==◌, if◌then◌else◌, List, [], ◌++◌, codes, Option, Some, None}
use Rattle.std.specs.Option.{option_map_or}
use Rattle.yl_lexeme.specs.declared.lexeme.Kind.{Kind}
use Rattle.yl_lexeme.specs.declared.lexeme.Kind.TheVariants.{Alias}
use Rattle.yl_lexeme.specs.Lexeme.{is_key, is_value}
use Rattle.yl_text.specs.declared.finding.RuleId.TheVariants.{Colons}
use Rattle.yl_text.specs.Finding.{FindingValue}
use Rattle.yl_lexeme_rules.specs.declared.span.Span.{Span}
use Rattle.yl_lexeme_rules.specs.declared.colons.ColonsOptions.{ColonsOptions}
use Rattle.yl_lexeme_rules.specs.Spans.{distance, too_many, too_many_behind}

abbrev pub is_alias : Kind → Bool
is_alias Alias = true
is_alias _ = false

-- one space after an alias is needed, since its name may contain a colon
abbrev pub before_colon : ColonsOptions → Option Span → Span → List FindingValue
before_colon o None y = []
before_colon o (Some x) y =
    if is_alias x.kind && option_map_or (λ n. n == 1) (distance x y) false then []
    else too_many Colons o.max_spaces_before x y (codes "too many spaces before colon")

-- at a lexeme between its neighbours, if the rule is on
abbrev pub colons : Option ColonsOptions → Option Span → Span → Option Span → List FindingValue
colons None before x after = []
colons (Some o) before x after =
    if is_value x.kind
    then before_colon o before x ++ too_many_behind Colons o.max_spaces_after x after (codes "too many spaces after colon")
    else if is_key x.kind
    then too_many_behind Colons o.max_spaces_after x after (codes "too many spaces after question mark") else []
