-- Meaning: yamllint's rule hyphens.
use Rattle.std.specs.Prelude.{if◌then◌else◌, List, [], codes, Option, Some, None}
use Rattle.yl_lexeme.specs.Lexeme.{is_entry}
use Rattle.yl_text.specs.declared.finding.RuleId.TheVariants.{Hyphens}
use Rattle.yl_text.specs.Finding.{FindingValue}
use Rattle.yl_lexeme_rules.specs.declared.span.Span.{Span}
use Rattle.yl_lexeme_rules.specs.declared.hyphens.HyphensOptions.{HyphensOptions}
use Rattle.yl_lexeme_rules.specs.Spans.{too_many_behind}

-- at a lexeme and the one after it, if the rule is on
abbrev pub hyphens : Option HyphensOptions → Span → Option Span → List FindingValue
hyphens None x after = []
hyphens (Some o) x after =
    if is_entry x.kind
    then too_many_behind Hyphens o.max_spaces_after x after (codes "too many spaces after hyphen")
    else []
