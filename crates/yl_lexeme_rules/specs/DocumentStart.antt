-- Meaning: yamllint's rule document-start.
use Rattle.std.specs.Prelude.{Bool, true, false, not, ◌&&◌, if◌then◌else◌, List, [], ◌+◌, codes, Option, Some, None}
use Rattle.std.specs.Option.{option_map_or}
use Rattle.yl_lexeme.specs.declared.lexeme.Kind.{Kind}
use Rattle.yl_lexeme.specs.declared.lexeme.Kind.TheVariants.{DocStart, DocEnd}
use Rattle.yl_lexeme.specs.Directives.{is_directive}
use Rattle.yl_lexeme.specs.Lexeme.{is_document_marker}
use Rattle.yl_text.specs.declared.finding.RuleId.TheVariants.{DocumentStart}
use Rattle.yl_text.specs.Finding.{FindingValue, one_finding}
use Rattle.yl_lexeme_rules.specs.declared.span.Span.{Span}
use Rattle.yl_lexeme_rules.specs.declared.document_start.DocumentStartOptions.{DocumentStartOptions}

abbrev pub is_start_marker : Kind → Bool
is_start_marker DocStart = true
is_start_marker _ = false

abbrev pub is_end_marker : Kind → Bool
is_end_marker DocEnd = true
is_end_marker _ = false

-- a document begins with this lexeme as its content. The lexeme is neither a directive nor a
-- marker, and it comes first or after the end marker of another document
abbrev pub is_bare : Option Span → Span → Bool
is_bare before x = not (is_directive x.kind) && not (is_document_marker x.kind)
    && option_map_or (λ y. is_end_marker y.kind) before true

-- at a lexeme and the one before it, if the rule is on
abbrev pub document_start : Option DocumentStartOptions → Option Span → Span → List FindingValue
document_start None before x = []
document_start (Some o) before x =
    if o.present && is_bare before x
    then one_finding DocumentStart (x.start.line + 1) 1 (codes "missing document start \"---\"")
    else if not o.present && is_start_marker x.kind
    then one_finding DocumentStart (x.start.line + 1) (x.start.col + 1) (codes "found forbidden document start \"---\"")
    else []
