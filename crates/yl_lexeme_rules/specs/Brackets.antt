-- Meaning: yamllint's rules braces and brackets, which are one rule for two kinds of flow
-- collections.
use Rattle.std.specs.Prelude.{ℕ, Bool, true, false, if◌then◌else◌, List, [], ◌++◌, ◌+◌, codes, Option, Some, None}
use Rattle.std.specs.Option.{option_or}
use Rattle.yl_lexeme.specs.declared.lexeme.Kind.{Kind}
use Rattle.yl_lexeme.specs.declared.lexeme.Kind.TheVariants.{SeqOpen, SeqClose, MapOpen, MapClose}
use Rattle.yl_text.specs.declared.finding.RuleId.{RuleId}
use Rattle.yl_text.specs.declared.finding.RuleId.TheVariants.{Braces, Brackets}
use Rattle.yl_text.specs.Finding.{FindingValue, one_finding, rule_name}
use Rattle.yl_lexeme_rules.specs.declared.span.Span.{Span}
use Rattle.yl_lexeme_rules.specs.declared.brackets.Flow.{Flow}
use Rattle.yl_lexeme_rules.specs.declared.brackets.Flow.TheVariants.{Mapping, Sequence}
use Rattle.yl_lexeme_rules.specs.declared.brackets.Forbid.{Forbid}
use Rattle.yl_lexeme_rules.specs.declared.brackets.Forbid.TheVariants.{Nothing, NonEmpty, Everything}
use Rattle.yl_lexeme_rules.specs.declared.brackets.BracketsOptions.{BracketsOptions}
use Rattle.yl_lexeme_rules.specs.Spans.{too_many, too_few}

-- ---- the two kinds

abbrev pub rule_of : Flow → RuleId
rule_of Mapping = Braces
rule_of Sequence = Brackets

abbrev pub opens : Flow → Kind → Bool
opens Mapping MapOpen = true
opens Sequence SeqOpen = true
opens _ _ = false

abbrev pub closes : Flow → Kind → Bool
closes Mapping MapClose = true
closes Sequence SeqClose = true
closes _ _ = false

abbrev pub forbidden_text : Flow → List ℕ
forbidden_text Mapping = codes "forbidden flow mapping"
forbidden_text Sequence = codes "forbidden flow sequence"

-- ---- the rule

-- the problems of the distance between two lexemes of which one is a bracket, and of the distance
-- between two brackets with nothing between them (`inside_empty`)
abbrev pub inside : Flow → BracketsOptions → Span → Span → List FindingValue
inside flow o x y =
    too_few (rule_of flow) o.min_spaces_inside x y (codes "too few spaces inside " ++ rule_name (rule_of flow))
    ++ too_many (rule_of flow) o.max_spaces_inside x y (codes "too many spaces inside " ++ rule_name (rule_of flow))

abbrev pub inside_empty : Flow → BracketsOptions → Span → Span → List FindingValue
inside_empty flow o x y =
    too_few (rule_of flow) (option_or o.min_spaces_inside_empty o.min_spaces_inside) x y
    (codes "too few spaces inside empty " ++ rule_name (rule_of flow))
    ++ too_many (rule_of flow) (option_or o.max_spaces_inside_empty o.max_spaces_inside) x y
    (codes "too many spaces inside empty " ++ rule_name (rule_of flow))

-- reported at the character after the bracket
abbrev pub forbidden_finding : Flow → Span → List FindingValue
forbidden_finding flow x = one_finding (rule_of flow) (x.start.line + 1) (x.start.col + 2) (forbidden_text flow)

-- at an opening bracket and the lexeme after it
abbrev pub behind_opening_at : Flow → BracketsOptions → Forbid → Span → Option Span → List FindingValue
behind_opening_at flow o Everything x after = forbidden_finding flow x
behind_opening_at flow o _ x None = []
behind_opening_at flow o NonEmpty x (Some y) = if closes flow y.kind then inside_empty flow o x y else forbidden_finding flow x
behind_opening_at flow o Nothing x (Some y) = if closes flow y.kind then inside_empty flow o x y else inside flow o x y

-- at a closing bracket and the lexeme before it
abbrev pub before_closing : Flow → BracketsOptions → Option Span → Span → List FindingValue
before_closing flow o None y = []
before_closing flow o (Some x) y = if opens flow x.kind then [] else inside flow o x y

-- at a lexeme between its neighbours, if the rule is on
abbrev pub brackets : Flow → Option BracketsOptions → Option Span → Span → Option Span → List FindingValue
brackets flow None before x after = []
brackets flow (Some o) before x after =
    if opens flow x.kind then behind_opening_at flow o o.forbid x after
    else if closes flow x.kind then before_closing flow o before x else []
