-- Meaning: lexemes without their values, and the distances between them.
use Rattle.std.specs.Prelude.{ℕ, Bool, false, ◌==◌, nat_lt, if◌then◌else◌, List, [], ◌+◌, ◌-◌, Option, Some, None}
use Rattle.std.specs.Option.{option_map_or}
use Rattle.yl_lexeme.specs.Lexeme.{LexemeValue}
use Rattle.yl_text.specs.declared.finding.RuleId.{RuleId}
use Rattle.yl_text.specs.Finding.{FindingValue, one_finding}
use Rattle.yl_lexeme_rules.specs.declared.span.Span.{Span}

-- a lexeme of the text without its value
abbrev pub span_of : LexemeValue → Span
span_of x = record { kind = x.kind; start = x.start; end_line = x.end.line; end_col = x.end.col }

-- the number of characters between two lexemes of one line
abbrev pub distance : Span → Span → Option ℕ
distance x y = if x.end_line == y.start.line then Some (y.start.col - x.end_col) else None

-- both numbers are given and the first is less than the second
abbrev pub is_less : Option ℕ → Option ℕ → Bool
is_less (Some m) (Some n) = nat_lt m n
is_less _ _ = false

-- more characters than allowed: reported at the character before the second lexeme
abbrev pub too_many : RuleId → Option ℕ → Span → Span → List ℕ → List FindingValue
too_many rule most x y message =
    if is_less most (distance x y) then one_finding rule (y.start.line + 1) y.start.col message else []

-- fewer characters than required: reported at the second lexeme
abbrev pub too_few : RuleId → Option ℕ → Span → Span → List ℕ → List FindingValue
too_few rule least x y message =
    if is_less (distance x y) least then one_finding rule (y.start.line + 1) (y.start.col + 1) message else []

-- more characters than allowed after a lexeme, if another follows it
abbrev pub too_many_behind : RuleId → Option ℕ → Span → Option Span → List ℕ → List FindingValue
too_many_behind rule most x after message = option_map_or (λ y. too_many rule most x y message) after []
