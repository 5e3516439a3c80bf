-- What the rules on lexemes find stands in the lines of lexemes.
use Rattle.std.proofs.Common.{◌≡◌, refl, ℕ, ◌+◌, Bool, List, [], ◌∷◌, Option, Some, None}
use Rattle.std.specs.Prelude.{IfSome, is_some, not, ◌&&◌, ◌==◌, false, nat_lt}
use Rattle.std.specs.Option.{option_map_or}
use Rattle.std.specs.List.{AllByRecursion}
use Rattle.yl_text.specs.declared.finding.RuleId.{RuleId}
use Rattle.yl_text.specs.declared.finding.RuleId.TheVariants.{Colons, Commas, Hyphens}
use Rattle.yl_text.specs.Finding.{FindingValue}
use Rattle.yl_text.proofs.Every.{all_both, all_either, all_if}
use Rattle.yl_lexeme.specs.Lexeme.{LexemeValue, is_comma, is_entry, is_key, is_value}
use Rattle.yl_marks.specs.declared.facts.KeyFacts.{KeyFacts}
use Rattle.yl_lexeme_rules.specs.declared.span.Span.{Span}
use Rattle.yl_lexeme_rules.specs.declared.brackets.Forbid.{Forbid}
use Rattle.yl_lexeme_rules.specs.declared.brackets.Forbid.TheVariants.{Nothing, NonEmpty, Everything}
use Rattle.yl_lexeme_rules.specs.declared.brackets.BracketsOptions.{BracketsOptions}
use Rattle.yl_lexeme_rules.specs.declared.colons.ColonsOptions.{ColonsOptions}
use Rattle.yl_lexeme_rules.specs.declared.commas.CommasOptions.{CommasOptions}
use Rattle.yl_lexeme_rules.specs.declared.document_start.DocumentStartOptions.{DocumentStartOptions}
use Rattle.yl_lexeme_rules.specs.declared.hyphens.HyphensOptions.{HyphensOptions}
use Rattle.yl_lexeme_rules.specs.declared.options.LexemeOptions.{LexemeOptions}
use Rattle.yl_lexeme_rules.specs.declared.quoted_strings.QuotedStringsOptions.{QuotedStringsOptions}
use Rattle.yl_lexeme_rules.specs.declared.truthy.TruthyOptions.{TruthyOptions}
use Rattle.yl_lexeme_rules.specs.Spans.{distance, is_less, span_of, too_few, too_many, too_many_behind}
use Rattle.yl_lexeme_rules.specs.Brackets.{before_closing, behind_opening_at, brackets, closes, forbidden_finding, inside, inside_empty, opens, rule_of}
use Rattle.yl_lexeme_rules.specs.Colons.{before_colon, colons, is_alias}
use Rattle.yl_lexeme_rules.specs.Commas.{before_comma, behind_comma, commas, first_comma}
use Rattle.yl_lexeme_rules.specs.DocumentStart.{document_start, is_bare, is_start_marker}
use Rattle.yl_lexeme_rules.specs.Hyphens.{hyphens}
use Rattle.yl_lexeme_rules.specs.Kinds.{flow_findings}
use Rattle.yl_lexeme_rules.specs.Lexemes.{findings_at, findings_behind, first_span}
use Rattle.yl_lexeme_rules.specs.QuotedStrings.{is_misquoted, quoted_strings}
use Rattle.yl_lexeme_rules.specs.Truthy.{is_truthy, truthy}

-- something holds of the lines of lexemes
module _ (Is : ℕ → Type 0) where
  -- and of the line of a problem, which counts from 1
  abbrev P : FindingValue → Type 0
  P f = (l : ℕ) × ((f.line ≡ l + 1) × Is l)

  -- and of the line in which it begins
  abbrev Begins : Span → Type 0
  Begins x = Is x.start.line

  abbrev Every : List FindingValue → Type 0
  Every fs = AllByRecursion P fs

  -- whatever is said of a lexeme in this line
  at_lexeme : (line : ℕ) → Is line → ((l : ℕ) × ((line + 1 ≡ l + 1) × Is l)) × Unit {0}
  at_lexeme line h = ((line, (refl, h)), tt)

  -- ---- distances

  many : (rule : RuleId) (most : Option ℕ) (x y : Span) (text : List ℕ) → Begins y → Every (too_many rule most x y text)
  many rule most x y text h = all_if P (is_less most (distance x y)) _ (at_lexeme y.start.line h)

  few : (rule : RuleId) (least : Option ℕ) (x y : Span) (text : List ℕ) → Begins y → Every (too_few rule least x y text)
  few rule least x y text h = all_if P (is_less (distance x y) least) _ (at_lexeme y.start.line h)

  many_after : (rule : RuleId) (most : Option ℕ) (x : Span) (after : Option Span) (text : List ℕ) → IfSome after Begins → Every (too_many_behind rule most x after text)
  many_after rule most x None text h = tt
  many_after rule most x (Some y) text h = many rule most x y text h

  -- ---- braces and brackets

  of_inside : (flow : _) (o : BracketsOptions) (x y : Span) → Begins y → Every (inside flow o x y)
  of_inside flow o x y h = all_both P _ _ (few (rule_of flow) o.min_spaces_inside x y _ h) (many (rule_of flow) o.max_spaces_inside x y _ h)

  of_inside_empty : (flow : _) (o : BracketsOptions) (x y : Span) → Begins y → Every (inside_empty flow o x y)
  of_inside_empty flow o x y h = all_both P _ _ (few (rule_of flow) _ x y _ h) (many (rule_of flow) _ x y _ h)

  of_forbidden : (flow : _) (x : Span) → Begins x → Every (forbidden_finding flow x)
  of_forbidden flow x h = at_lexeme x.start.line h

  of_opening : (flow : _) (o : BracketsOptions) (forbid : Forbid) (x : Span) (after : Option Span) → Begins x → IfSome after Begins → Every (behind_opening_at flow o forbid x after)
  of_opening flow o Everything x after h g = of_forbidden flow x h
  of_opening flow o NonEmpty x None h g = tt
  of_opening flow o NonEmpty x (Some y) h g = all_either P (closes flow y.kind) _ _ (of_inside_empty flow o x y g) (of_forbidden flow x h)
  of_opening flow o Nothing x None h g = tt
  of_opening flow o Nothing x (Some y) h g = all_either P (closes flow y.kind) _ _ (of_inside_empty flow o x y g) (of_inside flow o x y g)

  of_closing : (flow : _) (o : BracketsOptions) (before : Option Span) (y : Span) → Begins y → Every (before_closing flow o before y)
  of_closing flow o None y h = tt
  of_closing flow o (Some x) y h = all_either P (opens flow x.kind) [] _ tt (of_inside flow o x y h)

  of_brackets : (flow : _) (o : Option BracketsOptions) (before : Option Span) (x : Span) (after : Option Span) → Begins x → IfSome after Begins → Every (brackets flow o before x after)
  of_brackets flow None before x after h g = tt
  of_brackets flow (Some o) before x after h g =
      all_either P (opens flow x.kind) _ _ (of_opening flow o o.forbid x after h g) (all_if P (closes flow x.kind) _ (of_closing flow o before x h))

  -- ---- the other rules

  of_before_colon : (o : ColonsOptions) (before : Option Span) (y : Span) → Begins y → Every (before_colon o before y)
  of_before_colon o None y h = tt
  of_before_colon o (Some x) y h = all_either P (is_alias x.kind && option_map_or (λ n. n == 1) (distance x y) false) [] _ tt (many Colons o.max_spaces_before x y _ h)

  of_colons : (o : Option ColonsOptions) (before : Option Span) (x : Span) (after : Option Span) → Begins x → IfSome after Begins → Every (colons o before x after)
  of_colons None before x after h g = tt
  of_colons (Some o) before x after h g =
      all_either P (is_value x.kind) _ _ (all_both P _ _ (of_before_colon o before x h) (many_after Colons o.max_spaces_after x after _ g))
      (all_if P (is_key x.kind) _ (many_after Colons o.max_spaces_after x after _ g))

  of_first_comma : (o : CommasOptions) (y : Span) → Begins y → Every (first_comma o y)
  of_first_comma o y h = all_if P (is_some o.max_spaces_before) _ (at_lexeme y.start.line h)

  of_before_comma : (o : CommasOptions) (before : Option Span) (y : Span) → Begins y → Every (before_comma o before y)
  of_before_comma o None y h = tt
  of_before_comma o (Some x) y h = all_either P (nat_lt x.end_line y.start.line) _ _ (of_first_comma o y h) (many Commas o.max_spaces_before x y _ h)

  of_comma_after : (o : CommasOptions) (x : Span) (after : Option Span) → IfSome after Begins → Every (behind_comma o x after)
  of_comma_after o x None g = tt
  of_comma_after o x (Some y) g = all_both P _ _ (few Commas o.min_spaces_after x y _ g) (many Commas o.max_spaces_after x y _ g)

  of_commas : (o : Option CommasOptions) (before : Option Span) (x : Span) (after : Option Span) → Begins x → IfSome after Begins → Every (commas o before x after)
  of_commas None before x after h g = tt
  of_commas (Some o) before x after h g = all_if P (is_comma x.kind) _ (all_both P _ _ (of_before_comma o before x h) (of_comma_after o x after g))

  of_hyphens : (o : Option HyphensOptions) (x : Span) (after : Option Span) → IfSome after Begins → Every (hyphens o x after)
  of_hyphens None x after g = tt
  of_hyphens (Some o) x after g = all_if P (is_entry x.kind) _ (many_after Hyphens o.max_spaces_after x after _ g)

  of_document_start : (o : Option DocumentStartOptions) (before : Option Span) (x : Span) → Begins x → Every (document_start o before x)
  of_document_start None before x h = tt
  of_document_start (Some o) before x h =
      all_either P (o.present && is_bare before x) _ _ (at_lexeme x.start.line h)
      (all_if P (not o.present && is_start_marker x.kind) _ (at_lexeme x.start.line h))

  of_truthy : (is_1_2 : Bool) (o : Option TruthyOptions) (x : Span) (value : List ℕ) (key : KeyFacts) → Begins x → Every (truthy is_1_2 o x value key)
  of_truthy is_1_2 None x value key h = tt
  of_truthy is_1_2 (Some o) x value key h = all_if P (is_truthy is_1_2 o x.kind value key) _ (at_lexeme x.start.line h)

  of_quoted_strings : (o : Option QuotedStringsOptions) (x : Span) (value : List ℕ) (key : KeyFacts) → Begins x → Every (quoted_strings o x value key)
  of_quoted_strings None x value key h = tt
  of_quoted_strings (Some o) x value key h =
      all_if P (not key.has_tag && not key.is_key && is_misquoted o.required o.quote_type x.kind value) _ (at_lexeme x.start.line h)

  -- ---- lexemes one after another

  of_flow : (o : LexemeOptions) (before : Option Span) (x : Span) (after : Option Span) → Begins x → IfSome after Begins → Every (flow_findings o before x after)
  of_flow o before x after h g = search (of_brackets, all_both, of_commas)

  of_at : (is_1_2 : Bool) (o : LexemeOptions) (before : Option Span) (s : Span) (value : List ℕ) (key : KeyFacts) (after : Option Span)
      → Begins s → IfSome after Begins → Every (findings_at is_1_2 o before s value key after)
  of_at is_1_2 o before s value key after h g =
      all_both P _ _
      (of_flow o before s after h g)
      (all_both P _ _
      (all_both P _ _ (of_colons o.colons before s after h g) (all_both P _ _ (of_hyphens o.hyphens s after g) (of_document_start o.document_start before s h)))
      (all_both P _ _ (of_truthy is_1_2 o.truthy s value key h) (of_quoted_strings o.quoted_strings s value key h)))

  first_begins : (xs : List LexemeValue) → AllByRecursion (λ x. Is x.start.line) xs → IfSome (first_span xs) Begins
  first_begins [] h = tt
  first_begins (x ∷ xs) h = h.0

  pub found_lines : (is_1_2 : Bool) (o : LexemeOptions) (before : Option Span) (xs : List LexemeValue) (keys : List KeyFacts)
      → AllByRecursion (λ x. Is x.start.line) xs → Every (findings_behind is_1_2 o before xs keys)
  found_lines is_1_2 o before [] keys h = tt
  found_lines is_1_2 o before (x ∷ xs) [] h = tt
  found_lines is_1_2 o before (x ∷ xs) (key ∷ keys) h =
      all_both P _ _ (of_at is_1_2 o before (span_of x) x.value key (first_span xs) h.0 (first_begins xs h.1)) (found_lines is_1_2 o (Some (span_of x)) xs keys h.1)
