-- What the rules on lexemes find in lexemes of a text's first lines stands in these lines.
use Rattle.std.proofs.Common.{◌<◌, ℕ, ◌+◌, Bool, List, [], ◌∷◌, Option, Some, None, take}
use Rattle.std.specs.Prelude.{IfSome, is_some, not, ◌&&◌, ◌==◌, false, nat_lt, max}
use Rattle.std.specs.Option.{option_map_or}
use Rattle.std.specs.List.{AllByRecursion}
use Rattle.yl_text.specs.declared.finding.RuleId.{RuleId}
use Rattle.yl_text.specs.declared.finding.RuleId.TheVariants.{Braces, Brackets, Colons, Commas, DocumentStart, Hyphens, QuotedStrings, Truthy}
use Rattle.yl_text.specs.Finding.{FindingValue, one_finding}
use Rattle.yl_text.proofs.Every.{all_both, all_either, all_if, all_take}
use Rattle.yl_lexeme.specs.Lexeme.{LexemeValue, is_comma, is_entry, is_key, is_value}
use Rattle.yl_marks.specs.declared.facts.KeyFacts.{KeyFacts}
use Rattle.yl_marks.specs.Facts.{key_facts}
use Rattle.yl_lexeme_rules.specs.declared.span.Span.{Span}
use Rattle.yl_lexeme_rules.specs.declared.brackets.Flow.{Flow}
use Rattle.yl_lexeme_rules.specs.declared.brackets.Flow.TheVariants.{Mapping, Sequence}
use Rattle.yl_lexeme_rules.specs.declared.brackets.Forbid.{Forbid}
use Rattle.yl_lexeme_rules.specs.declared.brackets.Forbid.TheVariants.{Nothing, NonEmpty, Everything}
use Rattle.yl_lexeme_rules.specs.declared.brackets.BracketsOptions.{BracketsOptions}
use Rattle.yl_lexeme_rules.specs.declared.colons.ColonsOptions.{ColonsOptions}
use Rattle.yl_lexeme_rules.specs.declared.commas.CommasOptions.{CommasOptions}
use Rattle.yl_lexeme_rules.specs.declared.document_start.DocumentStartOptions.{DocumentStartOptions}
use Rattle.yl_lexeme_rules.specs.declared.hyphens.HyphensOptions.{HyphensOptions}
use Rattle.yl_lexeme_rules.specs.declared.options.LexemeOptions.{LexemeOptions}
use Rattle.yl_lexeme_rules.specs.declared.quoted_strings.QuotedStringsOptions.{QuotedStringsOptions}
use Rattle.yl_lexeme_rules.specs.declared.truthy.TruthyOptions.{TruthyOptions}
use Rattle.yl_lexeme_rules.specs.Spans.{distance, is_less, span_of, too_few, too_many, too_many_behind}
use Rattle.yl_lexeme_rules.specs.Brackets.{before_closing, behind_opening_at, brackets, closes, forbidden_finding, forbidden_text, inside, inside_empty, opens, rule_of}
use Rattle.yl_lexeme_rules.specs.Colons.{before_colon, colons, is_alias}
use Rattle.yl_lexeme_rules.specs.Commas.{before_comma, behind_comma, commas, first_comma}
use Rattle.yl_lexeme_rules.specs.DocumentStart.{document_start, is_bare, is_start_marker}
use Rattle.yl_lexeme_rules.specs.Hyphens.{hyphens}
use Rattle.yl_lexeme_rules.specs.Lexemes.{findings_at, findings_behind, first_span, lexeme_findings}
use Rattle.yl_lexeme_rules.specs.QuotedStrings.{is_misquoted, quoted_strings}
use Rattle.yl_lexeme_rules.specs.Truthy.{is_truthy, truthy}
use Rattle.yl_lexeme_rules.specs.Version.{is_1_2_document}

-- something holds of the rules on lexemes
pub record OfLexemeRules (K : RuleId → Type 0) : Type 0 where
  pub braces : K Braces
  pub brackets : K Brackets
  pub colons : K Colons
  pub commas : K Commas
  pub document_start : K DocumentStart
  pub hyphens : K Hyphens
  pub quoted_strings : K QuotedStrings
  pub truthy : K Truthy

rule_holds : (K : RuleId → Type 0) → OfLexemeRules K → (flow : Flow) → K (rule_of flow)
rule_holds K k Mapping = k.braces
rule_holds K k Sequence = k.brackets

-- what holds of each problem that such a rule finds in these lines
module _ (K : RuleId → Type 0) (k : OfLexemeRules K) (rows : ℕ) (P : FindingValue → Type 0)
    (own : (rule : RuleId) (line column : ℕ) (text : List ℕ) → K rule → line < rows → P (record { line = line + 1; column = column; rule = rule; message = text })) where
  -- it begins in these lines
  abbrev Begins : Span → Type 0
  Begins x = x.start.line < rows

  abbrev Every : List FindingValue → Type 0
  Every fs = AllByRecursion P fs

  one : (rule : RuleId) (line column : ℕ) (text : List ℕ) → K rule → line < rows → Every (one_finding rule (line + 1) column text)
  one rule line column text r h = (own rule line column text r h, tt)

  -- ---- distances

  many : (rule : RuleId) (most : Option ℕ) (x y : Span) (text : List ℕ) → K rule → Begins y → Every (too_many rule most x y text)
  many rule most x y text r h = all_if P (is_less most (distance x y)) _ (one rule y.start.line y.start.col text r h)

  few : (rule : RuleId) (least : Option ℕ) (x y : Span) (text : List ℕ) → K rule → Begins y → Every (too_few rule least x y text)
  few rule least x y text r h = all_if P (is_less (distance x y) least) _ (one rule y.start.line (y.start.col + 1) text r h)

  many_behind : (rule : RuleId) (most : Option ℕ) (x : Span) (after : Option Span) (text : List ℕ) → K rule → IfSome after Begins → Every (too_many_behind rule most x after text)
  many_behind rule most x None text r h = tt
  many_behind rule most x (Some y) text r h = many rule most x y text r h

  -- ---- braces and brackets

  own_inside : (flow : Flow) (o : BracketsOptions) (x y : Span) → Begins y → Every (inside flow o x y)
  own_inside flow o x y h = all_both P _ _ (few (rule_of flow) o.min_spaces_inside x y _ (rule_holds K k flow) h) (many (rule_of flow) o.max_spaces_inside x y _ (rule_holds K k flow) h)

  own_inside_empty : (flow : Flow) (o : BracketsOptions) (x y : Span) → Begins y → Every (inside_empty flow o x y)
  own_inside_empty flow o x y h = all_both P _ _ (few (rule_of flow) _ x y _ (rule_holds K k flow) h) (many (rule_of flow) _ x y _ (rule_holds K k flow) h)

  own_forbidden : (flow : Flow) (x : Span) → Begins x → Every (forbidden_finding flow x)
  own_forbidden flow x h = one (rule_of flow) x.start.line (x.start.col + 2) (forbidden_text flow) (rule_holds K k flow) h

  own_opening : (flow : Flow) (o : BracketsOptions) (forbid : Forbid) (x : Span) (after : Option Span) → Begins x → IfSome after Begins → Every (behind_opening_at flow o forbid x after)
  own_opening flow o Everything x after h g = own_forbidden flow x h
  own_opening flow o NonEmpty x None h g = tt
  own_opening flow o NonEmpty x (Some y) h g = all_either P (closes flow y.kind) _ _ (own_inside_empty flow o x y g) (own_forbidden flow x h)
  own_opening flow o Nothing x None h g = tt
  own_opening flow o Nothing x (Some y) h g = all_either P (closes flow y.kind) _ _ (own_inside_empty flow o x y g) (own_inside flow o x y g)

  own_closing : (flow : Flow) (o : BracketsOptions) (before : Option Span) (y : Span) → Begins y → Every (before_closing flow o before y)
  own_closing flow o None y h = tt
  own_closing flow o (Some x) y h = all_either P (opens flow x.kind) [] _ tt (own_inside flow o x y h)

  own_brackets : (flow : Flow) (o : Option BracketsOptions) (before : Option Span) (x : Span) (after : Option Span) → Begins x → IfSome after Begins → Every (brackets flow o before x after)
  own_brackets flow None before x after h g = tt
  own_brackets flow (Some o) before x after h g =
      all_either P (opens flow x.kind) _ _ (own_opening flow o o.forbid x after h g) (all_if P (closes flow x.kind) _ (own_closing flow o before x h))

  -- ---- the other rules

  own_before_colon : (o : ColonsOptions) (before : Option Span) (y : Span) → Begins y → Every (before_colon o before y)
  own_before_colon o None y h = tt
  own_before_colon o (Some x) y h = all_either P (is_alias x.kind && option_map_or (λ n. n == 1) (distance x y) false) [] _ tt (many Colons o.max_spaces_before x y _ k.colons h)

  own_colons : (o : Option ColonsOptions) (before : Option Span) (x : Span) (after : Option Span) → Begins x → IfSome after Begins → Every (colons o before x after)
  own_colons None before x after h g = tt
  own_colons (Some o) before x after h g =
      all_either P (is_value x.kind) _ _ (all_both P _ _ (own_before_colon o before x h) (many_behind Colons o.max_spaces_after x after _ k.colons g))
      (all_if P (is_key x.kind) _ (many_behind Colons o.max_spaces_after x after _ k.colons g))

  own_first_comma : (o : CommasOptions) (y : Span) → Begins y → Every (first_comma o y)
  own_first_comma o y h = all_if P (is_some o.max_spaces_before) _ (one Commas y.start.line (max 1 y.start.col) _ k.commas h)

  own_before_comma : (o : CommasOptions) (before : Option Span) (y : Span) → Begins y → Every (before_comma o before y)
  own_before_comma o None y h = tt
  own_before_comma o (Some x) y h = all_either P (nat_lt x.end_line y.start.line) _ _ (own_first_comma o y h) (many Commas o.max_spaces_before x y _ k.commas h)

  own_behind_comma : (o : CommasOptions) (x : Span) (after : Option Span) → IfSome after Begins → Every (behind_comma o x after)
  own_behind_comma o x None g = tt
  own_behind_comma o x (Some y) g = all_both P _ _ (few Commas o.min_spaces_after x y _ k.commas g) (many Commas o.max_spaces_after x y _ k.commas g)

  own_commas : (o : Option CommasOptions) (before : Option Span) (x : Span) (after : Option Span) → Begins x → IfSome after Begins → Every (commas o before x after)
  own_commas None before x after h g = tt
  own_commas (Some o) before x after h g = all_if P (is_comma x.kind) _ (all_both P _ _ (own_before_comma o before x h) (own_behind_comma o x after g))

  own_hyphens : (o : Option HyphensOptions) (x : Span) (after : Option Span) → IfSome after Begins → Every (hyphens o x after)
  own_hyphens None x after g = tt
  own_hyphens (Some o) x after g = all_if P (is_entry x.kind) _ (many_behind Hyphens o.max_spaces_after x after _ k.hyphens g)

  own_document_start : (o : Option DocumentStartOptions) (before : Option Span) (x : Span) → Begins x → Every (document_start o before x)
  own_document_start None before x h = tt
  own_document_start (Some o) before x h =
      all_either P (o.present && is_bare before x) _ _ (one DocumentStart x.start.line 1 _ k.document_start h)
      (all_if P (not o.present && is_start_marker x.kind) _ (one DocumentStart x.start.line (x.start.col + 1) _ k.document_start h))

  own_truthy : (is_1_2 : Bool) (o : Option TruthyOptions) (x : Span) (value : List ℕ) (key : KeyFacts) → Begins x → Every (truthy is_1_2 o x value key)
  own_truthy is_1_2 None x value key h = tt
  own_truthy is_1_2 (Some o) x value key h = all_if P (is_truthy is_1_2 o x.kind value key) _ (one Truthy x.start.line (x.start.col + 1) _ k.truthy h)

  own_quoted_strings : (o : Option QuotedStringsOptions) (x : Span) (value : List ℕ) (key : KeyFacts) → Begins x → Every (quoted_strings o x value key)
  own_quoted_strings None x value key h = tt
  own_quoted_strings (Some o) x value key h =
      all_if P (not key.has_tag && not key.is_key && is_misquoted o.required o.quote_type x.kind value) _ (one QuotedStrings x.start.line (x.start.col + 1) _ k.quoted_strings h)

  -- ---- lexemes one after another

  own_at : (is_1_2 : Bool) (o : LexemeOptions) (before : Option Span) (s : Span) (value : List ℕ) (key : KeyFacts) (after : Option Span)
      → Begins s → IfSome after Begins → Every (findings_at is_1_2 o before s value key after)
  own_at is_1_2 o before s value key after h g =
      all_both P _ _
      (all_both P _ _ (own_brackets Mapping o.braces before s after h g) (all_both P _ _ (own_brackets Sequence o.brackets before s after h g) (own_commas o.commas before s after h g)))
      (all_both P _ _
      (all_both P _ _ (own_colons o.colons before s after h g) (all_both P _ _ (own_hyphens o.hyphens s after g) (own_document_start o.document_start before s h)))
      (all_both P _ _ (own_truthy is_1_2 o.truthy s value key h) (own_quoted_strings o.quoted_strings s value key h)))

  first_begins : (xs : List LexemeValue) → AllByRecursion (λ x. x.start.line < rows) xs → IfSome (first_span xs) Begins
  first_begins [] h = tt
  first_begins (x ∷ xs) h = h.0

  own_behind : (is_1_2 : Bool) (o : LexemeOptions) (before : Option Span) (xs : List LexemeValue) (keys : List KeyFacts)
      → AllByRecursion (λ x. x.start.line < rows) xs → Every (findings_behind is_1_2 o before xs keys)
  own_behind is_1_2 o before [] keys h = tt
  own_behind is_1_2 o before (x ∷ xs) [] h = tt
  own_behind is_1_2 o before (x ∷ xs) (key ∷ keys) h =
      all_both P _ _ (own_at is_1_2 o before (span_of x) x.value key (first_span xs) h.0 (first_begins xs h.1)) (own_behind is_1_2 o (Some (span_of x)) xs keys h.1)

  pub own_lexemes : (o : LexemeOptions) (counted : ℕ) (xs : List LexemeValue) → AllByRecursion (λ x. x.start.line < rows) xs → AllByRecursion P (lexeme_findings o counted xs)
  own_lexemes o counted xs h = own_behind (is_1_2_document xs) o None (take counted xs) (key_facts xs) (all_take (λ (x : LexemeValue). x.start.line < rows) xs counted h)
