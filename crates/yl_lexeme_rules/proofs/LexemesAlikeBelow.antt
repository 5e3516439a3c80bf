-- What the rules on lexemes find moves with the lexemes.
use Rattle.std.proofs.Common.{◌≡◌, ◌+◌, ℕ, Bool, true, false, cond, nat_lt, List, [], ◌∷◌, ◌++◌, map, Option, Some, None, refl, sym, ◌∙◌, ap, arith}
use Rattle.std.specs.Prelude.{option_map, is_some, not, ◌&&◌, ◌==◌, ◌-◌, max}
use Rattle.std.specs.Option.{option_map_or}
use Rattle.std.proofs.lemmas.List.{map-append}
use Rattle.std.proofs.lemmas.Bool.Decides.{nat_tests}
use Rattle.yl_text.specs.declared.finding.RuleId.{RuleId}
use Rattle.yl_text.specs.declared.finding.RuleId.TheVariants.{Colons, Commas, DocumentStart, Hyphens, QuotedStrings, Truthy}
use Rattle.yl_text.specs.Finding.{FindingValue, one_finding}
use Rattle.yl_lexeme.specs.Lexeme.{LexemeValue, is_comma, is_entry, is_key, is_value}
use Rattle.yl_marks.specs.declared.facts.KeyFacts.{KeyFacts}
use Rattle.yl_lexeme_rules.specs.declared.span.Span.{Span}
use Rattle.yl_lexeme_rules.specs.declared.brackets.Flow.{Flow}
use Rattle.yl_lexeme_rules.specs.declared.brackets.Forbid.{Forbid}
use Rattle.yl_lexeme_rules.specs.declared.brackets.Forbid.TheVariants.{Nothing, NonEmpty, Everything}
use Rattle.yl_lexeme_rules.specs.declared.brackets.BracketsOptions.{BracketsOptions}
use Rattle.yl_lexeme_rules.specs.declared.colons.ColonsOptions.{ColonsOptions}
use Rattle.yl_lexeme_rules.specs.declared.commas.CommasOptions.{CommasOptions}
use Rattle.yl_lexeme_rules.specs.declared.document_start.DocumentStartOptions.{DocumentStartOptions}
use Rattle.yl_lexeme_rules.specs.declared.hyphens.HyphensOptions.{HyphensOptions}
use Rattle.yl_lexeme_rules.specs.declared.options.LexemeOptions.{LexemeOptions}
use Rattle.yl_lexeme_rules.specs.declared.quoted_strings.QuotedStringsOptions.{QuotedStringsOptions}
use Rattle.yl_lexeme_rules.specs.declared.truthy.TruthyOptions.{TruthyOptions}
use Rattle.yl_lexeme_rules.specs.Spans.{distance, is_less, span_of, too_few, too_many, too_many_behind}
use Rattle.yl_lexeme_rules.specs.Brackets.{before_closing, behind_opening_at, brackets, closes, forbidden_finding, forbidden_text, inside, inside_empty, opens, rule_of}
use Rattle.yl_lexeme_rules.specs.Colons.{before_colon, colons, is_alias}
use Rattle.yl_lexeme_rules.specs.Commas.{before_comma, behind_comma, commas, first_comma}
use Rattle.yl_lexeme_rules.specs.DocumentStart.{document_start, is_bare, is_start_marker}
use Rattle.yl_lexeme_rules.specs.Hyphens.{hyphens}
use Rattle.yl_lexeme_rules.specs.Lexemes.{findings_at, findings_behind, first_span}
use Rattle.yl_lexeme_rules.specs.QuotedStrings.{is_misquoted, misquoted_text, quoted_strings}
use Rattle.yl_lexeme_rules.specs.Truthy.{is_truthy, truthy, truthy_text}
use Rattle.yl_lexeme_rules.specs.LexemesAlike.{finding_below, lexeme_below}

-- a lexeme without its value, so many lines below
abbrev pub span_below : ℕ → Span → Span
span_below n x = record x { start = record x.start { line = n + x.start.line }; end_line = n + x.end_line }

-- ---- lines

same_line : (n a b : ℕ) → ((n + a) == (n + b)) ≡ (a == b)
same_line n a b = grind (arith, nat_tests)

line_before : (n a b : ℕ) → nat_lt (n + a) (n + b) ≡ nat_lt a b
line_before n a b = grind (arith, nat_tests)

line_after : (n a : ℕ) → n + a + 1 ≡ n + (a + 1)
line_after n a = omega arith

module _ (n : ℕ) where
  abbrev down : List FindingValue → List FindingValue
  down = map (finding_below n)

  abbrev lower : Option Span → Option Span
  lower = option_map (span_below n)

  -- ---- lists

  both : (fs gs ks ls : List FindingValue) → fs ≡ down ks → gs ≡ down ls → fs ++ gs ≡ down (ks ++ ls)
  both fs gs ks ls p q = ap (λ (l : List FindingValue). l ++ gs) p ∙ ap (λ (l : List FindingValue). down ks ++ l) q ∙ sym (map-append (finding_below n) ks ls)

  either : (b : Bool) (fs gs ks ls : List FindingValue) → fs ≡ down ks → gs ≡ down ls → cond b fs gs ≡ down (cond b ks ls)
  either true fs gs ks ls p q = p
  either false fs gs ks ls p q = q

  either_by : (b c : Bool) (fs gs ks ls : List FindingValue) → b ≡ c → fs ≡ down ks → gs ≡ down ls → cond b fs gs ≡ down (cond c ks ls)
  either_by b c fs gs ks ls e p q = ap (λ (d : Bool). cond d fs gs) e ∙ either c fs gs ks ls p q

  one : (rule : RuleId) (line column : ℕ) (text : List ℕ) → one_finding rule (n + line + 1) column text ≡ down (one_finding rule (line + 1) column text)
  one rule line column text = ap (λ l. one_finding rule l column text) (line_after n line)

  -- ---- distances

  same_distance : (x y : Span) → distance (span_below n x) (span_below n y) ≡ distance x y
  same_distance x y = ap (λ b. cond b (Some (y.start.col - x.end_col)) None) (same_line n x.end_line y.start.line)

  many : (rule : RuleId) (most : Option ℕ) (x y : Span) (text : List ℕ) → too_many rule most (span_below n x) (span_below n y) text ≡ down (too_many rule most x y text)
  many rule most x y text =
      either_by (is_less most (distance (span_below n x) (span_below n y))) (is_less most (distance x y)) _ [] _ [] (ap (is_less most) (same_distance x y))
      (one rule y.start.line y.start.col text) refl

  few : (rule : RuleId) (least : Option ℕ) (x y : Span) (text : List ℕ) → too_few rule least (span_below n x) (span_below n y) text ≡ down (too_few rule least x y text)
  few rule least x y text =
      either_by (is_less (distance (span_below n x) (span_below n y)) least) (is_less (distance x y) least) _ [] _ [] (ap (λ d. is_less d least) (same_distance x y))
      (one rule y.start.line (y.start.col + 1) text) refl

  many_after : (rule : RuleId) (most : Option ℕ) (x : Span) (after : Option Span) (text : List ℕ)
      → too_many_behind rule most (span_below n x) (lower after) text ≡ down (too_many_behind rule most x after text)
  many_after rule most x None text = refl
  many_after rule most x (Some y) text = many rule most x y text

  -- ---- braces and brackets

  inside_moves : (flow : Flow) (o : BracketsOptions) (x y : Span) → inside flow o (span_below n x) (span_below n y) ≡ down (inside flow o x y)
  inside_moves flow o x y = both _ _ _ _ (few (rule_of flow) o.min_spaces_inside x y _) (many (rule_of flow) o.max_spaces_inside x y _)

  inside_empty_moves : (flow : Flow) (o : BracketsOptions) (x y : Span) → inside_empty flow o (span_below n x) (span_below n y) ≡ down (inside_empty flow o x y)
  inside_empty_moves flow o x y = both _ _ _ _ (few (rule_of flow) _ x y _) (many (rule_of flow) _ x y _)

  forbidden_moves : (flow : Flow) (x : Span) → forbidden_finding flow (span_below n x) ≡ down (forbidden_finding flow x)
  forbidden_moves flow x = one (rule_of flow) x.start.line (x.start.col + 2) (forbidden_text flow)

  opening_moves : (flow : Flow) (o : BracketsOptions) (forbid : Forbid) (x : Span) (after : Option Span)
      → behind_opening_at flow o forbid (span_below n x) (lower after) ≡ down (behind_opening_at flow o forbid x after)
  opening_moves flow o Everything x after = forbidden_moves flow x
  opening_moves flow o NonEmpty x None = refl
  opening_moves flow o NonEmpty x (Some y) = either (closes flow y.kind) _ _ _ _ (inside_empty_moves flow o x y) (forbidden_moves flow x)
  opening_moves flow o Nothing x None = refl
  opening_moves flow o Nothing x (Some y) = either (closes flow y.kind) _ _ _ _ (inside_empty_moves flow o x y) (inside_moves flow o x y)

  closing_moves : (flow : Flow) (o : BracketsOptions) (before : Option Span) (y : Span) → before_closing flow o (lower before) (span_below n y) ≡ down (before_closing flow o before y)
  closing_moves flow o None y = refl
  closing_moves flow o (Some x) y = either (opens flow x.kind) [] _ [] _ refl (inside_moves flow o x y)

  brackets_move : (flow : Flow) (o : Option BracketsOptions) (before : Option Span) (x : Span) (after : Option Span)
      → brackets flow o (lower before) (span_below n x) (lower after) ≡ down (brackets flow o before x after)
  brackets_move flow None before x after = refl
  brackets_move flow (Some o) before x after =
      either (opens flow x.kind) _ _ _ _ (opening_moves flow o o.forbid x after) (either (closes flow x.kind) _ [] _ [] (closing_moves flow o before x) refl)

  -- ---- the other rules

  before_colon_moves : (o : ColonsOptions) (before : Option Span) (y : Span) → before_colon o (lower before) (span_below n y) ≡ down (before_colon o before y)
  before_colon_moves o None y = refl
  before_colon_moves o (Some x) y =
      let is_one : Option ℕ → Bool = λ d. is_alias x.kind && option_map_or (λ k. k == 1) d false in
      either_by (is_one (distance (span_below n x) (span_below n y))) (is_one (distance x y)) [] _ [] _ (ap is_one (same_distance x y))
      refl (many Colons o.max_spaces_before x y _)

  colons_move : (o : Option ColonsOptions) (before : Option Span) (x : Span) (after : Option Span) → colons o (lower before) (span_below n x) (lower after) ≡ down (colons o before x after)
  colons_move None before x after = refl
  colons_move (Some o) before x after =
      either (is_value x.kind) _ _ _ _ (both _ _ _ _ (before_colon_moves o before x) (many_after Colons o.max_spaces_after x after _))
      (either (is_key x.kind) _ [] _ [] (many_after Colons o.max_spaces_after x after _) refl)

  first_comma_moves : (o : CommasOptions) (y : Span) → first_comma o (span_below n y) ≡ down (first_comma o y)
  first_comma_moves o y = either (is_some o.max_spaces_before) _ [] _ [] (one Commas y.start.line (max 1 y.start.col) _) refl

  before_comma_moves : (o : CommasOptions) (before : Option Span) (y : Span) → before_comma o (lower before) (span_below n y) ≡ down (before_comma o before y)
  before_comma_moves o None y = refl
  before_comma_moves o (Some x) y =
      either_by (nat_lt (n + x.end_line) (n + y.start.line)) (nat_lt x.end_line y.start.line) _ _ _ _ (line_before n x.end_line y.start.line)
      (first_comma_moves o y) (many Commas o.max_spaces_before x y _)

  after_comma_moves : (o : CommasOptions) (x : Span) (after : Option Span) → behind_comma o (span_below n x) (lower after) ≡ down (behind_comma o x after)
  after_comma_moves o x None = refl
  after_comma_moves o x (Some y) = both _ _ _ _ (few Commas o.min_spaces_after x y _) (many Commas o.max_spaces_after x y _)

  commas_move : (o : Option CommasOptions) (before : Option Span) (x : Span) (after : Option Span) → commas o (lower before) (span_below n x) (lower after) ≡ down (commas o before x after)
  commas_move None before x after = refl
  commas_move (Some o) before x after = either (is_comma x.kind) _ [] _ [] (both _ _ _ _ (before_comma_moves o before x) (after_comma_moves o x after)) refl

  hyphens_move : (o : Option HyphensOptions) (x : Span) (after : Option Span) → hyphens o (span_below n x) (lower after) ≡ down (hyphens o x after)
  hyphens_move None x after = refl
  hyphens_move (Some o) x after = either (is_entry x.kind) _ [] _ [] (many_after Hyphens o.max_spaces_after x after _) refl

  bare_stays : (before : Option Span) (x : Span) → is_bare (lower before) (span_below n x) ≡ is_bare before x
  bare_stays None x = refl
  bare_stays (Some y) x = refl

  document_start_moves : (o : Option DocumentStartOptions) (before : Option Span) (x : Span) → document_start o (lower before) (span_below n x) ≡ down (document_start o before x)
  document_start_moves None before x = refl
  document_start_moves (Some o) before x =
      either_by (o.present && is_bare (lower before) (span_below n x)) (o.present && is_bare before x) _ _ _ _ (ap (λ b. o.present && b) (bare_stays before x))
      (one DocumentStart x.start.line 1 _)
      (either (not o.present && is_start_marker x.kind) _ [] _ [] (one DocumentStart x.start.line (x.start.col + 1) _) refl)

  truthy_moves : (is_1_2 : Bool) (o : Option TruthyOptions) (x : Span) (value : List ℕ) (key : KeyFacts) → truthy is_1_2 o (span_below n x) value key ≡ down (truthy is_1_2 o x value key)
  truthy_moves is_1_2 None x value key = refl
  truthy_moves is_1_2 (Some o) x value key =
      either (is_truthy is_1_2 o x.kind value key) _ [] _ [] (one Truthy x.start.line (x.start.col + 1) (truthy_text o.allowed_values)) refl

  quoted_strings_move : (o : Option QuotedStringsOptions) (x : Span) (value : List ℕ) (key : KeyFacts) → quoted_strings o (span_below n x) value key ≡ down (quoted_strings o x value key)
  quoted_strings_move None x value key = refl
  quoted_strings_move (Some o) x value key =
      either (not key.has_tag && not key.is_key && is_misquoted o.required o.quote_type x.kind value) _ [] _ []
      (one QuotedStrings x.start.line (x.start.col + 1) (misquoted_text o.quote_type)) refl

  -- ---- lexemes one after another

  at_moves : (v : Bool) (o : LexemeOptions) (before : Option Span) (x : Span) (value : List ℕ) (key : KeyFacts) (after : Option Span)
      → findings_at v o (lower before) (span_below n x) value key (lower after) ≡ down (findings_at v o before x value key after)
  at_moves v o before x value key after =
      rw (
        brackets_move _ o.braces before x after,
        brackets_move _ o.brackets before x after,
        commas_move o.commas before x after,
        colons_move o.colons before x after,
        hyphens_move o.hyphens x after,
        document_start_moves o.document_start before x,
        truthy_moves v o.truthy x value key,
        quoted_strings_move o.quoted_strings x value key,
      )
      (simp map-append)

  first_moves : (xs : List LexemeValue) → first_span (map (lexeme_below n) xs) ≡ lower (first_span xs)
  first_moves [] = refl
  first_moves (x ∷ xs) = refl

  -- lexemes after another, all so many lines below
  pub findings_move : (v : Bool) (o : LexemeOptions) (before : Option Span) (xs : List LexemeValue) (ks : List KeyFacts)
      → findings_behind v o (option_map (span_below n) before) (map (lexeme_below n) xs) ks ≡ map (finding_below n) (findings_behind v o before xs ks)
  findings_move v o before [] ks = refl
  findings_move v o before (x ∷ xs) [] = refl
  findings_move v o before (x ∷ xs) (key ∷ ks) =
      both _ _ _ _
      (ap (λ (after : Option Span). findings_at v o (lower before) (span_below n (span_of x)) x.value key after) (first_moves xs)
      ∙ at_moves v o before (span_of x) x.value key (first_span xs))
      (findings_move v o (Some (span_of x)) xs ks)
