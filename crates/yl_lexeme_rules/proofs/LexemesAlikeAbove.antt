-- Of a lexeme in a line above the rules on lexemes know its kind alone.
use Rattle.std.proofs.Common.{◌≡◌, ◌<◌, ℕ, Bool, true, false, cond, List, [], ◌∷◌, ◌++◌, Option, Some, None, refl, sym, ◌∙◌, ap, arith}
use Rattle.std.specs.Prelude.{IfSome, codes, option_map, not, ◌&&◌, ◌==◌, ◌-◌}
use Rattle.std.specs.Option.{option_map_or}
use Rattle.std.proofs.lemmas.Bool.{lt-ltb}
use Rattle.std.proofs.lemmas.Bool.Decides.{nat_tests}
use Rattle.yl_text.specs.declared.position.Pos.{Pos}
use Rattle.yl_text.specs.declared.finding.RuleId.{RuleId}
use Rattle.yl_text.specs.declared.finding.RuleId.TheVariants.{Colons, Commas}
use Rattle.yl_text.specs.Finding.{FindingValue}
use Rattle.yl_lexeme.specs.declared.lexeme.Kind.{Kind}
use Rattle.yl_lexeme.specs.declared.lexeme.Kind.TheVariants.{Entry, Key, Value, Comma, SeqOpen, SeqClose, MapOpen, MapClose}
use Rattle.yl_lexeme.specs.Lexeme.{LexemeValue, is_comma, is_document_marker, is_entry, is_opening}
use Rattle.yl_lexeme.specs.Directives.{is_directive}
use Rattle.yl_marks.specs.declared.facts.KeyFacts.{KeyFacts}
use Rattle.yl_lexeme_rules.specs.declared.span.Span.{Span}
use Rattle.yl_lexeme_rules.specs.declared.brackets.Flow.{Flow}
use Rattle.yl_lexeme_rules.specs.declared.brackets.BracketsOptions.{BracketsOptions}
use Rattle.yl_lexeme_rules.specs.declared.colons.ColonsOptions.{ColonsOptions}
use Rattle.yl_lexeme_rules.specs.declared.commas.CommasOptions.{CommasOptions}
use Rattle.yl_lexeme_rules.specs.declared.document_start.DocumentStartOptions.{DocumentStartOptions}
use Rattle.yl_lexeme_rules.specs.declared.hyphens.HyphensOptions.{HyphensOptions}
use Rattle.yl_lexeme_rules.specs.declared.options.LexemeOptions.{LexemeOptions}
use Rattle.yl_lexeme_rules.specs.Spans.{distance, is_less, span_of, too_few, too_many}
use Rattle.yl_lexeme_rules.specs.Brackets.{before_closing, behind_opening_at, brackets, closes, inside, opens, rule_of}
use Rattle.yl_lexeme_rules.specs.Colons.{before_colon, colons, is_alias}
use Rattle.yl_lexeme_rules.specs.Commas.{before_comma, behind_comma, commas, first_comma}
use Rattle.yl_lexeme_rules.specs.DocumentStart.{document_start, is_bare, is_end_marker}
use Rattle.yl_lexeme_rules.specs.Hyphens.{hyphens}
use Rattle.yl_lexeme_rules.specs.Kinds.{indicator_findings}
use Rattle.yl_lexeme_rules.specs.Lexemes.{findings_at, findings_behind, first_span}

-- a lexeme, if there is one, ends above this line
abbrev pub EndsAbove : Option Span → ℕ → Type 0
EndsAbove p line = IfSome p (λ x. x.end_line < line)

-- the kind of a lexeme, if there is one
abbrev pub kind_of : Option Span → Option Kind
kind_of p = option_map (λ x. x.kind) p

-- ---- nothing is found of the distance of two lexemes in different lines

not_same : (a b : ℕ) → a < b → (a == b) ≡ false
not_same a b h = grind (arith, nat_tests)

no_distance : (x y : Span) → x.end_line < y.start.line → distance x y ≡ None
no_distance x y h = ap (λ b. cond b (Some (y.start.col - x.end_col)) None) (not_same x.end_line y.start.line h)

none_less : (most : Option ℕ) → is_less most None ≡ false
none_less None = refl
none_less (Some m) = refl

not_many : (rule : RuleId) (most : Option ℕ) (x y : Span) (text : List ℕ) → x.end_line < y.start.line → too_many rule most x y text ≡ []
not_many rule most x y text h = rw (no_distance x y h, none_less most)

not_few : (rule : RuleId) (least : Option ℕ) (x y : Span) (text : List ℕ) → x.end_line < y.start.line → too_few rule least x y text ≡ []
not_few rule least x y text h = rw (no_distance x y h)

none_both : (fs gs : List FindingValue) → fs ≡ [] → gs ≡ [] → fs ++ gs ≡ []
none_both fs gs p q = rw (p, q)

none_inside : (flow : Flow) (o : BracketsOptions) (x y : Span) → x.end_line < y.start.line → inside flow o x y ≡ []
none_inside flow o x y h = none_both _ _ (not_few (rule_of flow) o.min_spaces_inside x y _ h) (not_many (rule_of flow) o.max_spaces_inside x y _ h)

none_either : (b : Bool) (fs : List FindingValue) → fs ≡ [] → cond b [] fs ≡ []
none_either true fs p = refl
none_either false fs p = p

-- ---- each rule, at a lexeme in the first of some rows

none_before_closing : (flow : Flow) (o : BracketsOptions) (p : Option Span) (y : Span) → EndsAbove p y.start.line → before_closing flow o p y ≡ []
none_before_closing flow o None y h = refl
none_before_closing flow o (Some x) y h = none_either (opens flow x.kind) _ (none_inside flow o x y h)

same_brackets : (flow : Flow) (o : Option BracketsOptions) (p q : Option Span) (y : Span) (after : Option Span)
    → EndsAbove p y.start.line → EndsAbove q y.start.line → brackets flow o p y after ≡ brackets flow o q y after
same_brackets flow None p q y after f g = refl
same_brackets flow (Some o) p q y after f g =
    ap (λ (l : List FindingValue). cond (opens flow y.kind) (behind_opening_at flow o o.forbid y after) (cond (closes flow y.kind) l []))
    (none_before_closing flow o p y f ∙ sym (none_before_closing flow o q y g))

none_before_colon : (o : ColonsOptions) (p : Option Span) (y : Span) → EndsAbove p y.start.line → before_colon o p y ≡ []
none_before_colon o None y h = refl
none_before_colon o (Some x) y h =
    none_either (is_alias x.kind && option_map_or (λ n. n == 1) (distance x y) false) _ (not_many Colons o.max_spaces_before x y _ h)

same_colons : (o : Option ColonsOptions) (p q : Option Span) (y : Span) (after : Option Span)
    → EndsAbove p y.start.line → EndsAbove q y.start.line → colons o p y after ≡ colons o q y after
same_colons None p q y after f g = refl
same_colons (Some o) p q y after f g =
    rw (none_before_colon o p y f, none_before_colon o q y g)

first_comma_of : (o : CommasOptions) (x y : Span) → x.end_line < y.start.line → before_comma o (Some x) y ≡ first_comma o y
first_comma_of o x y h = rw (lt-ltb x.end_line y.start.line h)

same_before_comma : (o : CommasOptions) (p q : Option Span) (y : Span)
    → kind_of p ≡ kind_of q → EndsAbove p y.start.line → EndsAbove q y.start.line → before_comma o p y ≡ before_comma o q y
same_before_comma o None None y e f g = refl
same_before_comma o None (Some z) y e f g = cc
same_before_comma o (Some x) None y e f g = cc
same_before_comma o (Some x) (Some z) y e f g = first_comma_of o x y f ∙ sym (first_comma_of o z y g)

same_commas : (o : Option CommasOptions) (p q : Option Span) (y : Span) (after : Option Span)
    → kind_of p ≡ kind_of q → EndsAbove p y.start.line → EndsAbove q y.start.line → commas o p y after ≡ commas o q y after
same_commas None p q y after e f g = refl
same_commas (Some o) p q y after e f g =
    ap (λ (l : List FindingValue). cond (is_comma y.kind) (l ++ behind_comma o y after) []) (same_before_comma o p q y e f g)

same_choice : (b c : Bool) (fs gs : List FindingValue) → b ≡ c → cond b fs gs ≡ cond c fs gs
same_choice b c fs gs e = ap (λ (d : Bool). cond d fs gs) e

bare_by_kind : (p : Option Span) → option_map_or (λ y. is_end_marker y.kind) p true ≡ option_map_or is_end_marker (kind_of p) true
bare_by_kind None = refl
bare_by_kind (Some x) = refl

same_bare : (p q : Option Span) (y : Span) → kind_of p ≡ kind_of q → is_bare p y ≡ is_bare q y
same_bare p q y e =
    ap (λ b. not (is_directive y.kind) && not (is_document_marker y.kind) && b)
    (bare_by_kind p ∙ ap (λ k. option_map_or is_end_marker k true) e ∙ sym (bare_by_kind q))

same_document_start : (o : Option DocumentStartOptions) (p q : Option Span) (y : Span) → kind_of p ≡ kind_of q → document_start o p y ≡ document_start o q y
same_document_start None p q y e = refl
same_document_start (Some o) p q y e =
    same_choice (o.present && is_bare p y) (o.present && is_bare q y) _ _ (ap (λ b. o.present && b) (same_bare p q y e))

same_at : (v : Bool) (o : LexemeOptions) (p q : Option Span) (y : Span) (value : List ℕ) (key : KeyFacts) (after : Option Span)
    → kind_of p ≡ kind_of q → EndsAbove p y.start.line → EndsAbove q y.start.line → findings_at v o p y value key after ≡ findings_at v o q y value key after
same_at v o p q y value key after e f g =
    rw (
      same_brackets _ o.braces p q y after f g,
      same_brackets _ o.brackets p q y after f g,
      same_commas o.commas p q y after e f g,
      same_colons o.colons p q y after f g,
      same_document_start o.document_start p q y e,
    )

-- after lexemes above that are of one kind the same is found
pub same_findings : (v : Bool) (o : LexemeOptions) (p q : Option Span) (xs : List LexemeValue) (ks : List KeyFacts)
    → kind_of p ≡ kind_of q → IfSome (first_span xs) (λ y. EndsAbove p y.start.line) → IfSome (first_span xs) (λ y. EndsAbove q y.start.line)
    → findings_behind v o p xs ks ≡ findings_behind v o q xs ks
same_findings v o p q [] ks e f g = refl
same_findings v o p q (x ∷ xs) [] e f g = refl
same_findings v o p q (x ∷ xs) (key ∷ ks) e f g =
    ap (λ (l : List FindingValue). l ++ findings_behind v o (Some (span_of x)) xs ks) (same_at v o p q (span_of x) x.value key (first_span xs) e f g)

-- ---- each rule, at the last lexeme above some rows

abbrev span : Kind → Pos → ℕ → ℕ → Span
span kind start line col = record { kind = kind; start = start; end_line = line; end_col = col }

ended_commas : (o : Option CommasOptions) (before : Option Span) (x y : Span) → x.end_line < y.start.line → commas o before x (Some y) ≡ commas o before x None
ended_commas None before x y h = refl
ended_commas (Some o) before x y h =
    ap (λ (l : List FindingValue). cond (is_comma x.kind) (before_comma o before x ++ l) [])
    (none_both _ _ (not_few Commas o.min_spaces_after x y _ h) (not_many Commas o.max_spaces_after x y _ h))

ended_colons : (o : Option ColonsOptions) (before : Option Span) (x y : Span) → x.end_line < y.start.line → colons o before x (Some y) ≡ colons o before x None
ended_colons None before x y h = refl
ended_colons (Some o) before x y h =
    let nothing : (text : List ℕ) → too_many Colons o.max_spaces_after x y text ≡ [] = λ text. not_many Colons o.max_spaces_after x y text h in
    rw (nothing (codes "too many spaces after colon"), nothing (codes "too many spaces after question mark"))

ended_hyphens : (o : Option HyphensOptions) (x y : Span) → x.end_line < y.start.line → hyphens o x (Some y) ≡ hyphens o x None
ended_hyphens None x y h = refl
ended_hyphens (Some o) x y h =
    ap (λ (l : List FindingValue). cond (is_entry x.kind) l []) (not_many _ o.max_spaces_after x y _ h)

-- a closing brace
ended_mapping : (braces : Option BracketsOptions) (o : LexemeOptions) (before : Option Span) (start : Pos) (line col : ℕ) (after : Option Span)
    → indicator_findings MapClose (record o { braces = braces }) before (span MapClose start line col) after
    ≡ indicator_findings MapClose (record o { braces = braces }) before (span MapClose start line col) None
ended_mapping None o before start line col after = refl
ended_mapping (Some p) o before start line col after = refl

-- a closing bracket
ended_sequence : (brackets : Option BracketsOptions) (o : LexemeOptions) (before : Option Span) (start : Pos) (line col : ℕ) (after : Option Span)
    → indicator_findings SeqClose (record o { brackets = brackets }) before (span SeqClose start line col) after
    ≡ indicator_findings SeqClose (record o { brackets = brackets }) before (span SeqClose start line col) None
ended_sequence None o before start line col after = refl
ended_sequence (Some p) o before start line col after = refl

-- an indicator that is no opening bracket: a lexeme in a line below is nothing to it
ended_at : (kind : Kind) (o : LexemeOptions) (before : Option Span) (start : Pos) (line col : ℕ) (y : Span)
    → is_opening kind ≡ false → line < y.start.line
    → indicator_findings kind o before (span kind start line col) (Some y) ≡ indicator_findings kind o before (span kind start line col) None
ended_at MapOpen o before start line col y s h = cc
ended_at SeqOpen o before start line col y s h = cc
ended_at MapClose o before start line col y s h = ended_mapping o.braces o before start line col (Some y)
ended_at SeqClose o before start line col y s h = ended_sequence o.brackets o before start line col (Some y)
ended_at Comma o before start line col y s h = ended_commas o.commas before (span Comma start line col) y h
ended_at Value o before start line col y s h = ended_colons o.colons before (span Value start line col) y h
ended_at Key o before start line col y s h = ended_colons o.colons before (span Key start line col) y h
ended_at Entry o before start line col y s h = ended_hyphens o.hyphens (span Entry start line col) y h
ended_at _ o before start line col y s h = refl

pub ended_indicator : (o : LexemeOptions) (before : Option Span) (x y : Span) → is_opening x.kind ≡ false → x.end_line < y.start.line
    → indicator_findings x.kind o before x (Some y) ≡ indicator_findings x.kind o before x None
ended_indicator o before x y s h = ended_at x.kind o before x.start x.end_line x.end_col y s h
