-- At a lexeme of each kind most of the rules find nothing.
use Rattle.std.proofs.Common.{◌≡◌, ℕ, Bool, false, List, [], ◌++◌, Option, Some, None, refl, ◌∙◌, ap, append_assoc, append-nil}
use Rattle.yl_lexeme.specs.declared.lexeme.Kind.{Kind}
use Rattle.yl_lexeme.specs.declared.lexeme.Kind.TheVariants.{Directive, DocStart, DocEnd, Entry, Key, Value, Comma, SeqOpen, SeqClose, MapOpen, MapClose, Alias, Anchor, Tag, Scalar}
use Rattle.yl_lexeme.specs.Lexeme.{is_comma, is_entry, is_key, is_value}
use Rattle.yl_marks.specs.declared.facts.KeyFacts.{KeyFacts}
use Rattle.yl_text.specs.declared.position.Pos.{Pos}
use Rattle.yl_text.specs.Finding.{FindingValue}
use Rattle.yl_lexeme_rules.specs.declared.span.Span.{Span}
use Rattle.yl_lexeme_rules.specs.declared.brackets.Flow.{Flow}
use Rattle.yl_lexeme_rules.specs.declared.brackets.Flow.TheVariants.{Mapping, Sequence}
use Rattle.yl_lexeme_rules.specs.declared.brackets.BracketsOptions.{BracketsOptions}
use Rattle.yl_lexeme_rules.specs.declared.colons.ColonsOptions.{ColonsOptions}
use Rattle.yl_lexeme_rules.specs.declared.commas.CommasOptions.{CommasOptions}
use Rattle.yl_lexeme_rules.specs.declared.hyphens.HyphensOptions.{HyphensOptions}
use Rattle.yl_lexeme_rules.specs.declared.options.LexemeOptions.{LexemeOptions}
use Rattle.yl_lexeme_rules.specs.Brackets.{brackets, closes, opens}
use Rattle.yl_lexeme_rules.specs.Colons.{colons}
use Rattle.yl_lexeme_rules.specs.Commas.{commas}
use Rattle.yl_lexeme_rules.specs.DocumentStart.{document_start}
use Rattle.yl_lexeme_rules.specs.Hyphens.{hyphens}
use Rattle.yl_lexeme_rules.specs.Kinds.{flow_findings, indicator_findings}
use Rattle.yl_lexeme_rules.specs.Lexemes.{findings_at, value_findings}

no_brackets : (flow : Flow) (o : Option BracketsOptions) (before : Option Span) (x : Span)
    (after : Option Span) → opens flow x.kind ≡ false → closes flow x.kind ≡ false
    → brackets flow o before x after ≡ []
no_brackets flow None before x after p q = refl
no_brackets flow (Some o) before x after p q = rw (p, q)

no_commas : (o : Option CommasOptions) (before : Option Span) (x : Span) (after : Option Span)
    → is_comma x.kind ≡ false → commas o before x after ≡ []
no_commas None before x after p = refl
no_commas (Some o) before x after p = rw p

no_colons : (o : Option ColonsOptions) (before : Option Span) (x : Span) (after : Option Span)
    → is_value x.kind ≡ false → is_key x.kind ≡ false → colons o before x after ≡ []
no_colons None before x after p q = refl
no_colons (Some o) before x after p q = rw (p, q)

no_hyphens : (o : Option HyphensOptions) (x : Span) (after : Option Span)
    → is_entry x.kind ≡ false → hyphens o x after ≡ []
no_hyphens None x after p = refl
no_hyphens (Some o) x after p = rw p

-- of five lists, which are joined, all but one are empty
first_alone : (a b c d e : List FindingValue) → b ≡ [] → c ≡ [] → d ≡ [] → e ≡ []
    → a ≡ (a ++ (b ++ c)) ++ (d ++ e)
first_alone a b c d e p q r s = rw (p, q, r, s) (simp append-nil)

second_alone : (a b c d e : List FindingValue) → a ≡ [] → c ≡ [] → d ≡ [] → e ≡ []
    → b ≡ (a ++ (b ++ c)) ++ (d ++ e)
second_alone a b c d e p q r s = rw (p, q, r, s) (simp append-nil)

third_alone : (a b c d e : List FindingValue) → a ≡ [] → b ≡ [] → d ≡ [] → e ≡ []
    → c ≡ (a ++ (b ++ c)) ++ (d ++ e)
third_alone a b c d e p q r s = rw (p, q, r, s) (simp append-nil)

fourth_alone : (a b c d e : List FindingValue) → a ≡ [] → b ≡ [] → c ≡ [] → e ≡ []
    → d ≡ (a ++ (b ++ c)) ++ (d ++ e)
fourth_alone a b c d e p q r s = rw (p, q, r, s) (simp append-nil)

fifth_alone : (a b c d e : List FindingValue) → a ≡ [] → b ≡ [] → c ≡ [] → d ≡ []
    → e ≡ (a ++ (b ++ c)) ++ (d ++ e)
fifth_alone a b c d e p q r s = rw (p, q, r, s)

none_of_them : (a b c d e : List FindingValue) → a ≡ [] → b ≡ [] → c ≡ [] → d ≡ [] → e ≡ []
    → [] ≡ (a ++ (b ++ c)) ++ (d ++ e)
none_of_them a b c d e p q r s t = rw (p, q, r, s, t)

abbrev span : Kind → Pos → ℕ → ℕ → Span
span kind start line col = record { kind = kind; start = start; end_line = line; end_col = col }

-- the rules on indicators all together find what those of the lexeme's kind find
indicators : (o : LexemeOptions) (before : Option Span) (kind : Kind) (start : Pos) (line col : ℕ)
    (after : Option Span) → indicator_findings kind o before (span kind start line col) after
    ≡ flow_findings o before (span kind start line col) after
    ++ (colons o.colons before (span kind start line col) after
    ++ hyphens o.hyphens (span kind start line col) after)
indicators o before MapOpen start line col after =
    let x = span MapOpen start line col in
    first_alone _ _ _ _ _ (no_brackets Sequence o.brackets before x after refl refl)
    (no_commas o.commas before x after refl)
    (no_colons o.colons before x after refl refl)
    (no_hyphens o.hyphens x after refl)
indicators o before MapClose start line col after =
    let x = span MapClose start line col in
    first_alone _ _ _ _ _ (no_brackets Sequence o.brackets before x after refl refl)
    (no_commas o.commas before x after refl)
    (no_colons o.colons before x after refl refl)
    (no_hyphens o.hyphens x after refl)
indicators o before SeqOpen start line col after =
    let x = span SeqOpen start line col in
    second_alone _ _ _ _ _ (no_brackets Mapping o.braces before x after refl refl)
    (no_commas o.commas before x after refl)
    (no_colons o.colons before x after refl refl)
    (no_hyphens o.hyphens x after refl)
indicators o before SeqClose start line col after =
    let x = span SeqClose start line col in
    second_alone _ _ _ _ _ (no_brackets Mapping o.braces before x after refl refl)
    (no_commas o.commas before x after refl)
    (no_colons o.colons before x after refl refl)
    (no_hyphens o.hyphens x after refl)
indicators o before Comma start line col after =
    let x = span Comma start line col in
    third_alone _ _ _ _ _ (no_brackets Mapping o.braces before x after refl refl)
    (no_brackets Sequence o.brackets before x after refl refl)
    (no_colons o.colons before x after refl refl)
    (no_hyphens o.hyphens x after refl)
indicators o before Value start line col after =
    let x = span Value start line col in
    fourth_alone _ _ _ _ _ (no_brackets Mapping o.braces before x after refl refl)
    (no_brackets Sequence o.brackets before x after refl refl)
    (no_commas o.commas before x after refl)
    (no_hyphens o.hyphens x after refl)
indicators o before Key start line col after =
    let x = span Key start line col in
    fourth_alone _ _ _ _ _ (no_brackets Mapping o.braces before x after refl refl)
    (no_brackets Sequence o.brackets before x after refl refl)
    (no_commas o.commas before x after refl)
    (no_hyphens o.hyphens x after refl)
indicators o before Entry start line col after =
    let x = span Entry start line col in
    fifth_alone _ _ _ _ _ (no_brackets Mapping o.braces before x after refl refl)
    (no_brackets Sequence o.brackets before x after refl refl)
    (no_commas o.commas before x after refl)
    (no_colons o.colons before x after refl refl)
indicators o before Directive start line col after =
    let x = span Directive start line col in
    none_of_them _ _ _ _ _ (no_brackets Mapping o.braces before x after refl refl)
    (no_brackets Sequence o.brackets before x after refl refl)
    (no_commas o.commas before x after refl)
    (no_colons o.colons before x after refl refl)
    (no_hyphens o.hyphens x after refl)
indicators o before DocStart start line col after =
    let x = span DocStart start line col in
    none_of_them _ _ _ _ _ (no_brackets Mapping o.braces before x after refl refl)
    (no_brackets Sequence o.brackets before x after refl refl)
    (no_commas o.commas before x after refl)
    (no_colons o.colons before x after refl refl)
    (no_hyphens o.hyphens x after refl)
indicators o before DocEnd start line col after =
    let x = span DocEnd start line col in
    none_of_them _ _ _ _ _ (no_brackets Mapping o.braces before x after refl refl)
    (no_brackets Sequence o.brackets before x after refl refl)
    (no_commas o.commas before x after refl)
    (no_colons o.colons before x after refl refl)
    (no_hyphens o.hyphens x after refl)
indicators o before Alias start line col after =
    let x = span Alias start line col in
    none_of_them _ _ _ _ _ (no_brackets Mapping o.braces before x after refl refl)
    (no_brackets Sequence o.brackets before x after refl refl)
    (no_commas o.commas before x after refl)
    (no_colons o.colons before x after refl refl)
    (no_hyphens o.hyphens x after refl)
indicators o before Anchor start line col after =
    let x = span Anchor start line col in
    none_of_them _ _ _ _ _ (no_brackets Mapping o.braces before x after refl refl)
    (no_brackets Sequence o.brackets before x after refl refl)
    (no_commas o.commas before x after refl)
    (no_colons o.colons before x after refl refl)
    (no_hyphens o.hyphens x after refl)
indicators o before Tag start line col after =
    let x = span Tag start line col in
    none_of_them _ _ _ _ _ (no_brackets Mapping o.braces before x after refl refl)
    (no_brackets Sequence o.brackets before x after refl refl)
    (no_commas o.commas before x after refl)
    (no_colons o.colons before x after refl refl)
    (no_hyphens o.hyphens x after refl)
indicators o before (Scalar style) start line col after =
    let x = span (Scalar style) start line col in
    none_of_them _ _ _ _ _ (no_brackets Mapping o.braces before x after refl refl)
    (no_brackets Sequence o.brackets before x after refl refl)
    (no_commas o.commas before x after refl)
    (no_colons o.colons before x after refl refl)
    (no_hyphens o.hyphens x after refl)

-- the parts of what is found, put together in the order of the rules
parts_joined : (found flow colon hyphen start value i a b c : List FindingValue)
    → a ≡ found ++ i → b ≡ a ++ start → c ≡ b ++ value → i ≡ flow ++ (colon ++ hyphen)
    → c ≡ found ++ (flow ++ ((colon ++ (hyphen ++ start)) ++ value))
parts_joined found flow colon hyphen start value i a b c p q r e =
    r ∙ ap (λ l. l ++ value) (q ∙ ap (λ l. l ++ start) (p ∙ ap (λ l. found ++ l) e))
    ∙ simp append_assoc

-- what is found at indicators, of documents, and at values is all that is found
pub found_at : (is_1_2 : Bool) (o : LexemeOptions) (before : Option Span) (x : Span) (value : List ℕ)
    (key : KeyFacts) (after : Option Span) (found a b c : List FindingValue)
    → a ≡ found ++ indicator_findings x.kind o before x after
    → b ≡ a ++ document_start o.document_start before x
    → c ≡ b ++ value_findings is_1_2 o x value key
    → c ≡ found ++ findings_at is_1_2 o before x value key after
found_at is_1_2 o before x value key after found a b c p q r =
    parts_joined found (flow_findings o before x after) (colons o.colons before x after)
    (hyphens o.hyphens x after) (document_start o.document_start before x)
    (value_findings is_1_2 o x value key) _ a b c p q r
    (indicators o before x.kind x.start x.end_line x.end_col after)
