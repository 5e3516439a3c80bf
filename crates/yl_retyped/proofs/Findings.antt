-- What the rules on lexemes find round a value that is typed anew.
use Rattle.std.proofs.Common.{◌≡◌, ◌<◌, ℕ, zero, suc, Bool, true, false, cond, ◌&&◌, ◌||◌, List, [], ◌∷◌, ◌++◌, length, take, map, Option, Some, None, refl, sym, ◌∙◌, ap, subst, arith}
use Rattle.std.proofs.lemmas.Bool.{ne_eqb}
use Rattle.yl_text.specs.declared.position.Pos.{Pos}
use Rattle.yl_text.specs.Finding.{FindingValue}
use Rattle.yl_lexeme.specs.declared.lexeme.Kind.{Kind}
use Rattle.yl_lexeme.specs.declared.lexeme.Kind.TheVariants.{Scalar}
use Rattle.yl_lexeme.specs.Directives.{is_directive}
use Rattle.yl_lexeme.specs.Lexeme.{LexemeValue}
use Rattle.yl_lexeme.specs.Version.{is_yaml_1_2}
use Rattle.yl_marks.specs.declared.token.Token.{Token}
use Rattle.yl_marks.specs.declared.facts.KeyFacts.{KeyFacts}
use Rattle.yl_marks.specs.Facts.{facts_from, key_facts}
use Rattle.yl_marks.specs.Keys.{keyed_tokens, token_of}
use Rattle.yl_lexeme_rules.specs.declared.brackets.Forbid.{Forbid}
use Rattle.yl_lexeme_rules.specs.declared.brackets.Forbid.TheVariants.{Everything, NonEmpty, Nothing}
use Rattle.yl_lexeme_rules.specs.declared.brackets.BracketsOptions.{BracketsOptions}
use Rattle.yl_lexeme_rules.specs.declared.colons.ColonsOptions.{ColonsOptions}
use Rattle.yl_lexeme_rules.specs.declared.commas.CommasOptions.{CommasOptions}
use Rattle.yl_lexeme_rules.specs.declared.hyphens.HyphensOptions.{HyphensOptions}
use Rattle.yl_lexeme_rules.specs.declared.document_start.DocumentStartOptions.{DocumentStartOptions}
use Rattle.yl_lexeme_rules.specs.declared.options.LexemeOptions.{LexemeOptions}
use Rattle.yl_lexeme_rules.specs.Brackets.{behind_opening_at, brackets}
use Rattle.yl_lexeme_rules.specs.Colons.{colons}
use Rattle.yl_lexeme_rules.specs.Commas.{commas}
use Rattle.yl_lexeme_rules.specs.DocumentStart.{document_start}
use Rattle.yl_lexeme_rules.specs.Hyphens.{hyphens}
use Rattle.yl_lexeme_rules.specs.Kinds.{block_findings, flow_findings, indicator_findings}
use Rattle.yl_lexeme_rules.specs.Lexemes.{findings_at, findings_behind, first_span, lexeme_findings, value_findings}
use Rattle.yl_lexeme_rules.specs.declared.truthy.TruthyOptions.{TruthyOptions}
use Rattle.yl_lexeme_rules.specs.QuotedStrings.{quoted_strings}
use Rattle.yl_lexeme_rules.specs.Spans.{span_of}
use Rattle.yl_lexeme_rules.specs.Truthy.{truthy}
use Rattle.yl_lexeme_rules.specs.Version.{is_1_2_document}
use Rattle.yl_lexeme_rules.proofs.KindLemmas.{found_at}
use Rattle.yl_retyped.specs.Retyped.{IsQuiet, is_scalar, no_key}
use Rattle.yl_retyped.proofs.Typed.{AreBelow, IsRetyped}
use Rattle.yl_retyped.proofs.Statements.{SayNothing}

-- a lexeme without a value
abbrev lexeme : Kind → Pos → ℕ → ℕ → LexemeValue
lexeme kind start line col = record { kind = kind; start = start; end = record { line = line; col = col }; value = [] }

-- of the value that is typed anew the span may end in another column
retyped_span : (y : LexemeValue) (t : Token) → token_of y ≡ t → span_of y ≡ span_of (lexeme t.kind t.start t.end_line y.end.col)
retyped_span y t e = ap (λ (u : Token). span_of (lexeme u.kind u.start u.end_line y.end.col)) e

module _ (k : Kind) (s : Pos) (l c d : ℕ) where
  -- ---- at the lexeme before it

  opening_ahead : (flow : _) (o : BracketsOptions) (f : Forbid) (x : _)
      → behind_opening_at flow o f x (Some (span_of (lexeme k s l c))) ≡ behind_opening_at flow o f x (Some (span_of (lexeme k s l d)))
  opening_ahead flow o Nothing x = refl
  opening_ahead flow o NonEmpty x = refl
  opening_ahead flow o Everything x = refl

  brackets_ahead : (flow : _) (o : Option BracketsOptions) (before : _) (x : _)
      → brackets flow o before x (Some (span_of (lexeme k s l c))) ≡ brackets flow o before x (Some (span_of (lexeme k s l d)))
  brackets_ahead flow None before x = refl
  brackets_ahead flow (Some o) before x = rw (opening_ahead flow o o.forbid x) refl

  commas_ahead : (o : Option CommasOptions) (before : _) (x : _)
      → commas o before x (Some (span_of (lexeme k s l c))) ≡ commas o before x (Some (span_of (lexeme k s l d)))
  commas_ahead None before x = refl
  commas_ahead (Some o) before x = refl

  colons_ahead : (o : Option ColonsOptions) (before : _) (x : _)
      → colons o before x (Some (span_of (lexeme k s l c))) ≡ colons o before x (Some (span_of (lexeme k s l d)))
  colons_ahead None before x = refl
  colons_ahead (Some o) before x = refl

  hyphens_ahead : (o : Option HyphensOptions) (x : _)
      → hyphens o x (Some (span_of (lexeme k s l c))) ≡ hyphens o x (Some (span_of (lexeme k s l d)))
  hyphens_ahead None x = refl
  hyphens_ahead (Some o) x = refl

  flow_ahead : (o : LexemeOptions) (before : _) (x : _)
      → flow_findings o before x (Some (span_of (lexeme k s l c))) ≡ flow_findings o before x (Some (span_of (lexeme k s l d)))
  flow_ahead o before x =
      rw (brackets_ahead _ o.braces before x, brackets_ahead _ o.brackets before x, commas_ahead o.commas before x) refl

  block_ahead : (o : LexemeOptions) (before : _) (x : _)
      → block_findings o before x (Some (span_of (lexeme k s l c))) ≡ block_findings o before x (Some (span_of (lexeme k s l d)))
  block_ahead o before x = rw (colons_ahead o.colons before x, hyphens_ahead o.hyphens x) refl

  at_front : (is_1_2 : Bool) (o : LexemeOptions) (before : _) (x : LexemeValue) (key : KeyFacts)
      → findings_at is_1_2 o before (span_of x) x.value key (Some (span_of (lexeme k s l c))) ≡ findings_at is_1_2 o before (span_of x) x.value key (Some (span_of (lexeme k s l d)))
  at_front is_1_2 o before x key = rw (flow_ahead o before (span_of x), block_ahead o before (span_of x)) refl

  -- ---- at the lexeme behind it, which begins below

  brackets_behind : (flow : _) (o : Option BracketsOptions) (z : LexemeValue) (after : _) → l < z.start.line
      → brackets flow o (Some (span_of (lexeme k s l c))) (span_of z) after ≡ brackets flow o (Some (span_of (lexeme k s l d))) (span_of z) after
  brackets_behind flow None z after h = refl
  brackets_behind flow (Some o) z after h = rw (ne_eqb l z.start.line (λ e. omega (arith, e, h))) refl

  commas_behind : (o : Option CommasOptions) (z : LexemeValue) (after : _) → l < z.start.line
      → commas o (Some (span_of (lexeme k s l c))) (span_of z) after ≡ commas o (Some (span_of (lexeme k s l d))) (span_of z) after
  commas_behind None z after h = refl
  commas_behind (Some o) z after h = rw (ne_eqb l z.start.line (λ e. omega (arith, e, h))) refl

  colons_behind : (o : Option ColonsOptions) (z : LexemeValue) (after : _) → l < z.start.line
      → colons o (Some (span_of (lexeme k s l c))) (span_of z) after ≡ colons o (Some (span_of (lexeme k s l d))) (span_of z) after
  colons_behind None z after h = refl
  colons_behind (Some o) z after h = rw (ne_eqb l z.start.line (λ e. omega (arith, e, h))) refl

  start_behind : (o : Option DocumentStartOptions) (z : LexemeValue)
      → document_start o (Some (span_of (lexeme k s l c))) (span_of z) ≡ document_start o (Some (span_of (lexeme k s l d))) (span_of z)
  start_behind None z = refl
  start_behind (Some o) z = refl

  flow_behind : (o : LexemeOptions) (z : LexemeValue) (after : _) → l < z.start.line
      → flow_findings o (Some (span_of (lexeme k s l c))) (span_of z) after ≡ flow_findings o (Some (span_of (lexeme k s l d))) (span_of z) after
  flow_behind o z after h =
      rw (brackets_behind _ o.braces z after h, brackets_behind _ o.brackets z after h, commas_behind o.commas z after h) refl

  block_behind : (o : LexemeOptions) (z : LexemeValue) (after : _) → l < z.start.line
      → block_findings o (Some (span_of (lexeme k s l c))) (span_of z) after ≡ block_findings o (Some (span_of (lexeme k s l d))) (span_of z) after
  block_behind o z after h = rw (colons_behind o.colons z after h, start_behind o.document_start z) refl

  at_back : (is_1_2 : Bool) (o : LexemeOptions) (z : LexemeValue) (key : KeyFacts) (after : _) → l < z.start.line
      → findings_at is_1_2 o (Some (span_of (lexeme k s l c))) (span_of z) z.value key after ≡ findings_at is_1_2 o (Some (span_of (lexeme k s l d))) (span_of z) z.value key after
  at_back is_1_2 o z key after h = rw (flow_behind o z after h, block_behind o z after h) refl

  -- at all lexemes behind it that count
  all_back : (is_1_2 : Bool) (o : LexemeOptions) (n : ℕ) (zs : List LexemeValue) (keys : List KeyFacts) → AreBelow l zs
      → findings_behind is_1_2 o (Some (span_of (lexeme k s l c))) (take n zs) keys ≡ findings_behind is_1_2 o (Some (span_of (lexeme k s l d))) (take n zs) keys
  all_back is_1_2 o zero zs keys h = refl
  all_back is_1_2 o (suc n) [] keys h = refl
  all_back is_1_2 o (suc n) (z ∷ zs) [] h = refl
  all_back is_1_2 o (suc n) (z ∷ zs) (key ∷ keys) h =
      ap (λ (fs : List FindingValue). fs ++ findings_behind is_1_2 o (Some (span_of z)) (take n zs) keys) (at_back is_1_2 o z key (first_span (take n zs)) h.0)

  -- ---- at it

  start_here : (o : Option DocumentStartOptions) (before : _)
      → document_start o before (span_of (lexeme k s l c)) ≡ document_start o before (span_of (lexeme k s l d))
  start_here None before = refl
  start_here (Some o) before = refl

-- the rules on indicators find nothing at a scalar
no_indicator : (k : Kind) → is_scalar k ≡ true → (o : LexemeOptions) (before : _) (x : _) (after : _)
    → indicator_findings k o before x after ≡ []
no_indicator (Scalar style) e o before x after = refl
no_indicator k e o before x after = absurd cc

-- ---- the truthy words of its document

-- at a word that is quiet where all truthy words count, nothing is found where fewer do
fewer : (b c : Bool) (f : FindingValue) → cond (b && true) (f ∷ []) [] ≡ [] → cond (b && c) (f ∷ []) [] ≡ []
fewer true c f h = absurd (cc)
fewer false c f h = refl

no_findings : (xs ys : List FindingValue) → xs ++ ys ≡ [] → (xs ≡ []) × (ys ≡ [])
no_findings [] ys h = (refl, h)
no_findings (x ∷ xs) ys h = absurd (cc)

truthy_there : (is_1_2 : Bool) (o : Option TruthyOptions) (x : LexemeValue) → truthy false o (span_of x) x.value no_key ≡ [] → truthy is_1_2 o (span_of x) x.value no_key ≡ []
truthy_there is_1_2 None x h = refl
truthy_there is_1_2 (Some o) x h = fewer _ _ _ h

quiet_there : (is_1_2 : Bool) (o : LexemeOptions) (x : LexemeValue) → IsQuiet o x → value_findings is_1_2 o (span_of x) x.value no_key ≡ []
quiet_there is_1_2 o x h =
    let none = no_findings (truthy false o.truthy (span_of x) x.value no_key) (quoted_strings o.quoted_strings (span_of x) x.value no_key) h in
    rw (truthy_there is_1_2 o.truthy x none.0) none.1

no_directive : (k : Kind) → is_scalar k ≡ true → is_directive k ≡ false
no_directive (Scalar style) h = refl
no_directive k h = absurd cc

-- the directives before the document's start are the old ones
version_from : (pre : List LexemeValue) (p x y : LexemeValue) (post : List LexemeValue) → is_directive x.kind ≡ false → is_directive y.kind ≡ false
    → is_1_2_document (pre ++ p ∷ x ∷ post) ≡ is_1_2_document (pre ++ p ∷ y ∷ post)
version_from [] p x y post h k = rw (h, k) refl
version_from (q ∷ qs) p x y post h k = ap (λ (b : Bool). is_directive q.kind && (is_yaml_1_2 q || b)) (version_from qs p x y post h k)

version_same : (pre : List LexemeValue) (p x y : LexemeValue) (post : List LexemeValue) → IsRetyped p x y post
    → is_1_2_document (pre ++ p ∷ x ∷ post) ≡ is_1_2_document (pre ++ p ∷ y ∷ post)
version_same pre p x y post h =
    version_from pre p x y post (no_directive x.kind h.scalar) (no_directive y.kind (ap (λ (t : Token). is_scalar t.kind) h.token ∙ h.scalar))

-- ---- at it

-- at a scalar that is no key the rule on documents alone may find something
at_quiet : (is_1_2 : Bool) (o : LexemeOptions) (before : _) (x : LexemeValue) (after : _)
    → is_scalar x.kind ≡ true → IsQuiet o x
    → findings_at is_1_2 o before (span_of x) x.value no_key after ≡ document_start o.document_start before (span_of x) ++ []
at_quiet is_1_2 o before x after scalar quiet =
    let start = document_start o.document_start before (span_of x) in
    sym (found_at is_1_2 o before (span_of x) x.value no_key after [] [] start (start ++ value_findings is_1_2 o (span_of x) x.value no_key)
    (sym (no_indicator x.kind scalar o before (span_of x) after)) refl refl)
    ∙ ap (λ (fs : List FindingValue). start ++ fs) (quiet_there is_1_2 o x quiet)

-- ---- the keys' facts go by tokens

abbrev facts_of_tokens : List Token → List KeyFacts
facts_of_tokens ts = facts_from (keyed_tokens [] ts) [] 0 (keyed_tokens [] ts)

tokens_same : (pre : List LexemeValue) (p x y : LexemeValue) (post : List LexemeValue) → token_of y ≡ token_of x
    → map token_of (pre ++ p ∷ x ∷ post) ≡ map token_of (pre ++ p ∷ y ∷ post)
tokens_same [] p x y post e = ap (λ (t : Token). token_of p ∷ t ∷ map token_of post) (sym e)
tokens_same (q ∷ qs) p x y post e = ap (λ (ts : List Token). token_of q ∷ ts) (tokens_same qs p x y post e)

pub facts_same : (pre : List LexemeValue) (p x y : LexemeValue) (post : List LexemeValue) → token_of y ≡ token_of x
    → key_facts (pre ++ p ∷ x ∷ post) ≡ key_facts (pre ++ p ∷ y ∷ post)
facts_same pre p x y post e = ap facts_of_tokens (tokens_same pre p x y post e)

-- ---- along the lexemes

module _ (is_1_2 : Bool) (o : LexemeOptions) (p x y : LexemeValue) (post : List LexemeValue) (h : IsRetyped p x y post) (quiet : IsQuiet o x) (anew : IsQuiet o y) where
  same_span : span_of (lexeme x.kind x.start x.end.line y.end.col) ≡ span_of y
  same_span = sym (retyped_span y (token_of x) h.token)

  here : (before after : _) → findings_at is_1_2 o before (span_of x) x.value no_key after ≡ findings_at is_1_2 o before (span_of y) y.value no_key after
  here before after =
      at_quiet is_1_2 o before x after h.scalar quiet
      ∙ ap (λ (fs : List FindingValue). fs ++ []) (start_here x.kind x.start x.end.line x.end.col y.end.col o.document_start before
      ∙ ap (document_start o.document_start before) same_span)
      ∙ sym (at_quiet is_1_2 o before y after (ap (λ (t : Token). is_scalar t.kind) h.token ∙ h.scalar) anew)

  front : (before : _) (key : KeyFacts) → findings_at is_1_2 o before (span_of p) p.value key (Some (span_of x)) ≡ findings_at is_1_2 o before (span_of p) p.value key (Some (span_of y))
  front before key =
      at_front x.kind x.start x.end.line x.end.col y.end.col is_1_2 o before p key
      ∙ ap (λ (s : _). findings_at is_1_2 o before (span_of p) p.value key (Some s)) same_span

  back : (n : ℕ) (keys : List KeyFacts) → findings_behind is_1_2 o (Some (span_of x)) (take n post) keys ≡ findings_behind is_1_2 o (Some (span_of y)) (take n post) keys
  back n keys =
      all_back x.kind x.start x.end.line x.end.col y.end.col is_1_2 o n post keys (subst (λ line. AreBelow line post) (sym h.ends) h.last)
      ∙ ap (λ (s : _). findings_behind is_1_2 o (Some s) (take n post) keys) same_span

  first_same : (n : ℕ) (pre : List LexemeValue) → first_span (take n (pre ++ p ∷ x ∷ post)) ≡ first_span (take n (pre ++ p ∷ y ∷ post))
  first_same zero pre = refl
  first_same (suc n) [] = refl
  first_same (suc n) (q ∷ qs) = refl

  from_front : (n : ℕ) (before : _) (key : KeyFacts) (keys later : List KeyFacts) → length keys ≡ 0
      → findings_behind is_1_2 o before (take (suc n) (p ∷ x ∷ post)) (key ∷ (keys ++ no_key ∷ later))
      ≡ findings_behind is_1_2 o before (take (suc n) (p ∷ y ∷ post)) (key ∷ (keys ++ no_key ∷ later))
  from_front zero before key keys later e = refl
  from_front (suc n) before key (k ∷ ks) later e = absurd (omega (arith, e))
  from_front (suc n) before key [] later e =
      let after = first_span (take n post) in
      ap (λ (fs : List FindingValue). fs ++ (findings_at is_1_2 o (Some (span_of p)) (span_of x) x.value no_key after ++ findings_behind is_1_2 o (Some (span_of x)) (take n post) later)) (front before key)
      ∙ ap (λ (fs : List FindingValue). findings_at is_1_2 o before (span_of p) p.value key (Some (span_of y)) ++ (fs ++ findings_behind is_1_2 o (Some (span_of x)) (take n post) later)) (here (Some (span_of p)) after)
      ∙ ap (λ (fs : List FindingValue). findings_at is_1_2 o before (span_of p) p.value key (Some (span_of y)) ++ (findings_at is_1_2 o (Some (span_of p)) (span_of y) y.value no_key after ++ fs)) (back n later)

  along : (n : ℕ) (pre : List LexemeValue) (before : _) (keys later : List KeyFacts) → length keys ≡ suc (length pre)
      → findings_behind is_1_2 o before (take n (pre ++ p ∷ x ∷ post)) (keys ++ no_key ∷ later)
      ≡ findings_behind is_1_2 o before (take n (pre ++ p ∷ y ∷ post)) (keys ++ no_key ∷ later)
  along zero pre before keys later e = refl
  along (suc n) pre before [] later e = absurd (omega (arith, e))
  along (suc n) [] before (k ∷ ks) later e = from_front n before k ks later (omega (arith, e))
  along (suc n) (q ∷ qs) before (k ∷ ks) later e =
      ap (λ (s : _). findings_at is_1_2 o before (span_of q) q.value k s ++ findings_behind is_1_2 o (Some (span_of q)) (take n (qs ++ p ∷ x ∷ post)) (ks ++ no_key ∷ later)) (first_same n qs)
      ∙ ap (λ (fs : List FindingValue). findings_at is_1_2 o before (span_of q) q.value k (first_span (take n (qs ++ p ∷ y ∷ post))) ++ fs) (along n qs (Some (span_of q)) ks later (omega (arith, e)))

pub findings_stay : (o : LexemeOptions) (counted : ℕ) (pre : List LexemeValue) (p x y : LexemeValue) (post : List LexemeValue) → IsRetyped p x y post
    → SayNothing (suc (length pre)) (key_facts (pre ++ p ∷ x ∷ post)) → IsQuiet o x → IsQuiet o y
    → lexeme_findings o counted (pre ++ p ∷ x ∷ post) ≡ lexeme_findings o counted (pre ++ p ∷ y ∷ post)
findings_stay o counted pre p x y post h say quiet anew =
    let is_1_2 = is_1_2_document (pre ++ p ∷ x ∷ post) in
    let ys = pre ++ p ∷ y ∷ post in
    ap (findings_behind is_1_2 o None (take counted (pre ++ p ∷ x ∷ post))) say.parts
    ∙ along is_1_2 o p x y post h quiet anew counted pre None say.before say.after say.len
    ∙ ap (findings_behind is_1_2 o None (take counted (pre ++ p ∷ y ∷ post))) (sym say.parts ∙ facts_same pre p x y post h.token)
    ∙ ap (λ (b : Bool). findings_behind b o None (take counted ys) (key_facts ys)) (version_same pre p x y post h)
