-- What is found in a document whose lexemes are read some at a time.
use Rattle.std.proofs.Common.{◌≡◌, ◌≤◌, ◌<◌, ◌+◌, ℕ, Bool, true, false, cond, List, [], ◌∷◌, ◌++◌, map, take, drop, get_or, length, Option, Some, None, refl, sym, ◌∙◌, ap, subst, arith, append_assoc, append-nil, add-one, drop-cons}
use Rattle.std.specs.Prelude.{not, ◌&&◌, ◌||◌, bytes_eq, codes}
use Rattle.std.proofs.lemmas.List.{drop_all, length-map, map-append, take-append-drop, take-map}
use Rattle.yl_lexeme.specs.declared.lexeme.Kind.{Kind}
use Rattle.yl_lexeme.specs.declared.lexeme.Kind.TheVariants.{Directive, Entry, Key, Value, Comma, SeqOpen, SeqClose, MapOpen, MapClose, Scalar}
use Rattle.yl_lexeme.specs.Lexeme.{LexemeValue}
use Rattle.yl_lexeme.specs.Directives.{is_directive}
use Rattle.yl_lexeme.specs.Version.{is_behind_white}
use Rattle.yl_marks.specs.declared.facts.KeyFacts.{KeyFacts}
use Rattle.yl_marks.specs.Facts.{key_facts}
use Rattle.yl_marks.proofs.KeptFacts.{length-key_facts}
use Rattle.yl_text.specs.declared.position.Pos.{Pos}
use Rattle.yl_text.specs.Finding.{FindingValue}
use Rattle.yl_lexeme_rules.specs.declared.span.Span.{Span}
use Rattle.yl_lexeme_rules.specs.declared.options.LexemeOptions.{LexemeOptions}
use Rattle.yl_lexeme_rules.specs.declared.quoted_strings.QuoteType.{QuoteType}
use Rattle.yl_lexeme_rules.specs.declared.quoted_strings.QuoteType.TheVariants.{Any, Single, Double}
use Rattle.yl_lexeme_rules.specs.declared.quoted_strings.QuotedStringsOptions.{QuotedStringsOptions}
use Rattle.yl_lexeme_rules.specs.declared.truthy.TruthyOptions.{TruthyOptions}
use Rattle.yl_lexeme_rules.specs.DocumentStart.{document_start}
use Rattle.yl_lexeme_rules.specs.Kinds.{indicator_findings, is_indicator}
use Rattle.yl_lexeme_rules.specs.Lexemes.{findings_at, findings_behind, first_span, lexeme_findings, value_findings}
use Rattle.yl_lexeme_rules.specs.LexemesLeft.{LexemesRead, IsVersion, after_lexeme, findings_at_indicator, findings_told, findings_waiting, lexemes_left}
use Rattle.yl_lexeme_rules.specs.QuotedStrings.{is_misquoted, quoted_strings}
use Rattle.yl_lexeme_rules.specs.LexemesAlike.{after_lexemes}
use Rattle.yl_lexeme_rules.specs.Spans.{span_of}
use Rattle.yl_lexeme_rules.specs.Truthy.{truthy}
use Rattle.yl_lexeme_rules.specs.Version.{is_1_2_document}
use Rattle.yl_lexeme_rules.proofs.KindLemmas.{found_at}

abbrev span : Kind → Pos → ℕ → ℕ → Span
span kind start line col = record { kind = kind; start = start; end_line = line; end_col = col }

-- ---- values

-- a directive is no scalar: for it the version says nothing
truthy_directive : (v w : Bool) (o : Option TruthyOptions) (start : Pos) (line col : ℕ) (value : List ℕ) (key : KeyFacts)
    → truthy v o (span Directive start line col) value key ≡ truthy w o (span Directive start line col) value key
truthy_directive v w None start line col value key = refl
truthy_directive v w (Some o) start line col value key = refl

values_by_version : (kind : Kind) (v w : Bool) (o : LexemeOptions) (start : Pos) (line col : ℕ) (value : List ℕ) (key : KeyFacts)
    → (is_directive kind ≡ false → v ≡ w)
    → value_findings v o (span kind start line col) value key ≡ value_findings w o (span kind start line col) value key
values_by_version Directive v w o start line col value key h =
    ap (λ fs. fs ++ quoted_strings o.quoted_strings (span Directive start line col) value key) (truthy_directive v w o.truthy start line col value key)
values_by_version kind v w o start line col value key h =
    ap (λ b. value_findings b o (span kind start line col) value key) (h refl)

-- an indicator is no scalar
not_misquoted : (required : Bool) (quotes : QuoteType) (kind : Kind) (value : List ℕ) → is_indicator kind ≡ true → is_misquoted required quotes kind value ≡ false
not_misquoted required Any (Scalar style) value h = cc
not_misquoted required Single (Scalar style) value h = cc
not_misquoted required Double (Scalar style) value h = cc
not_misquoted required Any kind value h = refl
not_misquoted required Single kind value h = refl
not_misquoted required Double kind value h = refl

none_of_three : (a b c : Bool) → c ≡ false → (not a && not b && c) ≡ false
none_of_three true b c h = refl
none_of_three false true c h = refl
none_of_three false false c h = h

no_quotes : (o : Option QuotedStringsOptions) (x : Span) (value : List ℕ) (key : KeyFacts) → is_indicator x.kind ≡ true → quoted_strings o x value key ≡ []
no_quotes None x value key h = refl
no_quotes (Some o) x value key h =
    rw (none_of_three key.has_tag key.is_key _ (not_misquoted o.required o.quote_type x.kind value h))

no_truthy : (v : Bool) (o : Option TruthyOptions) (kind : Kind) (start : Pos) (line col : ℕ) (value : List ℕ) (key : KeyFacts)
    → is_indicator kind ≡ true → truthy v o (span kind start line col) value key ≡ []
no_truthy v None kind start line col value key h = refl
no_truthy v (Some o) (Scalar style) start line col value key h = cc
no_truthy v (Some o) kind start line col value key h = refl

no_values : (v : Bool) (o : LexemeOptions) (x : Span) (value : List ℕ) (key : KeyFacts) → is_indicator x.kind ≡ true → value_findings v o x value key ≡ []
no_values v o x value key h =
    ap (λ fs. fs ++ quoted_strings o.quoted_strings x value key) (no_truthy v o.truthy x.kind x.start x.end_line x.end_col value key h)
    ∙ no_quotes o.quoted_strings x value key h

-- ---- one lexeme

-- what waits of this lexeme
abbrev waits_at : LexemeOptions → Option Span → Span → Option Span → List FindingValue
waits_at o before x after = cond (is_indicator x.kind) (findings_at_indicator o before x after) []

in_two : (is_ind : Bool) (ind start value : List FindingValue) → (is_ind ≡ true → value ≡ []) → (is_ind ≡ false → ind ≡ [])
    → cond is_ind [] (start ++ value) ++ cond is_ind (ind ++ start) [] ≡ (ind ++ start) ++ value
in_two true ind start value h g = rw (h refl) (sym (append-nil (ind ++ start)))
in_two false ind start value h g = rw (g refl) (append-nil (start ++ value))

no_indicator : (kind : Kind) (o : LexemeOptions) (before : Option Span) (x : Span) (after : Option Span) → is_indicator kind ≡ false → indicator_findings kind o before x after ≡ []
no_indicator MapOpen o before x after h = cc
no_indicator MapClose o before x after h = cc
no_indicator SeqOpen o before x after h = cc
no_indicator SeqClose o before x after h = cc
no_indicator Comma o before x after h = cc
no_indicator Value o before x after h = cc
no_indicator Key o before x after h = cc
no_indicator Entry o before x after h = cc
no_indicator _ o before x after h = refl

-- what is told of it at once and what waits are all that is found at it
told_and_waits : (v : Bool) (o : LexemeOptions) (before : Option Span) (x : Span) (value : List ℕ) (key : KeyFacts) (after : Option Span)
    → findings_told v o before x value key ++ waits_at o before x after ≡ findings_at v o before x value key after
told_and_waits v o before x value key after =
    let ind = indicator_findings x.kind o before x after in
    let start = document_start o.document_start before x in
    in_two (is_indicator x.kind) ind start (value_findings v o x value key) (no_values v o x value key) (no_indicator x.kind o before x after)
    ∙ found_at v o before x value key after [] ind (ind ++ start) ((ind ++ start) ++ value_findings v o x value key) refl refl refl

-- ---- the version

same_version : (v i p d r : Bool) → v ≡ (i || (p && (d && r))) → d ≡ false → v ≡ i
same_version v true p d r h e = h
same_version v false true d r h e = h ∙ ap (λ b. b && r) e
same_version v false false d r h e = h

same_on : (i p d y r : Bool) → (i || (p && (d && ((d && y) || r)))) ≡ ((i || (p && (d && y))) || ((p && d) && r))
same_on true p d y r = refl
same_on false false d y r = refl
same_on false true false y r = refl
same_on false true true y r = refl

pub version_on : (v : Bool) (r : LexemesRead) (x : LexemeValue) (rest : List LexemeValue) → IsVersion v r (x ∷ rest) → IsVersion v (after_lexeme r x) rest
version_on v r x rest h =
    h ∙ same_on r.is_1_2 r.in_directives (is_directive x.kind) (bytes_eq (take 5 x.value) (codes "%YAML") && is_behind_white (codes "1.2") (drop 5 x.value)) (is_1_2_document rest)

told_by_version : (v : Bool) (o : LexemeOptions) (r : LexemesRead) (x : LexemeValue) (key : KeyFacts) (rest : List LexemeValue) → IsVersion v r (x ∷ rest)
    → findings_told r.is_1_2 o r.latest (span_of x) x.value key ≡ findings_told v o r.latest (span_of x) x.value key
told_by_version v o r x key rest h =
    ap (λ (fs : List FindingValue). cond (is_indicator x.kind) [] (document_start o.document_start r.latest (span_of x) ++ fs))
    (sym (values_by_version x.kind v r.is_1_2 o x.start x.end.line x.end.col x.value key (λ d. same_version v r.is_1_2 r.in_directives (is_directive x.kind) _ h d)))

-- ---- one lexeme more

put_together : (found before told waits all later : List FindingValue) → told ++ waits ≡ all
    → (found ++ before ++ told) ++ (waits ++ later) ≡ found ++ (before ++ (all ++ later))
put_together found before told waits all later h = rw (← h) (simp append_assoc)

lexeme_on : (v : Bool) (o : LexemeOptions) (r n : LexemesRead) (x : LexemeValue) (key : KeyFacts) (rest later : List LexemeValue) (ks : List KeyFacts) (found new : List FindingValue)
    → n ≡ after_lexeme r x → new ≡ found ++ findings_waiting o r (Some (span_of x)) ++ findings_told r.is_1_2 o r.latest (span_of x) x.value key
    → IsVersion v r (x ∷ rest) → new ++ lexemes_left v o n later ks ≡ found ++ lexemes_left v o r (x ∷ later) (key ∷ ks)
lexeme_on v o r n x key rest later ks found new n_is new_is h =
    let s = span_of x in
    let before = findings_waiting o r (Some s) in
    let waits = waits_at o r.latest s (first_span later) in
    let others = findings_behind v o (Some s) later ks in
    ap (λ m. new ++ lexemes_left v o m later ks) n_is
    ∙ ap (λ (fs : List FindingValue). fs ++ (waits ++ others)) new_is
    ∙ ap (λ (fs : List FindingValue). (found ++ before ++ fs) ++ (waits ++ others)) (told_by_version v o r x key rest h)
    ∙ put_together found before (findings_told v o r.latest s x.value key) waits (findings_at v o r.latest s x.value key (first_span later)) others
    (told_and_waits v o r.latest s x.value key (first_span later))

-- ---- lexemes one after another

module _ {X : Type 0} (f : X → LexemeValue) (xs : List X) (i : ℕ) where
  next_of : {Y : Type 0} (ys : List Y) (y d : Y) → i < length ys → y ≡ get_or ys i d → drop i ys ≡ y ∷ drop (i + 1) ys
  next_of ys y d h e = drop-cons ys i d h ∙ (ap (λ n. get_or ys i d ∷ drop n ys) (sym (add-one i)) ∙ ap (λ z. z ∷ drop (i + 1) ys) (sym e))

  pub version_more : (v : Bool) (r n : LexemesRead) (x d : X) (rest : List LexemeValue) → i < length xs → x ≡ get_or xs i d → n ≡ after_lexeme r (f x)
      → IsVersion v r (map f (drop i xs) ++ rest) → IsVersion v n (map f (drop (i + 1) xs) ++ rest)
  version_more v r n x d rest h e n_is before =
      subst (λ m. IsVersion v m (map f (drop (i + 1) xs) ++ rest)) (sym n_is)
      (version_on v r (f x) (map f (drop (i + 1) xs) ++ rest) (subst (λ l. IsVersion v r (map f l ++ rest)) (next_of xs x d h e) before))

  pub lexemes_more : (v : Bool) (o : LexemeOptions) (r n : LexemesRead) (x d : X) (keys : List KeyFacts) (key e : KeyFacts) (rest later : List LexemeValue) (ks : List KeyFacts) (found new total : List FindingValue)
      → i < length xs → x ≡ get_or xs i d → i < length keys → key ≡ get_or keys i e
      → n ≡ after_lexeme r (f x) → new ≡ found ++ findings_waiting o r (Some (span_of (f x))) ++ findings_told r.is_1_2 o r.latest (span_of (f x)) (f x).value key
      → IsVersion v r (map f (drop i xs) ++ rest)
      → found ++ lexemes_left v o r (map f (drop i xs) ++ later) (drop i keys ++ ks) ≡ total
      → new ++ lexemes_left v o n (map f (drop (i + 1) xs) ++ later) (drop (i + 1) keys ++ ks) ≡ total
  lexemes_more v o r n x d keys key e rest later ks found new total h x_is g key_is n_is new_is before total_is =
      let at : drop i xs ≡ x ∷ drop (i + 1) xs = next_of xs x d h x_is in
      let beside : drop i keys ≡ key ∷ drop (i + 1) keys = next_of keys key e g key_is in
      lexeme_on v o r n (f x) key (map f (drop (i + 1) xs) ++ rest) (map f (drop (i + 1) xs) ++ later) (drop (i + 1) keys ++ ks) found new n_is new_is
      (subst (λ l. IsVersion v r (map f l ++ rest)) at before)
      ∙ ap (λ (l : List X). found ++ lexemes_left v o r (map f l ++ later) ((key ∷ drop (i + 1) keys) ++ ks)) (sym at)
      ∙ ap (λ (l : List KeyFacts). found ++ lexemes_left v o r (map f (drop i xs) ++ later) (l ++ ks)) (sym beside)
      ∙ total_is

  pub all_read : (v : Bool) (o : LexemeOptions) (r : LexemesRead) (keys : List KeyFacts) (later : List LexemeValue) (ks : List KeyFacts) (found total : List FindingValue)
      → length xs ≤ i → length keys ≡ length xs
      → found ++ lexemes_left v o r (map f (drop i xs) ++ later) (drop i keys ++ ks) ≡ total → found ++ lexemes_left v o r later ks ≡ total
  all_read v o r keys later ks found total h n total_is =
      ap (λ (l : List KeyFacts). found ++ lexemes_left v o r later (l ++ ks)) (sym (drop_all i keys (omega arith)))
      ∙ ap (λ (l : List X). found ++ lexemes_left v o r (map f l ++ later) (drop i keys ++ ks)) (sym (drop_all i xs h))
      ∙ total_is

  pub summary_more : (r n total : LexemesRead) (x d : X) → i < length xs → x ≡ get_or xs i d → n ≡ after_lexeme r (f x)
      → after_lexemes r (map f (drop i xs)) ≡ total → after_lexemes n (map f (drop (i + 1) xs)) ≡ total
  summary_more r n total x d h x_is n_is total_is =
      ap (λ (m : LexemesRead). after_lexemes m (map f (drop (i + 1) xs))) n_is
      ∙ ap (λ (l : List X). after_lexemes r (map f l)) (sym (next_of xs x d h x_is)) ∙ total_is

  pub summary_at_end : (r total : LexemesRead) → length xs ≤ i → after_lexemes r (map f (drop i xs)) ≡ total → r ≡ total
  summary_at_end r total h total_is = ap (λ (l : List X). after_lexemes r (map f l)) (sym (drop_all i xs h)) ∙ total_is

  pub version_at_end : (v : Bool) (r : LexemesRead) (rest : List LexemeValue) → length xs ≤ i → IsVersion v r (map f (drop i xs) ++ rest) → IsVersion v r rest
  version_at_end v r rest h before = subst (λ (l : List X). IsVersion v r (map f l ++ rest)) (drop_all i xs h) before

-- ---- a whole document, of which the first lexemes count

pub as_many_keys : {X : Type 0} (f : X → LexemeValue) (n : ℕ) (xs : List X) (keys : List KeyFacts) → n ≤ length xs → keys ≡ key_facts (map f xs) → n ≤ length keys
as_many_keys f n xs keys h keys_is =
    let count : length keys ≡ length xs = ap length keys_is ∙ length-key_facts (map f xs) ∙ length-map xs f in
    omega arith

module _ {X : Type 0} (f : X → LexemeValue) (n : ℕ) (xs front : List X) (keys kept : List KeyFacts) where
  pub document_read : (o : LexemeOptions) (r m : LexemesRead) (found read finished : List FindingValue)
      → front ≡ take n xs → kept ≡ take n keys → keys ≡ key_facts (map f xs) → found ≡ []
      → ((ys : List LexemeValue) → IsVersion (is_1_2_document ys) r ys)
      → ((w : LexemeOptions) (v : Bool) (ys : List LexemeValue) (ks : List KeyFacts) → lexemes_left v w r ys ks ≡ findings_behind v w None ys ks)
      → ((v : Bool) (rest later : List LexemeValue) (ks : List KeyFacts) → IsVersion v r (map f front ++ rest) → read ++ lexemes_left v o m later ks ≡ found ++ lexemes_left v o r (map f front ++ later) (kept ++ ks))
      → ((v : Bool) (ks : List KeyFacts) → finished ≡ read ++ lexemes_left v o m [] ks)
      → finished ≡ lexeme_findings o n (map f xs)
  document_read o r m found read finished front_is kept_is keys_is none version whole reads finishes =
      let v = is_1_2_document (map f xs) in
      let parts : map f front ++ map f (drop n xs) ≡ map f xs =
      sym (map-append f front (drop n xs)) ∙ ap (map f) (ap (λ (l : List X). l ++ drop n xs) front_is ∙ take-append-drop n xs) in
      let all_keys : kept ++ drop n keys ≡ key_facts (map f xs) = ap (λ (l : List KeyFacts). l ++ drop n keys) kept_is ∙ take-append-drop n keys ∙ keys_is in
      let counting : map f front ++ [] ≡ take n (map f xs) = append-nil (map f front) ∙ ap (map f) front_is ∙ sym (take-map f n xs) in
      finishes v (drop n keys)
      ∙ reads v (map f (drop n xs)) [] (drop n keys) (subst (λ l. IsVersion v r l) (sym parts) (version (map f xs)))
      ∙ ap (λ (fs : List FindingValue). fs ++ lexemes_left v o r (map f front ++ []) (kept ++ drop n keys)) none
      ∙ whole o v (map f front ++ []) (kept ++ drop n keys)
      ∙ ap (λ l. findings_behind v o None l (kept ++ drop n keys)) counting
      ∙ ap (findings_behind v o None (take n (map f xs))) all_keys
