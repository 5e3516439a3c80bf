-- What the rules on lexemes find in rows and in the rows after them.
use Rattle.std.proofs.Common.{◌≡◌, ◌<◌, ◌+◌, ◌-◌, ℕ, Bool, true, false, List, [], ◌∷◌, ◌++◌, length, map, Option, Some, None, refl, sym, ◌∙◌, ap, append_assoc, append-nil, arith}
use Rattle.std.specs.Prelude.{IfSome, option_map, ◌&&◌, ◌||◌}
use Rattle.std.specs.List.{AllByRecursion}
use Rattle.yl_text.specs.Finding.{FindingValue}
use Rattle.yl_lexeme.specs.declared.lexeme.Kind.{Kind}
use Rattle.yl_lexeme.specs.Lexeme.{LexemeValue}
use Rattle.yl_marks.specs.declared.facts.KeyFacts.{KeyFacts}
use Rattle.yl_marks.specs.Keys.{token_of}
use Rattle.yl_lexeme_rules.specs.declared.options.LexemeOptions.{LexemeOptions}
use Rattle.yl_lexeme_rules.specs.declared.span.Span.{Span}
use Rattle.yl_lexeme_rules.specs.declared.state.LexemeRulesState.{LexemeRulesState}
use Rattle.yl_lexeme_rules.specs.Lexemes.{findings_behind, first_span}
use Rattle.yl_lexeme_rules.specs.LexemesLeft.{IsVersion, LexemesRead, after_lexeme, findings_told, findings_waiting, lexemes_left}
use Rattle.yl_lexeme_rules.specs.LexemesAlike.{AreJudgedAlike, IsAbove, after_lexemes, finding_below, is_settled, lexeme_below, lexemes_state}
use Rattle.yl_lexeme_rules.specs.Spans.{span_of}
use Rattle.yl_lexeme_rules.specs.Version.{is_1_2_document}
use Rattle.yl_lexeme_rules.proofs.LexemesAlike.{judged_alike}
use Rattle.yl_lexeme_rules.proofs.LexemesLeft.{lexemes_more, version_on}
use Rattle.yl_pieces.specs.State.{lexemes_from_state, span_above}
use Rattle.yl_pieces.proofs.JoinedLines.{StandsAbove}

-- ---- lexemes and those after them

-- what is told at these lexemes, before the one after them is read
abbrev told_at : LexemeOptions → LexemesRead → List LexemeValue → List KeyFacts → List FindingValue
told_at o r [] ks = []
told_at o r (x ∷ xs) [] = []
told_at o r (x ∷ xs) (k ∷ ks) =
    (findings_waiting o r (Some (span_of x)) ++ findings_told r.is_1_2 o r.latest (span_of x) x.value k) ++ told_at o (after_lexeme r x) xs ks

one_more : (v : Bool) (o : LexemeOptions) (r : LexemesRead) (x : LexemeValue) (k : KeyFacts) (rest later : List LexemeValue) (ks : List KeyFacts) → IsVersion v r (x ∷ rest)
    → lexemes_left v o r (x ∷ later) (k ∷ ks)
    ≡ (findings_waiting o r (Some (span_of x)) ++ findings_told r.is_1_2 o r.latest (span_of x) x.value k) ++ lexemes_left v o (after_lexeme r x) later ks
one_more v o r x k rest later ks h =
    sym (lexemes_more (λ (y : LexemeValue). y) (x ∷ []) 0 v o r (after_lexeme r x) x x (k ∷ []) k k rest later ks []
    (findings_waiting o r (Some (span_of x)) ++ findings_told r.is_1_2 o r.latest (span_of x) x.value k) (lexemes_left v o r (x ∷ later) (k ∷ ks))
    (omega arith) refl (omega arith) refl refl refl h refl)

left_on : (v : Bool) (o : LexemeOptions) (r : LexemesRead) (xs rest later : List LexemeValue) (ks more : List KeyFacts) → length xs ≡ length ks → IsVersion v r (xs ++ rest)
    → lexemes_left v o r (xs ++ later) (ks ++ more) ≡ told_at o r xs ks ++ lexemes_left v o (after_lexemes r xs) later more
left_on v o r [] rest later [] more e h = refl
left_on v o r [] rest later (k ∷ ks) more e h = absurd (omega (arith, e))
left_on v o r (x ∷ xs) rest later [] more e h = absurd (omega (arith, e))
left_on v o r (x ∷ xs) rest later (k ∷ ks) more e h =
    let here = findings_waiting o r (Some (span_of x)) ++ findings_told r.is_1_2 o r.latest (span_of x) x.value k in
    let next = after_lexeme r x in
    one_more v o r x k (xs ++ rest) (xs ++ later) (ks ++ more) h
    ∙ ap (λ (fs : List FindingValue). here ++ fs) (left_on v o next xs rest later ks more (omega (arith, e)) (version_on v r x (xs ++ rest) h))
    ∙ sym (append_assoc here (told_at o next xs ks) (lexemes_left v o (after_lexemes next xs) later more))

-- all that is found at them, if no lexeme comes after them: the version says nothing more
pub found_alone : (v : Bool) (o : LexemeOptions) (r : LexemesRead) (xs rest : List LexemeValue) (ks more : List KeyFacts) → length xs ≡ length ks → IsVersion v r (xs ++ rest)
    → lexemes_left v o r xs (ks ++ more) ≡ told_at o r xs ks ++ findings_waiting o (after_lexemes r xs) None
found_alone v o r xs rest ks more e h =
    ap (λ (ys : List LexemeValue). lexemes_left v o r ys (ks ++ more)) (sym (append-nil xs))
    ∙ left_on v o r xs rest [] ks more e h
    ∙ ap (λ (fs : List FindingValue). told_at o r xs ks ++ fs) (none_left more)
  where
    none_left : (ms : List KeyFacts) → findings_waiting o (after_lexemes r xs) None ++ findings_behind v o (after_lexemes r xs).latest [] ms ≡ findings_waiting o (after_lexemes r xs) None
    none_left ms = append-nil (findings_waiting o (after_lexemes r xs) None)

pub found_both : (v : Bool) (o : LexemeOptions) (r : LexemesRead) (xs rest later : List LexemeValue) (ks more : List KeyFacts) → length xs ≡ length ks → IsVersion v r (xs ++ rest)
    → findings_waiting o (after_lexemes r xs) (first_span later) ≡ findings_waiting o (after_lexemes r xs) None
    → lexemes_left v o r (xs ++ later) (ks ++ more) ≡ lexemes_left v o r xs ks ++ findings_behind v o (after_lexemes r xs).latest later more
found_both v o r xs rest later ks more e h waits =
    let last = after_lexemes r xs in
    let found = findings_behind v o last.latest later more in
    let told = told_at o r xs ks in
    left_on v o r xs rest later ks more e h
    ∙ ap (λ (fs : List FindingValue). told ++ (fs ++ found)) waits
    ∙ sym (append_assoc told (findings_waiting o last None) found)
    ∙ ap (λ (fs : List FindingValue). fs ++ found)
    (sym (ap (λ (ms : List KeyFacts). lexemes_left v o r xs ms) (sym (append-nil ks)) ∙ found_alone v o r xs rest ks [] e h))

-- ---- the version

pub version_after : (v : Bool) (r : LexemesRead) (xs rest : List LexemeValue) → IsVersion v r (xs ++ rest) → IsVersion v (after_lexemes r xs) rest
version_after v r [] rest h = h
version_after v r (x ∷ xs) rest h = version_after v (after_lexeme r x) xs rest (version_on v r x (xs ++ rest) h)

decided : (v i d b : Bool) → v ≡ (i || (d && b)) → d ≡ false → v ≡ i
decided v true d b h e = h
decided v false true b h e = cc
decided v false false b h e = h

-- where the directives have ended, whatever follows
pub version_told : (v : Bool) (r : LexemesRead) (rest : List LexemeValue) → IsVersion v r rest → r.in_directives ≡ false → v ≡ r.is_1_2
version_told v r rest h e = decided v r.is_1_2 r.in_directives (is_1_2_document rest) h e

-- ---- the latest lexeme stands above

pub lexemes_above : (high : ℕ) (r : LexemesRead) (xs : List LexemeValue) → IsAbove high r → AllByRecursion (StandsAbove high) (map token_of xs) → IsAbove high (after_lexemes r xs)
lexemes_above high r [] h a = h
lexemes_above high r (x ∷ xs) h a = lexemes_above high (after_lexeme r x) xs a.0 a.1

pub state_above : (high : ℕ) (s : LexemeRulesState) → 0 < high → IsAbove high (lexemes_from_state s)
state_above high s h = kinds_above s.latest
  where
    kinds_above : (latest : Option Kind) → IfSome (option_map span_above latest) (λ (x : Span). (x.start.line < high) × (x.end_line < high))
    kinds_above None = tt
    kinds_above (Some kind) = (h, h)

same_kind : (latest : Option Kind) → option_map (λ (x : Span). x.kind) (option_map span_above latest) ≡ latest
same_kind None = refl
same_kind (Some kind) = refl

pub same_lexemes : (s : LexemeRulesState) → lexemes_state (lexemes_from_state s) ≡ s
same_lexemes s = ap (λ (latest : Option Kind). record s { latest = latest }) (same_kind s.latest)

pub lexemes_both : (r : LexemesRead) (xs ys : List LexemeValue) → after_lexemes r (xs ++ ys) ≡ after_lexemes (after_lexemes r xs) ys
lexemes_both r [] ys = refl
lexemes_both r (x ∷ xs) ys = lexemes_both (after_lexeme r x) xs ys

-- ---- as far below in both

abbrev higher : ℕ → FindingValue → FindingValue
higher n f = record f { line = f.line - n }

back : (n : ℕ) (fs : List FindingValue) → map (higher n) (map (finding_below n) fs) ≡ fs
back n [] = refl
back n (f ∷ fs) =
    let there : n + f.line - n ≡ f.line = omega arith in
    ap (λ (k : ℕ). record f { line = k } ∷ map (higher n) (map (finding_below n) fs)) there ∙ ap (λ (gs : List FindingValue). f ∷ gs) (back n fs)

pub same_findings : (n : ℕ) (fs gs : List FindingValue) → map (finding_below n) fs ≡ map (finding_below n) gs → fs ≡ gs
same_findings n fs gs h = sym (back n fs) ∙ ap (map (higher n)) h ∙ back n gs

-- ---- rows and the rows after them

module _ (o : LexemeOptions) (r : LexemesRead) (xs : List LexemeValue) (line : ℕ) (up : IsAbove line (after_lexemes r xs)) (some : 0 < line) where
  abbrev last : LexemesRead
  last = after_lexemes r xs

  abbrev held : LexemesRead
  held = lexemes_from_state (lexemes_state last)

  alike : (v : Bool) (ys : List LexemeValue) (ks : List KeyFacts) → AreJudgedAlike v o last held line line ys ks
  alike v ys ks = judged_alike v o last held line line ys ks (sym (same_lexemes (lexemes_state last))) up (state_above line (lexemes_state last) some)

  -- what is found in both, where the first are settled
  pub found_joined : (v : Bool) (rest ys : List LexemeValue) (ks more : List KeyFacts) → length xs ≡ length ks → IsVersion v r (xs ++ rest) → is_settled (lexemes_state last) ≡ true
      → lexemes_left v o r (xs ++ map (lexeme_below line) ys) (ks ++ more) ≡ lexemes_left v o r xs ks ++ findings_behind v o held.latest (map (lexeme_below line) ys) more
  found_joined v rest ys ks more e h settled =
      let a = alike v ys more in
      found_both v o r xs rest (map (lexeme_below line) ys) ks more e h (a.waiting settled) ∙ ap (λ (fs : List FindingValue). lexemes_left v o r xs ks ++ fs) (same_findings line _ _ a.rest)

  pub lexemes_joined : (ys : List LexemeValue) → lexemes_state (after_lexemes r (xs ++ map (lexeme_below line) ys)) ≡ lexemes_state (after_lexemes held (map (lexeme_below line) ys))
  lexemes_joined ys = ap (λ (q : LexemesRead). lexemes_state q) (lexemes_both r xs (map (lexeme_below line) ys)) ∙ (alike false ys []).after
