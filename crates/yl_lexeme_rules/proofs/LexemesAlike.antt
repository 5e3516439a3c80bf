-- The rules on lexemes judge rows by what they know of the lexemes above, without lines.
use Rattle.std.proofs.Common.{◌≡◌, ◌<◌, ◌+◌, ℕ, Bool, true, false, cond, List, [], ◌∷◌, ◌++◌, map, Option, Some, None, refl, sym, ◌∙◌, ap, subst, arith}
use Rattle.std.specs.Prelude.{IfSome, option_map, not, ◌&&◌, ◌||◌}
use Rattle.std.specs.Option.{option_map_or}
use Rattle.std.proofs.lemmas.Bool.{not-true}
use Rattle.yl_text.specs.Finding.{FindingValue}
use Rattle.yl_lexeme.specs.Lexeme.{LexemeValue, is_opening}
use Rattle.yl_lexeme.specs.Directives.{is_directive}
use Rattle.yl_lexeme.specs.Version.{is_yaml_1_2}
use Rattle.yl_marks.specs.declared.facts.KeyFacts.{KeyFacts}
use Rattle.yl_lexeme_rules.specs.declared.span.Span.{Span}
use Rattle.yl_lexeme_rules.specs.declared.options.LexemeOptions.{LexemeOptions}
use Rattle.yl_lexeme_rules.specs.DocumentStart.{document_start}
use Rattle.yl_lexeme_rules.specs.Lexemes.{findings_behind, first_span}
use Rattle.yl_lexeme_rules.specs.LexemesLeft.{LexemesRead, after_lexeme, findings_at_indicator, findings_waiting}
use Rattle.yl_lexeme_rules.specs.Spans.{span_of}
use Rattle.yl_lexeme_rules.specs.declared.state.LexemeRulesState.{LexemeRulesState}
use Rattle.yl_lexeme_rules.specs.LexemesAlike.{IsAbove, LexemesAreJudgedAlike, after_lexemes, finding_below, is_settled, lexeme_below, lexemes_state}
use Rattle.yl_lexeme_rules.proofs.LexemesAlikeAbove.{EndsAbove, ended_indicator, kind_of, same_findings}
use Rattle.yl_lexeme_rules.proofs.LexemesAlikeBelow.{findings_move, span_below}

-- ---- what waits

module _ (o : LexemeOptions) (i : ℕ) where
  waiting_at : (waits : Bool) (earlier latest : Option Span) (y : Span)
      → not (option_map_or is_opening (kind_of latest) false) ≡ true → EndsAbove latest y.start.line
      → cond waits (option_map_or (λ x. findings_at_indicator o earlier x (Some y)) latest []) []
      ≡ cond waits (option_map_or (λ x. findings_at_indicator o earlier x None) latest []) []
  waiting_at waits earlier None y s h = refl
  waiting_at waits earlier (Some x) y s h =
      ap (λ (l : List FindingValue). cond waits (l ++ document_start o.document_start earlier x) []) (ended_indicator o earlier x y (not-true (is_opening x.kind) s) h)

  starts_below : (latest : Option Span) (y : ℕ) → IfSome latest (λ x. (x.start.line < i) × (x.end_line < i)) → EndsAbove latest (i + y)
  starts_below None y h = tt
  starts_below (Some x) y h = let above : x.end_line < i = h.1 in omega arith

  waiting_alike : (r : LexemesRead) (xs : List LexemeValue) → IsAbove i r → is_settled (lexemes_state r) ≡ true
      → findings_waiting o r (first_span (map (lexeme_below i) xs)) ≡ findings_waiting o r None
  waiting_alike r [] h s = refl
  waiting_alike r (x ∷ xs) h s = waiting_at r.waits r.earlier r.latest (span_of (lexeme_below i x)) s (starts_below r.latest x.start.line h)

-- ---- what is found at the lexemes

-- the lexeme, in these lines
abbrev in_lines : LexemeValue → ℕ → ℕ → LexemeValue
in_lines x first last = record x { start = record x.start { line = first }; end = record x.end { line = last } }

lexeme_twice : (i j : ℕ) (x : LexemeValue) → lexeme_below j (lexeme_below i x) ≡ lexeme_below i (lexeme_below j x)
lexeme_twice i j x =
    let line : (l : ℕ) → j + (i + l) ≡ i + (j + l) = λ l. omega arith in
    ap (λ (l : ℕ). in_lines x l (j + (i + x.end.line))) (line x.start.line) ∙ ap (λ (l : ℕ). in_lines x (i + (j + x.start.line)) l) (line x.end.line)

below_twice : (i j : ℕ) (xs : List LexemeValue) → map (lexeme_below j) (map (lexeme_below i) xs) ≡ map (lexeme_below i) (map (lexeme_below j) xs)
below_twice i j [] = refl
below_twice i j (x ∷ xs) =
    ap (λ (y : LexemeValue). y ∷ map (lexeme_below j) (map (lexeme_below i) xs)) (lexeme_twice i j x)
    ∙ ap (λ (l : List LexemeValue). lexeme_below i (lexeme_below j x) ∷ l) (below_twice i j xs)

kind_stays : (n : ℕ) (p : Option Span) → kind_of (option_map (span_below n) p) ≡ kind_of p
kind_stays n None = refl
kind_stays n (Some x) = refl

-- a lexeme above the line i, j lines below, ends above those that stand as far below each
below_both : (i j : ℕ) (p : Option Span) (xs : List LexemeValue) → IfSome p (λ x. (x.start.line < i) × (x.end_line < i))
    → IfSome (first_span (map (lexeme_below j) (map (lexeme_below i) xs))) (λ y. EndsAbove (option_map (span_below j) p) y.start.line)
below_both i j p [] h = tt
below_both i j None (x ∷ xs) h = tt
below_both i j (Some p) (x ∷ xs) h = let above : p.end_line < i = h.1 in omega arith

rest_alike : (v : Bool) (o : LexemeOptions) (a b : LexemesRead) (i j : ℕ) (xs : List LexemeValue) (ks : List KeyFacts)
    → lexemes_state a ≡ lexemes_state b → IsAbove i a → IsAbove j b
    → map (finding_below j) (findings_behind v o a.latest (map (lexeme_below i) xs) ks) ≡ map (finding_below i) (findings_behind v o b.latest (map (lexeme_below j) xs) ks)
rest_alike v o a b i j xs ks e f g =
    let p : Option Span = option_map (span_below j) a.latest in
    let q : Option Span = option_map (span_below i) b.latest in
    let kinds : kind_of p ≡ kind_of q = kind_stays j a.latest ∙ ap (λ (s : LexemeRulesState). s.latest) e ∙ sym (kind_stays i b.latest) in
    let above : IfSome (first_span (map (lexeme_below i) (map (lexeme_below j) xs))) (λ y. EndsAbove p y.start.line) =
    subst (λ (l : List LexemeValue). IfSome (first_span l) (λ y. EndsAbove p y.start.line)) (below_twice i j xs) (below_both i j a.latest xs f) in
    sym (findings_move j v o a.latest (map (lexeme_below i) xs) ks)
    ∙ ap (λ (l : List LexemeValue). findings_behind v o p l ks) (below_twice i j xs)
    ∙ same_findings v o p q (map (lexeme_below i) (map (lexeme_below j) xs)) ks kinds above (below_both j i b.latest xs g)
    ∙ findings_move i v o b.latest (map (lexeme_below j) xs) ks

-- ---- what is known then

-- what the rules know after one more lexeme
abbrev state_after : LexemeRulesState → LexemeValue → LexemeRulesState
state_after s x = record {
  latest = Some x.kind;
  is_1_2 = s.is_1_2 || (s.in_directives && is_yaml_1_2 x);
  in_directives = s.in_directives && is_directive x.kind;
}

after_alike : (a b : LexemesRead) (i j : ℕ) (xs : List LexemeValue) → lexemes_state a ≡ lexemes_state b
    → lexemes_state (after_lexemes a (map (lexeme_below i) xs)) ≡ lexemes_state (after_lexemes b (map (lexeme_below j) xs))
after_alike a b i j [] e = e
after_alike a b i j (x ∷ xs) e =
    after_alike (after_lexeme a (lexeme_below i x)) (after_lexeme b (lexeme_below j x)) i j xs (ap (λ (s : LexemeRulesState). state_after s x) e)

-- ---- the law

pub judged_alike : LexemesAreJudgedAlike
judged_alike = λ v o a b i j xs ks e f g. record {
  waiting = λ s. waiting_alike o i a xs f s;
  rest = rest_alike v o a b i j xs ks e f g;
  after = after_alike a b i j xs e;
}
