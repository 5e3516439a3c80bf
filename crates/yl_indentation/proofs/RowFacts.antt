-- The facts of rows as a reader finds them line by line, and that its latest lexeme ends above.
use Rattle.std.proofs.Common.{◌≡◌, ◌+◌, ◌-◌, ◌<◌, ◌≤◌, refl, sym, ◌∙◌, ap, subst, arith, zero-add, ℕ, List, [], ◌∷◌, ◌++◌, length, map, Option, Some, None, IfSome}
use Rattle.std.specs.Prelude.{slice_get}
use Rattle.std.proofs.lemmas.List.{map-append}
use Rattle.yl_lexeme.specs.declared.lexeme.Kind.{Kind}
use Rattle.yl_lexeme.specs.declared.lexeme.Kind.TheVariants.{DocStart, DocEnd, SeqOpen, SeqClose, MapOpen, MapClose}
use Rattle.yl_marks.specs.declared.token.Token.{Token}
use Rattle.yl_marks.specs.declared.symbol.Symbol.{Symbol}
use Rattle.yl_marks.specs.declared.symbol.Symbol.TheVariants.{OpenSequence, OpenMapping, BeginKey, Close, One}
use Rattle.yl_marks.specs.ByLine.{HaveIndices}
use Rattle.yl_indentation.specs.declared.element.Site.{Site}
use Rattle.yl_indentation.specs.declared.fact.Fact.{Fact}
use Rattle.yl_indentation.specs.Elements.{element_at, lexeme_element}
use Rattle.yl_indentation.specs.SlimElements.{slim_element}
use Rattle.yl_indentation.specs.Context.{ContextValue, latest_after}
use Rattle.yl_indentation.specs.SymbolFacts.{behind_symbol, behind_symbols, facts_left}
use Rattle.yl_marks.specs.MarksAlike.{token_below, symbol_after}
use Rattle.yl_indentation.specs.FactsAlike.{fact_below, IsAbove, with_earlier, facts_of_rows, after_rows}
use Rattle.yl_indentation.proofs.BySymbols.{go_on}

-- ---- symbols, and then later ones

pub behind_both : (tokens : List Token) (ns : List ℕ) (c : ContextValue) (ws later : List Symbol) →
    behind_symbols tokens ns c (ws ++ later) ≡ behind_symbols tokens ns (behind_symbols tokens ns c ws) later
behind_both tokens ns c [] later = refl
behind_both tokens ns c (w ∷ ws) later = behind_both tokens ns (behind_symbol tokens ns c w) ws later

module _ (earlier : List Token) (above : List ℕ) (tokens : List Token) (lines : List ℕ) where
  -- the facts of rows are those of the first lines' symbols, and then those of the later lines'
  pub facts_of_both : (c : ContextValue) (counted : ℕ) (ws later : List Symbol) →
      facts_of_rows c earlier above tokens counted lines (ws ++ later)
      ≡ facts_of_rows c earlier above tokens counted lines ws ++ facts_of_rows (after_rows c earlier above tokens lines ws) earlier above tokens counted lines later
  facts_of_both c counted ws later =
      let all = with_earlier earlier above tokens in
      let ns = above ++ lines in
      let counts = length earlier + counted in
      let moved = symbol_after (length earlier) in
      ap (facts_left c all counts ns) (map-append moved ws later) ∙ go_on all ns c counts (map moved ws) (map moved later)

  pub after_both : (c : ContextValue) (ws later : List Symbol) →
      after_rows c earlier above tokens lines (ws ++ later) ≡ after_rows (after_rows c earlier above tokens lines ws) earlier above tokens lines later
  after_both c ws later =
      let all = with_earlier earlier above tokens in
      let ns = above ++ lines in
      let moved = symbol_after (length earlier) in
      ap (behind_symbols all ns c) (map-append moved ws later) ∙ behind_both all ns c (map moved ws) (map moved later)

-- ---- where no lexeme comes before the rows, as for a reader that resumes

same_symbol : (w : Symbol) → symbol_after 0 w ≡ w
same_symbol (OpenSequence i) = ap OpenSequence (zero-add i)
same_symbol (OpenMapping i) = ap OpenMapping (zero-add i)
same_symbol (BeginKey i) = ap BeginKey (zero-add i)
same_symbol Close = refl
same_symbol (One kind i) = ap (One kind) (zero-add i)

same_symbols : (ws : List Symbol) → map (symbol_after 0) ws ≡ ws
same_symbols [] = refl
same_symbols (w ∷ ws) = ap (λ v. v ∷ map (symbol_after 0) ws) (same_symbol w) ∙ ap (λ vs. w ∷ vs) (same_symbols ws)

module _ (above : List ℕ) (tokens : List Token) (lines : List ℕ) where
  pub facts_of_first : (c : ContextValue) (counted : ℕ) (ws : List Symbol) →
      facts_of_rows c [] above tokens counted lines ws ≡ facts_left c (map (token_below (length above)) tokens) counted (above ++ lines) ws
  facts_of_first c counted ws =
      let all = map (token_below (length above)) tokens in
      ap (λ n. facts_left c all n (above ++ lines) (map (symbol_after 0) ws)) (zero-add counted)
      ∙ ap (facts_left c all counted (above ++ lines)) (same_symbols ws)

  pub after_first : (c : ContextValue) (ws : List Symbol) →
      after_rows c [] above tokens lines ws ≡ behind_symbols (map (token_below (length above)) tokens) (above ++ lines) c ws
  after_first c ws = ap (behind_symbols (map (token_below (length above)) tokens) (above ++ lines) c) (same_symbols ws)

-- ---- the latest lexeme ends above a line

pub above_later : (m n : ℕ) (c : ContextValue) → m ≤ n → IsAbove m c → IsAbove n c
above_later m n c h above = later c.latest above
  where
    later : (o : Option Token) → IfSome o (λ x. x.end_line < m) → IfSome o (λ x. x.end_line < n)
    later None g = tt
    later (Some x) g = omega arith

latest_is : (kind : Kind) (s : Site) (before : Option Token) → latest_after (slim_element (element_at kind s)) before ≡ Some s.token
latest_is DocStart s before = refl
latest_is DocEnd s before = refl
latest_is SeqOpen s before = refl
latest_is MapOpen s before = refl
latest_is SeqClose s before = refl
latest_is MapClose s before = refl
latest_is _ s before = refl

module _ (tokens : List Token) (ns : List ℕ) (line : ℕ) where
  abbrev pub EndsAbove : ℕ → Type 0
  EndsAbove i = IfSome (slice_get tokens i) (λ x. x.end_line < line)

  after_lexeme : (i : ℕ) (o before : Option Token) → IfSome o (λ x. x.end_line < line) → IfSome before (λ x. x.end_line < line)
      → IfSome (latest_after (slim_element (lexeme_element tokens 0 ns i o)) before) (λ x. x.end_line < line)
  after_lexeme i None before h above = above
  after_lexeme i (Some x) before h above = subst (λ o. IfSome o (λ y. y.end_line < line)) (sym (latest_is x.kind _ before)) h

  -- after symbols whose lexemes end above a line
  pub above_after : (c : ContextValue) (ws : List Symbol) → IsAbove line c → HaveIndices EndsAbove ws → IsAbove line (behind_symbols tokens ns c ws)
  above_after c [] above h = above
  above_after c (OpenSequence i ∷ ws) above h = above_after (behind_symbol tokens ns c (OpenSequence i)) ws above h
  above_after c (OpenMapping i ∷ ws) above h = above_after (behind_symbol tokens ns c (OpenMapping i)) ws above h
  above_after c (BeginKey i ∷ ws) above h = above_after c ws above h
  above_after c (Close ∷ ws) above h = above_after (behind_symbol tokens ns c Close) ws above h
  above_after c (One kind i ∷ ws) above h =
      above_after (behind_symbol tokens ns c (One kind i)) ws (after_lexeme i (slice_get tokens i) c.latest h.0 above) h.1

-- ---- the facts that a reader finds in the lines from 1 on, where other lines stand above

raised : Fact → Fact
raised f = record { line = f.line - 1; column = f.column; expectation = f.expectation }

raised_back : (n : ℕ) (fs : List Fact) → map raised (map (fact_below (1 + n)) fs) ≡ map (fact_below n) fs
unfolding raised
raised_back n [] = refl
raised_back n (f ∷ fs) =
    let there : 1 + n + f.line - 1 ≡ n + f.line = omega arith in
    ap (λ k. record { line = k; column = f.column; expectation = f.expectation } ∷ map raised (map (fact_below (1 + n)) fs)) there
    ∙ ap (λ gs. fact_below n f ∷ gs) (raised_back n fs)

same_place : (fs : List Fact) → map (fact_below 0) fs ≡ fs
same_place [] = refl
same_place (f ∷ fs) =
    ap (λ k. record { line = k; column = f.column; expectation = f.expectation } ∷ map (fact_below 0) fs) (zero-add f.line)
    ∙ ap (λ gs. f ∷ gs) (same_place fs)

pub facts_there : (n : ℕ) (fs gs : List Fact) → map (fact_below 1) fs ≡ map (fact_below (1 + n)) gs → fs ≡ map (fact_below n) gs
facts_there n fs gs e = sym (raised_back 0 fs ∙ same_place fs) ∙ ap (map raised) e ∙ raised_back n gs
