-- The facts of a document as its symbols come.
use Rattle.std.proofs.Common.{◌≡◌, ◌≤◌, refl, sym, ◌∙◌, ap, arith, append_assoc, ℕ, Bool, true, false, List, [], ◌∷◌, ◌++◌, map, Option, Some, None}
use Rattle.std.specs.Prelude.{◌+◌, nat_lt, slice_get, slice_index}
use Rattle.std.proofs.lemmas.Bool.Decides.{nat_tests}
use Rattle.yl_lexeme.specs.Lexeme.{LexemeValue}
use Rattle.yl_lexeme.specs.declared.lexeme.Kind.{Kind}
use Rattle.yl_lexeme.specs.declared.lexeme.Kind.TheVariants.{DocStart, DocEnd, SeqOpen, SeqClose, MapOpen, MapClose}
use Rattle.yl_marks.specs.declared.token.Token.{Token}
use Rattle.yl_marks.specs.declared.symbol.Symbol.{Symbol}
use Rattle.yl_marks.specs.declared.symbol.Symbol.TheVariants.{OpenSequence, OpenMapping, BeginKey, Close, One}
use Rattle.yl_marks.specs.Keys.{token_of}
use Rattle.yl_marks.specs.Marks.{as_marked, marked_lexemes, symbols_of_lexemes}
use Rattle.yl_marks.specs.ByLine.{HaveIndices}
use Rattle.yl_indentation.specs.declared.element.Site.{Site}
use Rattle.yl_indentation.specs.declared.element.Element.{Element}
use Rattle.yl_indentation.specs.Elements.{element_at, lexeme_element, element_of}
use Rattle.yl_indentation.specs.SlimElements.{slim_element}
use Rattle.yl_indentation.specs.Facts.{indent_facts}
use Rattle.yl_indentation.specs.Context.{ContextValue, nothing_open, after, fact_here, fact_in, facts_in}
use Rattle.yl_indentation.specs.SymbolFacts.{element_of_symbol, facts_if, after_if, behind_symbol, behind_symbols, facts_left}
use Rattle.yl_indentation.proofs.LookBack.{facts_suffice}
use Rattle.yl_indentation.proofs.SlimElements.{slim_facts}

-- a lexeme with what stands around it, and whether it counts
abbrev site : Token → Option Token → ℕ → Bool → Site
site x next spaces counts = record { token = x; next = next; indentation = spaces; counts = counts }

-- ---- whether a lexeme counts has no part in what is kept of it

after_at : (kind : Kind) (x : Token) (next : Option Token) (spaces : ℕ) (a b : Bool) (c : ContextValue) →
    after (slim_element (element_at kind (site x next spaces a))) c ≡ after (slim_element (element_at kind (site x next spaces b))) c
after_at DocStart x next spaces a b c = refl
after_at DocEnd x next spaces a b c = refl
after_at SeqOpen x next spaces a b c = refl
after_at MapOpen x next spaces a b c = refl
after_at SeqClose x next spaces a b c = refl
after_at MapClose x next spaces a b c = refl
after_at _ x next spaces a b c = refl

module _ (tokens : List Token) (indentations : List ℕ) where
  after_lexeme : (n m i : ℕ) (o : Option Token) (c : ContextValue) →
      after (slim_element (lexeme_element tokens n indentations i o)) c ≡ after (slim_element (lexeme_element tokens m indentations i o)) c
  after_lexeme n m i None c = refl
  after_lexeme n m i (Some x) c = after_at x.kind x _ _ (nat_lt i n) (nat_lt i m) c

  pub after_counted : (n : ℕ) (w : Symbol) (c : ContextValue) → after_if (element_of_symbol tokens n indentations w) c ≡ behind_symbol tokens indentations c w
  after_counted n (OpenSequence i) c = refl
  after_counted n (OpenMapping i) c = refl
  after_counted n (BeginKey i) c = refl
  after_counted n Close c = refl
  after_counted n (One kind i) c = after_lexeme n 0 i (slice_get tokens i) c

  pub after_one : (n : ℕ) (w : Symbol) (e : Element) (c : ContextValue) → Some e ≡ element_of_symbol tokens n indentations w → after e c ≡ behind_symbol tokens indentations c w
  after_one n w e c is = ap (λ o. after_if o c) is ∙ after_counted n w c

  -- ---- one after another

  pub go_on : (c : ContextValue) (n : ℕ) (ws later : List Symbol) →
      facts_left c tokens n indentations (ws ++ later) ≡ facts_left c tokens n indentations ws ++ facts_left (behind_symbols tokens indentations c ws) tokens n indentations later
  go_on c n [] later = refl
  go_on c n (w ∷ ws) later =
      let here = facts_if c (element_of_symbol tokens n indentations w) in
      let c' = behind_symbol tokens indentations c w in
      ap (λ fs. here ++ fs) (go_on c' n ws later)
      ∙ sym (append_assoc here (facts_left c' tokens n indentations ws) (facts_left (behind_symbols tokens indentations c' ws) tokens n indentations later))

  -- ---- all symbols of a document

  by_marks : (c : ContextValue) (n : ℕ) (begins : Bool) (ws : List Symbol) →
      facts_left c tokens n indentations ws ≡ facts_in c (map (λ m. slim_element (element_of tokens n indentations m)) (as_marked tokens begins ws))
  by_marks c n begins [] = refl
  by_marks c n begins (OpenSequence i ∷ ws) = by_marks (behind_symbol tokens indentations c (OpenSequence i)) n begins ws
  by_marks c n begins (OpenMapping i ∷ ws) = by_marks (behind_symbol tokens indentations c (OpenMapping i)) n begins ws
  by_marks c n begins (BeginKey i ∷ ws) = by_marks c n true ws
  by_marks c n begins (Close ∷ ws) = by_marks (behind_symbol tokens indentations c Close) n begins ws
  by_marks c n begins (One kind i ∷ ws) =
      let e = slim_element (lexeme_element tokens n indentations i (slice_get tokens i)) in
      ap (λ d. fact_in c e ++ facts_left d tokens n indentations ws) (sym (after_counted n (One kind i) c))
      ∙ ap (λ fs. fact_in c e ++ fs) (by_marks (after e c) n false ws)

  -- ---- which lexemes count

  pub as_counted : (c : ContextValue) (n m : ℕ) (ws : List Symbol) → HaveIndices (λ i. nat_lt i n ≡ nat_lt i m) ws →
      facts_left c tokens n indentations ws ≡ facts_left c tokens m indentations ws
  as_counted c n m [] h = refl
  as_counted c n m (OpenSequence i ∷ ws) h = as_counted (behind_symbol tokens indentations c (OpenSequence i)) n m ws h
  as_counted c n m (OpenMapping i ∷ ws) h = as_counted (behind_symbol tokens indentations c (OpenMapping i)) n m ws h
  as_counted c n m (BeginKey i ∷ ws) h = as_counted c n m ws h
  as_counted c n m (Close ∷ ws) h = as_counted (behind_symbol tokens indentations c Close) n m ws h
  as_counted c n m (One kind i ∷ ws) h =
      let d = behind_symbol tokens indentations c (One kind i) in
      ap (λ fs. fs ++ facts_left d tokens n indentations ws) (same_fact (slice_get tokens i))
      ∙ ap (λ fs. fact_in c (slim_element (lexeme_element tokens m indentations i (slice_get tokens i))) ++ fs) (as_counted d n m ws h.1)
    where
      same_fact : (o : Option Token) → fact_in c (slim_element (lexeme_element tokens n indentations i o)) ≡ fact_in c (slim_element (lexeme_element tokens m indentations i o))
      same_fact None = refl
      same_fact (Some x) = ap (λ b. fact_in c (slim_element (element_at x.kind (site x (slice_get tokens (i + 1)) (slice_index indentations x.start.line) b)))) h.0

-- ---- none that counts

not_here : (c : ContextValue) (s : Site) → s.counts ≡ false → fact_here c s ≡ []
not_here c s h = ap (λ b. fact_here c (site s.token s.next s.indentation b)) h

none_at : (kind : Kind) (c : ContextValue) (s : Site) → s.counts ≡ false → fact_in c (slim_element (element_at kind s)) ≡ []
none_at DocStart c s h = not_here c (site s.token None 0 s.counts) h
none_at DocEnd c s h = not_here c (site s.token None 0 s.counts) h
none_at SeqOpen c s h = not_here c s h
none_at MapOpen c s h = not_here c s h
none_at SeqClose c s h = not_here c (site s.token None 0 s.counts) h
none_at MapClose c s h = not_here c (site s.token None 0 s.counts) h
none_at _ c s h = not_here c (site s.token None 0 s.counts) h

module _ (tokens : List Token) (indentations : List ℕ) where
  none_of : (c : ContextValue) (n i : ℕ) (o : Option Token) → n ≤ i → fact_in c (slim_element (lexeme_element tokens n indentations i o)) ≡ []
  none_of c n i None h = refl
  none_of c n i (Some x) h = none_at x.kind c (site x (slice_get tokens (i + 1)) (slice_index indentations x.start.line) (nat_lt i n)) (grind (arith, nat_tests))

  pub none_counts : (c : ContextValue) (n : ℕ) (ws : List Symbol) → HaveIndices (λ i. n ≤ i) ws → facts_left c tokens n indentations ws ≡ []
  none_counts c n [] h = refl
  none_counts c n (OpenSequence i ∷ ws) h = none_counts (behind_symbol tokens indentations c (OpenSequence i)) n ws h
  none_counts c n (OpenMapping i ∷ ws) h = none_counts (behind_symbol tokens indentations c (OpenMapping i)) n ws h
  none_counts c n (BeginKey i ∷ ws) h = none_counts c n ws h
  none_counts c n (Close ∷ ws) h = none_counts (behind_symbol tokens indentations c Close) n ws h
  none_counts c n (One kind i ∷ ws) h =
      let d = behind_symbol tokens indentations c (One kind i) in
      ap (λ fs. fs ++ facts_left d tokens n indentations ws) (none_of c n i (slice_get tokens i) h.0)
      ∙ none_counts d n ws h.1

-- ---- for a caller that reads line by line, and knows how many lexemes count only behind a line

-- ---- all symbols of a document have its facts

pub by_symbols : (xs : List LexemeValue) (counted : ℕ) (indentations : List ℕ) →
    facts_left nothing_open (map token_of xs) counted indentations (symbols_of_lexemes xs) ≡ indent_facts (map token_of xs) (marked_lexemes xs) counted indentations
by_symbols xs counted indentations =
    let element = element_of (map token_of xs) counted indentations in
    by_marks (map token_of xs) indentations nothing_open counted false (symbols_of_lexemes xs)
    ∙ slim_facts element nothing_open (marked_lexemes xs)
    ∙ facts_suffice (map element (marked_lexemes xs))
