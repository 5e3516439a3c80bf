-- The facts of a line of a document are those that its lexemes tell.
use Rattle.std.proofs.Common.{◌≡◌, ◌≤◌, ◌<◌, ◌+◌, ◌-◌, refl, sym, ◌∙◌, ap, subst, arith, append_assoc, ℕ, zero, suc, Bool, true, false, cond, List, [], ◌∷◌, ◌++◌, length, drop, get_or, drop-cons, add-one, Option, Some, None}
use Rattle.std.specs.Prelude.{◌==◌, nat_lt, slice_get, slice_index, IfSome}
use Rattle.std.proofs.lemmas.Bool.{eqb-true}
use Rattle.yl_text.proofs.Every.{all_got}
use Rattle.std.specs.Option.{option_map_or}
use Rattle.yl_lexeme.specs.declared.lexeme.Kind.{Kind}
use Rattle.yl_lexeme.specs.declared.lexeme.Kind.TheVariants.{DocStart, DocEnd, SeqOpen, SeqClose, MapOpen, MapClose}
use Rattle.yl_marks.specs.declared.token.Token.{Token}
use Rattle.yl_marks.specs.declared.symbol.Collection.TheVariants.{Sequence, Mapping}
use Rattle.yl_marks.specs.declared.symbol.Symbol.{Symbol}
use Rattle.yl_marks.specs.declared.symbol.Symbol.TheVariants.{OpenSequence, OpenMapping, BeginKey, Close, One}
use Rattle.yl_indentation.specs.declared.element.Site.{Site}
use Rattle.yl_marks.specs.Marks.{column_at}
use Rattle.yl_indentation.specs.declared.element.Element.TheVariants.{Opening}
use Rattle.yl_indentation.specs.declared.context.OpenCollection.TheVariants.{Brackets}
use Rattle.yl_indentation.specs.declared.fact.Expectation.{Expectation}
use Rattle.yl_indentation.specs.declared.fact.Expectation.TheVariants.{At, Beyond}
use Rattle.yl_indentation.specs.declared.fact.Fact.{Fact}
use Rattle.yl_indentation.specs.Elements.{element_at, lexeme_element}
use Rattle.yl_indentation.specs.SlimElements.{slim_element}
use Rattle.yl_indentation.specs.Context.{ContextValue, after, fact_in}
use Rattle.yl_indentation.specs.SymbolFacts.{element_of_symbol, facts_if, after_if, behind_symbol, behind_symbols, facts_left}
use Rattle.yl_indentation.specs.LineFacts.{AreIndented, BeginElsewhere, IsLine, NameIndices, element_in_line, lexeme_in_line}
use Rattle.yl_indentation.proofs.BySymbols.{after_counted}

-- ---- places in a list of three parts

past_front : {X : Type 0} (xs ys : List X) (i : ℕ) → length xs ≤ i → slice_get (xs ++ ys) i ≡ slice_get ys (i - length xs)
past_front [] ys i h = ap (slice_get ys) (omega arith)
past_front (x ∷ xs) ys zero h = absurd (omega arith)
past_front (x ∷ xs) ys (suc i) h = past_front xs ys i (omega arith) ∙ ap (slice_get ys) (omega arith)

in_front : {X : Type 0} (xs ys : List X) (i : ℕ) → i < length xs → slice_get (xs ++ ys) i ≡ slice_get xs i
in_front [] ys i h = absurd (omega arith)
in_front (x ∷ xs) ys zero h = refl
in_front (x ∷ xs) ys (suc i) h = in_front xs ys i (omega arith)

-- ---- what is expected in brackets

-- where the items of brackets are expected that open in this line with so many spaces, by the lexeme after them
abbrev items_by : ℕ → ℕ → Option Token → Expectation
items_by line n next = option_map_or (λ y. cond (y.start.line == line) (At y.start.col) (Beyond n)) next (Beyond n)

elsewhere_is_beyond : (line n : ℕ) (ys : List Token) → BeginElsewhere line ys → items_by line n (slice_get ys 0) ≡ Beyond n
elsewhere_is_beyond line n [] h = refl
elsewhere_is_beyond line n (y ∷ ys) h = differs (y.start.line == line) (λ e. h (eqb-true y.start.line line e))
  where
    differs : (b : Bool) → (b ≡ true → ⊥) → cond b (At y.start.col) (Beyond n) ≡ Beyond n
    differs true g = absurd (g refl)
    differs false g = refl

-- by the next lexeme of the line, or by that of the document
same_items : (xs ys : List Token) (line n j : ℕ) → j ≤ length xs → BeginElsewhere line ys
    → items_by line n (slice_get xs j) ≡ items_by line n (slice_get (xs ++ ys) j)
same_items [] ys line n zero h g = sym (elsewhere_is_beyond line n ys g)
same_items [] ys line n (suc j) h g = absurd (omega arith)
same_items (x ∷ xs) ys line n zero h g = refl
same_items (x ∷ xs) ys line n (suc j) h g = same_items xs ys line n j (omega arith) g

-- ---- what stands around a lexeme counts only where it opens brackets

abbrev site : Token → Option Token → ℕ → Bool → Site
site x next spaces counts = record { token = x; next = next; indentation = spaces; counts = counts }

abbrev opened : Token → ℕ → Expectation → ContextValue → ContextValue
opened x spaces items c = record { open_ones = Brackets spaces items ∷ c.open_ones; latest = Some x; just_opened = false }

same_opened : (x : Token) (next other : Option Token) (n m : ℕ) (c : ContextValue) → n ≡ m → items_by x.start.line n next ≡ items_by x.start.line m other
    → opened x n (items_by x.start.line n next) c ≡ opened x m (items_by x.start.line m other) c
same_opened x next other n m c p q = ap (λ k. opened x k (items_by x.start.line n next) c) p ∙ ap (λ e. opened x m e c) q

after_at : (kind : Kind) (x : Token) (next other : Option Token) (n m : ℕ) (counts : Bool) (c : ContextValue) → n ≡ m → items_by x.start.line n next ≡ items_by x.start.line m other
    → after (slim_element (element_at kind (site x next n counts))) c ≡ after (slim_element (element_at kind (site x other m counts))) c
after_at SeqOpen x next other n m counts c p q = same_opened x next other n m c p q
after_at MapOpen x next other n m counts c p q = same_opened x next other n m c p q
after_at DocStart x next other n m counts c p q = refl
after_at DocEnd x next other n m counts c p q = refl
after_at SeqClose x next other n m counts c p q = refl
after_at MapClose x next other n m counts c p q = refl
after_at _ x next other n m counts c p q = refl

fact_at_kind : (kind : Kind) (x : Token) (next other : Option Token) (n m : ℕ) (counts : Bool) (c : ContextValue)
    → fact_in c (slim_element (element_at kind (site x next n counts))) ≡ fact_in c (slim_element (element_at kind (site x other m counts)))
fact_at_kind SeqOpen x next other n m counts c = refl
fact_at_kind MapOpen x next other n m counts c = refl
fact_at_kind DocStart x next other n m counts c = refl
fact_at_kind DocEnd x next other n m counts c = refl
fact_at_kind SeqClose x next other n m counts c = refl
fact_at_kind MapClose x next other n m counts c = refl
fact_at_kind _ x next other n m counts c = refl

-- ---- the symbols from one on

names_from : (Is : ℕ → Type 0) (ws : List Symbol) (i : ℕ) → NameIndices Is ws → NameIndices Is (drop i ws)
names_from Is ws zero h = h
names_from Is [] (suc i) h = tt
names_from Is (OpenSequence j ∷ ws) (suc i) h = names_from Is ws i h.1
names_from Is (OpenMapping j ∷ ws) (suc i) h = names_from Is ws i h.1
names_from Is (BeginKey j ∷ ws) (suc i) h = names_from Is ws i h
names_from Is (Close ∷ ws) (suc i) h = names_from Is ws i h
names_from Is (One kind j ∷ ws) (suc i) h = names_from Is ws i h.1

-- ---- a symbol of a line

module _ (tokens : List Token) (ns : List ℕ) (first counted n : ℕ) (xs : List Token) (of_line : IsLine tokens first xs) (indented : AreIndented ns n xs) where
  -- it is one of the line's
  abbrev pub IsHere : ℕ → Type 0
  IsHere i = (first ≤ i) × (i < first + length xs)

  got_from : (j : ℕ) → first ≤ j → slice_get tokens j ≡ slice_get (xs ++ of_line.rest) (j - first)
  got_from j h =
      let least : length of_line.before ≤ j = omega (arith, of_line.count) in
      ap (λ (l : List Token). slice_get l j) of_line.parts ∙ past_front of_line.before (xs ++ of_line.rest) j least
      ∙ ap (λ k. slice_get (xs ++ of_line.rest) (j - k)) of_line.count

  got : (i : ℕ) → IsHere i → slice_get tokens i ≡ slice_get xs (i - first)
  got i (h, g) = got_from i h ∙ in_front xs of_line.rest (i - first) (omega arith)

  got_next : (i : ℕ) → IsHere i → slice_get tokens (i + 1) ≡ slice_get (xs ++ of_line.rest) (i - first + 1)
  got_next i (h, g) = got_from (i + 1) (omega arith) ∙ ap (slice_get (xs ++ of_line.rest)) (omega arith)

  after_lexeme : (i : ℕ) (o : Option Token) (c : ContextValue) → IsHere i → IfSome o (λ x. x.start.line ≡ of_line.line) → IfSome o (λ x. slice_index ns x.start.line ≡ n)
      → after (slim_element (lexeme_in_line xs (i - first) (nat_lt i counted) n o)) c ≡ after (slim_element (lexeme_element tokens counted ns i o)) c
  after_lexeme i None c is at spaces = refl
  after_lexeme i (Some x) c (h, g) at spaces =
      after_at x.kind x (slice_get xs (i - first + 1)) (slice_get tokens (i + 1)) n (slice_index ns x.start.line) (nat_lt i counted) c (sym spaces)
      (subst (λ l. items_by l n (slice_get xs (i - first + 1)) ≡ items_by l n (slice_get (xs ++ of_line.rest) (i - first + 1))) (sym at)
      (same_items xs of_line.rest of_line.line n (i - first + 1) (omega arith) of_line.elsewhere)
      ∙ ap (items_by x.start.line n) (sym (got_next i (h, g))) ∙ ap (λ k. items_by x.start.line k (slice_get tokens (i + 1))) (sym spaces))

  fact_of_lexeme : (i : ℕ) (o : Option Token) (c : ContextValue)
      → fact_in c (slim_element (lexeme_in_line xs (i - first) (nat_lt i counted) n o)) ≡ fact_in c (slim_element (lexeme_element tokens counted ns i o))
  fact_of_lexeme i None c = refl
  fact_of_lexeme i (Some x) c = fact_at_kind x.kind x _ _ n (slice_index ns x.start.line) (nat_lt i counted) c

  same_column : (i : ℕ) → IsHere i → column_at xs (i - first) ≡ column_at tokens i
  same_column i is = ap (λ o. option_map_or (λ x. x.start.col) o 0) (sym (got i is))

  same_facts : (w : Symbol) (ws : List Symbol) (c : ContextValue) → NameIndices IsHere (w ∷ ws)
      → facts_if c (element_in_line xs first counted n w) ≡ facts_if c (element_of_symbol tokens counted ns w)
  same_facts (OpenSequence i) ws c is = refl
  same_facts (OpenMapping i) ws c is = refl
  same_facts (BeginKey i) ws c is = refl
  same_facts Close ws c is = refl
  same_facts (One kind i) ws c is =
      fact_of_lexeme i (slice_get xs (i - first)) c ∙ ap (λ o. fact_in c (slim_element (lexeme_element tokens counted ns i o))) (sym (got i is.0))

  same_after : (w : Symbol) (ws : List Symbol) (c : ContextValue) → NameIndices IsHere (w ∷ ws)
      → after_if (element_in_line xs first counted n w) c ≡ behind_symbol tokens ns c w
  same_after (OpenSequence i) ws c is = ap (λ k. after (Opening Sequence k) c) (same_column i is.0)
  same_after (OpenMapping i) ws c is = ap (λ k. after (Opening Mapping k) c) (same_column i is.0)
  same_after (BeginKey i) ws c is = refl
  same_after Close ws c is = refl
  same_after (One kind i) ws c is =
      after_lexeme i (slice_get xs (i - first)) c is.0 (all_got (λ (x : Token). x.start.line ≡ of_line.line) xs (i - first) of_line.here)
      (all_got (λ (x : Token). slice_index ns x.start.line ≡ n) xs (i - first) indented)
      ∙ ap (λ o. after (slim_element (lexeme_element tokens counted ns i o)) c) (sym (got i is.0))
      ∙ after_counted tokens ns counted (One kind i) c

  -- ---- symbols one after another

  next_of : (ws : List Symbol) (i : ℕ) (d : Symbol) → i < length ws → drop i ws ≡ get_or ws i d ∷ drop (i + 1) ws
  next_of ws i d h = drop-cons ws i d h ∙ ap (λ k. get_or ws i d ∷ drop k ws) (sym (add-one i))

  facts_at_next : (w : Symbol) (ws : List Symbol) (c d : ContextValue) (found new total : List Fact) → NameIndices IsHere (w ∷ ws)
      → new ≡ found ++ facts_if c (element_in_line xs first counted n w) → d ≡ after_if (element_in_line xs first counted n w) c
      → found ++ facts_left c tokens counted ns (w ∷ ws) ≡ total → new ++ facts_left d tokens counted ns ws ≡ total
  facts_at_next w ws c d found new total is new_is d_is total_is =
      ap (λ (fs : List Fact). fs ++ facts_left d tokens counted ns ws) (new_is ∙ ap (λ (fs : List Fact). found ++ fs) (same_facts w ws c is))
      ∙ append_assoc found (facts_if c (element_of_symbol tokens counted ns w)) (facts_left d tokens counted ns ws)
      ∙ ap (λ e. found ++ (facts_if c (element_of_symbol tokens counted ns w) ++ facts_left e tokens counted ns ws)) (d_is ∙ same_after w ws c is)
      ∙ total_is

  pub facts_more : (ws : List Symbol) (i : ℕ) (w : Symbol) (c d : ContextValue) (found new total : List Fact) → i < length ws → NameIndices IsHere ws
      → new ≡ found ++ facts_if c (element_in_line xs first counted n (get_or ws i w)) → d ≡ after_if (element_in_line xs first counted n (get_or ws i w)) c
      → found ++ facts_left c tokens counted ns (drop i ws) ≡ total → new ++ facts_left d tokens counted ns (drop (i + 1) ws) ≡ total
  facts_more ws i w c d found new total h is new_is d_is total_is =
      let next = next_of ws i w h in
      facts_at_next (get_or ws i w) (drop (i + 1) ws) c d found new total (subst (NameIndices IsHere) next (names_from IsHere ws i is)) new_is d_is
      (ap (λ vs. found ++ facts_left c tokens counted ns vs) (sym next) ∙ total_is)

  pub after_more : (ws : List Symbol) (i : ℕ) (w : Symbol) (c d total : ContextValue) → i < length ws → NameIndices IsHere ws
      → d ≡ after_if (element_in_line xs first counted n (get_or ws i w)) c
      → behind_symbols tokens ns c (drop i ws) ≡ total → behind_symbols tokens ns d (drop (i + 1) ws) ≡ total
  after_more ws i w c d total h is d_is total_is =
      let next = next_of ws i w h in
      ap (λ e. behind_symbols tokens ns e (drop (i + 1) ws)) (d_is ∙ same_after (get_or ws i w) (drop (i + 1) ws) c (subst (NameIndices IsHere) next (names_from IsHere ws i is)))
      ∙ ap (behind_symbols tokens ns c) (sym next) ∙ total_is
