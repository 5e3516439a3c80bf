-- The facts of rows, where other rows come after them, and those of the rows after them.
use Rattle.std.proofs.Common.{◌≡◌, ◌<◌, ◌+◌, ◌-◌, refl, sym, ◌∙◌, ap, subst, arith, add-one, ℕ, zero, suc, Bool, true, false, cond, List, [], ◌∷◌, ◌++◌, length, map, Option, Some, None}
use Rattle.std.specs.Prelude.{◌==◌, nat_lt, option_map, replicate, slice_get, slice_index, IfSome}
use Rattle.std.specs.List.{AllByRecursion}
use Rattle.std.specs.Option.{option_map_or}
use Rattle.std.proofs.lemmas.Bool.{eqb-true}
use Rattle.std.proofs.lemmas.List.{get_or_append_left, length-replicate}
use Rattle.yl_text.proofs.Every.{all_got}
use Rattle.yl_lexeme.specs.declared.lexeme.Kind.{Kind}
use Rattle.yl_lexeme.specs.declared.lexeme.Kind.TheVariants.{DocStart, DocEnd, SeqOpen, SeqClose, MapOpen, MapClose}
use Rattle.yl_marks.specs.declared.token.Token.{Token}
use Rattle.yl_marks.specs.declared.symbol.Collection.TheVariants.{Sequence, Mapping}
use Rattle.yl_marks.specs.declared.symbol.Symbol.{Symbol}
use Rattle.yl_marks.specs.declared.symbol.Symbol.TheVariants.{OpenSequence, OpenMapping, BeginKey, Close, One}
use Rattle.yl_marks.specs.Marks.{column_at}
use Rattle.yl_marks.specs.ByLine.{HaveIndices}
use Rattle.yl_marks.specs.MarksAlike.{symbol_after, token_below}
use Rattle.yl_indentation.specs.declared.context.OpenCollection.TheVariants.{Brackets}
use Rattle.yl_indentation.specs.declared.element.Site.{Site}
use Rattle.yl_indentation.specs.declared.element.Element.TheVariants.{Opening}
use Rattle.yl_indentation.specs.declared.fact.Expectation.{Expectation}
use Rattle.yl_indentation.specs.declared.fact.Expectation.TheVariants.{At, Beyond}
use Rattle.yl_indentation.specs.declared.fact.Fact.{Fact}
use Rattle.yl_indentation.specs.Elements.{element_at, lexeme_element}
use Rattle.yl_indentation.specs.SlimElements.{slim_element}
use Rattle.yl_indentation.specs.Context.{ContextValue, after, fact_in}
use Rattle.yl_indentation.specs.LineFacts.{BeginElsewhere, NameIndices}
use Rattle.yl_indentation.specs.SymbolFacts.{behind_symbol, behind_symbols, element_of_symbol, facts_if, facts_left}
use Rattle.yl_indentation.specs.FactsAlike.{AreToldAlike, ContextState, IsAbove, context_state, fact_below, facts_of_rows}
use Rattle.yl_indentation.proofs.BySymbols.{as_counted, go_on}
use Rattle.yl_indentation.proofs.FactsAlike.{facts_are_alike}
use Rattle.yl_indentation.proofs.RowFacts.{after_first, behind_both, facts_of_first}
use Rattle.yl_sections.proofs.Lines.{get_before}
use Rattle.yl_pieces.specs.State.{context_from, token_above}
use Rattle.yl_pieces.proofs.JoinedLines.{Apart}

-- ---- the lexeme after another

-- where the items of brackets are expected that open in this line with so many spaces, by the
-- lexeme after them
abbrev items_by : ℕ → ℕ → Option Token → Expectation
items_by line spaces next = option_map_or (λ y. cond (y.start.line == line) (At y.start.col) (Beyond spaces)) next (Beyond spaces)

elsewhere_is_beyond : (line spaces : ℕ) (ys : List Token) → BeginElsewhere line ys → items_by line spaces (slice_get ys 0) ≡ Beyond spaces
elsewhere_is_beyond line spaces [] h = refl
elsewhere_is_beyond line spaces (y ∷ ys) h = differs (y.start.line == line) (λ e. h (eqb-true y.start.line line e))
  where
    differs : (b : Bool) → (b ≡ true → ⊥) → cond b (At y.start.col) (Beyond spaces) ≡ Beyond spaces
    differs true g = absurd (g refl)
    differs false g = refl

same_items : (xs ys : List Token) (i : ℕ) (x : Token) (spaces : ℕ) → slice_get xs i ≡ Some x → Apart xs ys
    → items_by x.start.line spaces (slice_get (xs ++ ys) (suc i)) ≡ items_by x.start.line spaces (slice_get xs (suc i))
same_items [] ys i x spaces e h = cc
same_items (t ∷ []) ys zero x spaces e h =
    let same : t ≡ x = cc in
    elsewhere_is_beyond x.start.line spaces ys (subst (λ (u : Token). BeginElsewhere u.start.line ys) same h.0)
same_items (t ∷ u ∷ xs) ys zero x spaces e h = refl
same_items (t ∷ xs) ys (suc i) x spaces e h = same_items xs ys i x spaces e h.1

-- ---- what stands around a lexeme counts only where it opens brackets

abbrev site : Token → Option Token → ℕ → Bool → Site
site x next spaces counts = record { token = x; next = next; indentation = spaces; counts = counts }

abbrev opened : Token → ℕ → Expectation → ContextValue → ContextValue
opened x spaces items c = record { open_ones = Brackets spaces items ∷ c.open_ones; latest = Some x; just_opened = false }

same_opened : (x : Token) (next other : Option Token) (n m : ℕ) (c : ContextValue) → n ≡ m → items_by x.start.line n next ≡ items_by x.start.line m other
    → opened x n (items_by x.start.line n next) c ≡ opened x m (items_by x.start.line m other) c
same_opened x next other n m c p q = ap (λ (k : ℕ). opened x k (items_by x.start.line n next) c) p ∙ ap (λ (e : Expectation). opened x m e c) q

after_at : (kind : Kind) (x : Token) (next other : Option Token) (n m : ℕ) (counts : Bool) (c : ContextValue) → n ≡ m → items_by x.start.line n next ≡ items_by x.start.line m other
    → after (slim_element (element_at kind (site x next n counts))) c ≡ after (slim_element (element_at kind (site x other m counts))) c
after_at SeqOpen x next other n m counts c p q = same_opened x next other n m c p q
after_at MapOpen x next other n m counts c p q = same_opened x next other n m c p q
after_at DocStart x next other n m counts c p q = refl
after_at DocEnd x next other n m counts c p q = refl
after_at SeqClose x next other n m counts c p q = refl
after_at MapClose x next other n m counts c p q = refl
after_at _ x next other n m counts c p q = refl

fact_at_kind : (kind : Kind) (x : Token) (next other : Option Token) (n m : ℕ) (counts : Bool) (c : ContextValue)
    → fact_in c (slim_element (element_at kind (site x next n counts))) ≡ fact_in c (slim_element (element_at kind (site x other m counts)))
fact_at_kind SeqOpen x next other n m counts c = refl
fact_at_kind MapOpen x next other n m counts c = refl
fact_at_kind DocStart x next other n m counts c = refl
fact_at_kind DocEnd x next other n m counts c = refl
fact_at_kind SeqClose x next other n m counts c = refl
fact_at_kind MapClose x next other n m counts c = refl
fact_at_kind _ x next other n m counts c = refl

-- ---- lexemes and lines, with others after them

module _ (xs ys : List Token) (ns ms : List ℕ) (apart : Apart xs ys) (within : AllByRecursion (λ (x : Token). x.start.line < length ns) xs) where
  abbrev IsHere : ℕ → Type 0
  IsHere i = i < length xs

  got : (i : ℕ) → IsHere i → slice_get (xs ++ ys) i ≡ slice_get xs i
  got i h = get_before xs ys i h

  after_lexeme : (n i : ℕ) (o : Option Token) (c : ContextValue) → slice_get xs i ≡ o
      → after (slim_element (lexeme_element (xs ++ ys) n (ns ++ ms) i o)) c ≡ after (slim_element (lexeme_element xs n ns i o)) c
  after_lexeme n i None c e = refl
  after_lexeme n i (Some x) c e =
      let there : x.start.line < length ns = subst (λ (o : Option Token). IfSome o (λ (y : Token). y.start.line < length ns)) e (all_got (λ (y : Token). y.start.line < length ns) xs i within) in
      let spaces : slice_index (ns ++ ms) x.start.line ≡ slice_index ns x.start.line = get_or_append_left ns ms 0 x.start.line there in
      let next : slice_get (xs ++ ys) (i + 1) ≡ slice_get (xs ++ ys) (suc i) = ap (slice_get (xs ++ ys)) (add-one i) in
      let other : slice_get xs (suc i) ≡ slice_get xs (i + 1) = ap (slice_get xs) (sym (add-one i)) in
      let line = x.start.line in
      after_at x.kind x (slice_get (xs ++ ys) (i + 1)) (slice_get xs (i + 1)) (slice_index (ns ++ ms) line) (slice_index ns line) (nat_lt i n) c spaces
      (ap (λ (k : ℕ). items_by line k (slice_get (xs ++ ys) (i + 1))) spaces
      ∙ ap (items_by line (slice_index ns line)) next
      ∙ same_items xs ys i x (slice_index ns line) e apart
      ∙ ap (items_by line (slice_index ns line)) other)

  fact_of_lexeme : (n i : ℕ) (o : Option Token) (c : ContextValue) → fact_in c (slim_element (lexeme_element (xs ++ ys) n (ns ++ ms) i o)) ≡ fact_in c (slim_element (lexeme_element xs n ns i o))
  fact_of_lexeme n i None c = refl
  fact_of_lexeme n i (Some x) c =
      fact_at_kind x.kind x (slice_get (xs ++ ys) (i + 1)) (slice_get xs (i + 1)) (slice_index (ns ++ ms) x.start.line) (slice_index ns x.start.line) (nat_lt i n) c

  same_column : (i : ℕ) → IsHere i → column_at (xs ++ ys) i ≡ column_at xs i
  same_column i h = ap (λ (o : Option Token). option_map_or (λ x. x.start.col) o 0) (got i h)

  facts_here : (n : ℕ) (w : Symbol) (ws : List Symbol) (c : ContextValue) → NameIndices IsHere (w ∷ ws)
      → facts_if c (element_of_symbol (xs ++ ys) n (ns ++ ms) w) ≡ facts_if c (element_of_symbol xs n ns w)
  facts_here n (OpenSequence i) ws c h = refl
  facts_here n (OpenMapping i) ws c h = refl
  facts_here n (BeginKey i) ws c h = refl
  facts_here n Close ws c h = refl
  facts_here n (One kind i) ws c h =
      ap (λ (o : Option Token). fact_in c (slim_element (lexeme_element (xs ++ ys) n (ns ++ ms) i o))) (got i h.0) ∙ fact_of_lexeme n i (slice_get xs i) c

  after_here : (w : Symbol) (ws : List Symbol) (c : ContextValue) → NameIndices IsHere (w ∷ ws) → behind_symbol (xs ++ ys) (ns ++ ms) c w ≡ behind_symbol xs ns c w
  after_here (OpenSequence i) ws c h = ap (λ (k : ℕ). after (Opening Sequence k) c) (same_column i h.0)
  after_here (OpenMapping i) ws c h = ap (λ (k : ℕ). after (Opening Mapping k) c) (same_column i h.0)
  after_here (BeginKey i) ws c h = refl
  after_here Close ws c h = refl
  after_here (One kind i) ws c h =
      ap (λ (o : Option Token). after (slim_element (lexeme_element (xs ++ ys) 0 (ns ++ ms) i o)) c) (got i h.0) ∙ after_lexeme 0 i (slice_get xs i) c refl

  more_names : (w : Symbol) (ws : List Symbol) → NameIndices IsHere (w ∷ ws) → NameIndices IsHere ws
  more_names (OpenSequence i) ws h = h.1
  more_names (OpenMapping i) ws h = h.1
  more_names (BeginKey i) ws h = h
  more_names Close ws h = h
  more_names (One kind i) ws h = h.1

  -- the facts of their symbols stay
  pub facts_stay : (n : ℕ) (ws : List Symbol) (c : ContextValue) → NameIndices IsHere ws → facts_left c (xs ++ ys) n (ns ++ ms) ws ≡ facts_left c xs n ns ws
  facts_stay n [] c h = refl
  facts_stay n (w ∷ ws) c h =
      ap (λ (fs : List Fact). fs ++ facts_left (behind_symbol (xs ++ ys) (ns ++ ms) c w) (xs ++ ys) n (ns ++ ms) ws) (facts_here n w ws c h)
      ∙ ap (λ (d : ContextValue). facts_if c (element_of_symbol xs n ns w) ++ facts_left d (xs ++ ys) n (ns ++ ms) ws) (after_here w ws c h)
      ∙ ap (λ (fs : List Fact). facts_if c (element_of_symbol xs n ns w) ++ fs) (facts_stay n ws (behind_symbol xs ns c w) (more_names w ws h))

  -- and what is held after them
  pub context_stays : (ws : List Symbol) (c : ContextValue) → NameIndices IsHere ws → behind_symbols (xs ++ ys) (ns ++ ms) c ws ≡ behind_symbols xs ns c ws
  context_stays [] c h = refl
  context_stays (w ∷ ws) c h =
      ap (λ (d : ContextValue). behind_symbols (xs ++ ys) (ns ++ ms) d ws) (after_here w ws c h) ∙ context_stays ws (behind_symbol xs ns c w) (more_names w ws h)

-- ---- a context with a state has that state, and its latest lexeme stands above

same_kind : (latest : Option Kind) → option_map (λ (x : Token). x.kind) (option_map token_above latest) ≡ latest
same_kind None = refl
same_kind (Some kind) = refl

same_context : (s : ContextState) → context_state (context_from s) ≡ s
same_context s = ap (λ (latest : Option Kind). record s { latest = latest }) (same_kind s.latest)

pub context_above : (high : ℕ) (s : ContextState) → 0 < high → IsAbove high (context_from s)
context_above high s h = kinds_above s.latest
  where
    kinds_above : (latest : Option Kind) → IfSome (option_map token_above latest) (λ (x : Token). x.end_line < high)
    kinds_above None = tt
    kinds_above (Some kind) = h

-- ---- as far below in both

abbrev higher : ℕ → Fact → Fact
higher n f = record { line = f.line - n; column = f.column; expectation = f.expectation }

back : (n : ℕ) (fs : List Fact) → map (higher n) (map (fact_below n) fs) ≡ fs
back n [] = refl
back n (f ∷ fs) =
    let there : n + f.line - n ≡ f.line = omega arith in
    ap (λ (k : ℕ). record { line = k; column = f.column; expectation = f.expectation } ∷ map (higher n) (map (fact_below n) fs)) there ∙ ap (λ (gs : List Fact). f ∷ gs) (back n fs)

same_facts : (n m : ℕ) (fs gs : List Fact) → n ≡ m → map (fact_below n) fs ≡ map (fact_below m) gs → fs ≡ gs
same_facts n m fs gs e h = sym (back n fs) ∙ ap (map (higher n)) h ∙ ap (λ (k : ℕ). map (higher n) (map (fact_below k) gs)) (sym e) ∙ back n gs

-- ---- rows and the rows after them

-- the first rows' tokens and spaces are `earlier` and `above`, those after them count from the top
module _ (earlier : List Token) (above : List ℕ) (tokens : List Token) (lines : List ℕ) (ws later : List Symbol) (c : ContextValue) (line : ℕ)
    (at : length above ≡ line) (apart : Apart earlier (map (token_below line) tokens)) (within : AllByRecursion (λ (x : Token). x.start.line < line) earlier)
    (named : NameIndices (λ i. i < length earlier) ws) where
  abbrev all : List Token
  all = earlier ++ map (token_below line) tokens

  abbrev next : ContextValue
  next = behind_symbols earlier above c ws

  abbrev moved : List Symbol
  moved = map (symbol_after (length earlier)) later

  abbrev held : ContextValue
  held = context_from (context_state next)

  inside : AllByRecursion (λ (x : Token). x.start.line < length above) earlier
  inside = subst (λ (k : ℕ). AllByRecursion (λ (x : Token). x.start.line < k) earlier) (sym at) within

  next_is : behind_symbols all (above ++ lines) c ws ≡ next
  next_is = context_stays earlier (map (token_below line) tokens) above lines apart inside ws c named

  -- the facts of both, where the first rows' lexemes count in any case
  facts_parted : (k : ℕ) → HaveIndices (λ i. nat_lt i (length earlier + k) ≡ nat_lt i (length earlier)) ws
      → facts_left c all (length earlier + k) (above ++ lines) (ws ++ moved)
      ≡ facts_left c earlier (length earlier) above ws ++ facts_left next all (length earlier + k) (above ++ lines) moved
  facts_parted k counts =
      let n = length earlier + k in
      let rest = facts_left next all n (above ++ lines) moved in
      go_on all (above ++ lines) c n ws moved
      ∙ ap (λ (d : ContextValue). facts_left c all n (above ++ lines) ws ++ facts_left d all n (above ++ lines) moved) next_is
      ∙ ap (λ (fs : List Fact). fs ++ rest) (facts_stay earlier (map (token_below line) tokens) above lines apart inside n ws c named ∙ as_counted earlier above c n (length earlier) ws counts)

  module _ (up : IsAbove line next) (some : 0 < line) where
    abbrev zeros : List ℕ
    zeros = replicate line 0

    many : length zeros ≡ line
    many = length-replicate line 0

    alike : (k : ℕ) → AreToldAlike next held earlier [] tokens above zeros lines k later
    alike k =
        facts_are_alike next held earlier [] tokens above zeros lines k later (sym (same_context (context_state next))) (subst (λ (n : ℕ). IsAbove n next) (sym at) up)
        (subst (λ (n : ℕ). IsAbove n held) (sym many) (context_above line (context_state next) some))

    rest_is : (k : ℕ) → facts_left next all (length earlier + k) (above ++ lines) moved ≡ facts_left held (map (token_below line) tokens) k (zeros ++ lines) later
    rest_is k =
        ap (λ (n : ℕ). facts_left next (earlier ++ map (token_below n) tokens) (length earlier + k) (above ++ lines) moved) (sym at)
        ∙ same_facts (length zeros) (length above) (facts_of_rows next earlier above tokens k lines later) (facts_of_rows held [] zeros tokens k lines later) (many ∙ sym at) ((alike k).facts)
        ∙ facts_of_first zeros tokens lines held k later
        ∙ ap (λ (n : ℕ). facts_left held (map (token_below n) tokens) k (zeros ++ lines) later) many

    pub facts_joined : (k : ℕ) → HaveIndices (λ i. nat_lt i (length earlier + k) ≡ nat_lt i (length earlier)) ws
        → facts_left c all (length earlier + k) (above ++ lines) (ws ++ moved)
        ≡ facts_left c earlier (length earlier) above ws ++ facts_left held (map (token_below line) tokens) k (zeros ++ lines) later
    facts_joined k counts = facts_parted k counts ∙ ap (λ (fs : List Fact). facts_left c earlier (length earlier) above ws ++ fs) (rest_is k)

    pub context_joined : context_state (behind_symbols all (above ++ lines) c (ws ++ moved)) ≡ context_state (behind_symbols (map (token_below line) tokens) (zeros ++ lines) held later)
    context_joined =
        ap (λ (d : ContextValue). context_state d) (behind_both all (above ++ lines) c ws moved ∙ ap (λ (d : ContextValue). behind_symbols all (above ++ lines) d moved) next_is)
        ∙ ap (λ (n : ℕ). context_state (behind_symbols (earlier ++ map (token_below n) tokens) (above ++ lines) next moved)) (sym at)
        ∙ (alike 0).after
        ∙ ap (λ (d : ContextValue). context_state d) (after_first zeros tokens lines held later)
        ∙ ap (λ (n : ℕ). context_state (behind_symbols (map (token_below n) tokens) (zeros ++ lines) held later)) many
