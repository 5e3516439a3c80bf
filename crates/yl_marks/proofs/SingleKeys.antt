-- A line in which each key is one scalar or alias, directly before its Value: what a lexeme and the next one say is all that counts.
use Rattle.std.proofs.Common.{◌≡◌, ◌≢◌, ◌<◌, ◌≤◌, ◌||◌, ◌&&◌, ℕ, suc, add-one, Bool, true, false, cond, not, List, [], ◌∷◌, ◌++◌, Option, Some, None, is_some, refl, sym, ◌∙◌, ap, arith, slice_get}
use Rattle.std.proofs.Math.Bool.{or-false}
use Rattle.yl_lexeme.specs.declared.lexeme.Kind.{Kind}
use Rattle.yl_lexeme.specs.declared.lexeme.Kind.TheVariants.{Directive, DocStart, DocEnd, Entry, Key, Value, Comma, SeqOpen, SeqClose, MapOpen, MapClose, Alias, Anchor, Tag, Scalar}
use Rattle.yl_lexeme.specs.Lexeme.{is_closing, is_leaf, is_property, is_value}
use Rattle.yl_lexeme.specs.Past.{is_near}
use Rattle.yl_lexeme.specs.Kept.{KeyUnitValue, content_start, key_unit_behind, no_key_unit}
use Rattle.yl_marks.specs.declared.token.Token.{Token}
use Rattle.yl_marks.specs.declared.symbol.KeyedToken.{KeyedToken}
use Rattle.yl_marks.specs.declared.symbol.KeyStart.{KeyStart}
use Rattle.yl_marks.specs.declared.symbol.Marking.{Marking}
use Rattle.yl_marks.specs.declared.symbol.OpenBlock.{OpenBlock}
use Rattle.yl_marks.specs.declared.facts.KeyFacts.{KeyFacts}
use Rattle.yl_marks.specs.Keys.{depth_behind, key_at, keyed_token_at, place_of}
use Rattle.yl_marks.specs.Marks.{begins_key, is_at, marking, marks, marks_at, open_behind, open_behind_all}
use Rattle.yl_marks.specs.ByLine.{latest_of, line_pieces}
use Rattle.yl_marks.specs.FactsByLine.{KeyMarkerValue, ahead_of_all, fact_by, facts_ahead, has_key, next_ahead}
use Rattle.yl_marks.specs.SingleKeys.{ahead_of_each, facts_of, has_single_keys, is_key_next, latest_marked, leaf_place, marks_of, may_follow, open_behind_each, single_fact, single_markings}
use Rattle.yl_marks.proofs.InLine.{kept_pieces, kept_suffices, keyless}

-- the lexemes of such a line, where a key begins at the latest of them in this place
abbrev pub single_pieces : ℕ → ℕ → Option KeyedToken → Option KeyStart → List Token → List KeyedToken
single_pieces count depth latest place [] = []
single_pieces count depth latest place (x ∷ xs) =
    let p = keyed_token_at x depth latest place in
    p ∷ single_pieces (suc count) (depth_behind x.kind depth) (Some p) (leaf_place count p) xs

-- ---- no more is kept of such a line than the place of the latest lexeme

-- what is kept is that place, as far as the next lexeme may ask for it
record Keeps (closing : Bool) (place : Option KeyStart) (kept : KeyUnitValue KeyStart) : Type 0 where
  property : kept.property ≡ None
  unit : closing ≡ false → kept.unit ≡ place

keeps_behind : (kind : Kind) (own : Option KeyStart) (closing : Bool) (place : Option KeyStart) (kept : KeyUnitValue KeyStart) → may_follow closing kind ≡ true → Keeps closing place kept →
    Keeps (is_closing kind) (cond (is_leaf kind) own None) (key_unit_behind kind own kept)
keeps_behind Directive own closing place kept h k = record { property = refl; unit = λ e. refl }
keeps_behind DocStart own closing place kept h k = record { property = refl; unit = λ e. refl }
keeps_behind DocEnd own closing place kept h k = record { property = refl; unit = λ e. refl }
keeps_behind Entry own closing place kept h k = record { property = refl; unit = λ e. refl }
keeps_behind Key own closing place kept h k = record { property = refl; unit = λ e. refl }
keeps_behind Value own closing place kept h k = record { property = refl; unit = λ e. refl }
keeps_behind Comma own closing place kept h k = record { property = refl; unit = λ e. refl }
keeps_behind SeqOpen own closing place kept h k = record { property = refl; unit = λ e. refl }
keeps_behind SeqClose own closing place kept h k = record { property = refl; unit = λ e. cc }
keeps_behind MapOpen own closing place kept h k = record { property = refl; unit = λ e. refl }
keeps_behind MapClose own closing place kept h k = record { property = refl; unit = λ e. cc }
keeps_behind Alias own closing place kept h k = record { property = refl; unit = λ e. ap (λ p. content_start own kept.unit p) k.property }
keeps_behind Anchor own closing place kept h k = cc
keeps_behind Tag own closing place kept h k = cc
keeps_behind (Scalar s) own closing place kept h k = record { property = refl; unit = λ e. ap (λ p. content_start own kept.unit p) k.property }

both_true : (a b : Bool) → (a && b) ≡ true → (a ≡ true) × (b ≡ true)
both_true true b h = (refl, h)
both_true false b h = cc

no_value : (a b : Bool) → (a && not b) ≡ true → b ≡ false
no_value true false e = refl
no_value true true e = cc
no_value false b e = cc

-- only a Value asks, and none directly behind a closing bracket
asks_alike : (x : Token) (depth : ℕ) (latest : Option KeyedToken) (closing : Bool) (place : Option KeyStart) (kept : KeyUnitValue KeyStart) → may_follow closing x.kind ≡ true →
    Keeps closing place kept → keyed_token_at x depth latest kept.unit ≡ keyed_token_at x depth latest place
asks_alike x depth latest false place kept h k = ap (keyed_token_at x depth latest) (k.unit refl)
asks_alike x depth latest true place kept h k =
    let none : is_value x.kind ≡ false = no_value (not (is_property x.kind)) (is_value x.kind) h in
    keyless x depth latest kept.unit none ∙ sym (keyless x depth latest place none)

single_suffices : (count depth : ℕ) (latest : Option KeyedToken) (closing : Bool) (place : Option KeyStart) (kept : KeyUnitValue KeyStart) (xs : List Token) → has_single_keys closing xs ≡ true →
    Keeps closing place kept → kept_pieces count depth latest kept xs ≡ single_pieces count depth latest place xs
single_suffices count depth latest closing place kept [] h k = refl
single_suffices count depth latest closing place kept (x ∷ xs) h k =
    let both = both_true (may_follow closing x.kind) (has_single_keys (is_closing x.kind) xs) h in
    let p = keyed_token_at x depth latest place in
    ap (λ p. p ∷ kept_pieces (suc count) (depth_behind x.kind depth) (Some p) (key_unit_behind x.kind (place_of count p) kept) xs) (asks_alike x depth latest closing place kept both.0 k)
    ∙ ap (λ ps. p ∷ ps) (single_suffices (suc count) (depth_behind x.kind depth) (Some p) (is_closing x.kind) (leaf_place count p) (key_unit_behind x.kind (place_of count p) kept) xs both.1
    (keeps_behind x.kind (place_of count p) closing place kept both.0 k))

-- ---- each key begins directly before its Value

abbrev Adjacent : ℕ → List KeyedToken → Type 0
Adjacent i [] = Unit {0}
Adjacent i (p ∷ ps) = ((k : ℕ) → is_at k p.key ≡ true → suc k ≡ i) × Adjacent (suc i) ps

-- a place directly before this index
abbrev Before : ℕ → Option KeyStart → Type 0
Before i place = (s : KeyStart) → place ≡ Some s → suc s.index ≡ i

key_before : (b : Bool) (column : ℕ) (place : Option KeyStart) (i k : ℕ) → Before i place → is_at k (cond b (key_at column place) None) ≡ true → suc k ≡ i
key_before false column place i k h e = cc
key_before true column None i k h e = cc
key_before true column (Some s) i k h e = near (is_near column s.column) e
  where
    near : (n : Bool) → is_at k (cond n (Some s.index) None) ≡ true → suc k ≡ i
    near false e = cc
    near true e = let there : suc s.index ≡ i = h s refl in grind (arith, there, e)

abbrev index_or_0 : Option KeyStart → ℕ
index_or_0 None = 0
index_or_0 (Some s) = s.index

before_next : (is_leaf may_begin : Bool) (i column : ℕ) → Before (suc i) (cond is_leaf (cond may_begin (Some (record { index = i; column = column })) None) None)
before_next true true i column s e = ap (λ o. suc (index_or_0 o)) (sym e)
before_next true false i column s e = cc
before_next false m i column s e = cc

single_adjacent : (count depth : ℕ) (latest : Option KeyedToken) (place : Option KeyStart) (xs : List Token) → Before count place → Adjacent count (single_pieces count depth latest place xs)
single_adjacent count depth latest place [] h = tt
single_adjacent count depth latest place (x ∷ xs) h =
    let p = keyed_token_at x depth latest place in (
      λ k e. key_before (is_value x.kind) x.start.col place count k h e,
      single_adjacent (suc count) (depth_behind x.kind depth) (Some p) (leaf_place count p) xs (before_next (is_leaf x.kind) p.may_begin count x.start.col),
    )

not_at : (k i : ℕ) (b : Bool) → (b ≡ true → suc k ≡ i) → suc k ≢ i → b ≡ false
not_at k i false h n = refl
not_at k i true h n = absurd (n (h refl))

none_before : (k i : ℕ) (ps : List KeyedToken) → Adjacent i ps → suc k < i → begins_key k ps ≡ false
none_before k i [] a h = refl
none_before k i (p ∷ ps) a h = ap (λ b. b || begins_key k ps) (not_at k i (is_at k p.key) (a.0 k) (omega arith)) ∙ none_before k (suc i) ps a.1 (omega arith)

own_key : (k : ℕ) (key : Option ℕ) → ((j : ℕ) → is_at j key ≡ true → suc j ≡ suc k) → is_at k key ≡ is_some key
own_key k None h = refl
own_key k (Some j) h = let same : suc j ≡ suc k = h j (grind arith) in grind (arith, same)

here : (k : ℕ) (ps : List KeyedToken) → Adjacent (suc k) ps → begins_key k ps ≡ has_key (slice_get ps 0)
here k [] a = refl
here k (p ∷ ps) a = ap (λ b. is_at k p.key || b) (none_before k (suc (suc k)) ps a.1 (omega arith)) ∙ or-false (is_at k p.key) ∙ own_key k p.key a.0

-- whether keys begin from this index on shows in these of all
abbrev Covers : ℕ → List KeyedToken → List KeyedToken → Type 0
Covers i all ps = (k : ℕ) → i ≤ k → begins_key k all ≡ begins_key k ps

begins_next : (all : List KeyedToken) (i : ℕ) (p : KeyedToken) (ps : List KeyedToken) → Adjacent i (p ∷ ps) → Covers i all (p ∷ ps) → begins_key i all ≡ has_key (slice_get ps 0)
begins_next all i p ps a c = c i (omega arith) ∙ ap (λ b. b || begins_key i ps) (not_at i i (is_at i p.key) (a.0 i) (omega arith)) ∙ here i ps a.1

covers_next : (all : List KeyedToken) (i : ℕ) (p : KeyedToken) (ps : List KeyedToken) → Adjacent i (p ∷ ps) → Covers i all (p ∷ ps) → Covers (suc i) all ps
covers_next all i p ps a c k h = c k (omega arith) ∙ ap (λ b. b || begins_key k ps) (not_at k i (is_at k p.key) (a.0 k) (omega arith))

-- ---- the marks and the facts of such lexemes

abbrev next_marking : KeyedToken → List KeyedToken → Marking
next_marking p ps = record { piece = p; begins_key = has_key (slice_get ps 0) }

abbrev next_markings : List KeyedToken → List Marking
next_markings [] = []
next_markings (p ∷ ps) = next_marking p ps ∷ next_markings ps

same_marking : (all : List KeyedToken) (i : ℕ) (p : KeyedToken) (ps : List KeyedToken) → Adjacent i (p ∷ ps) → Covers i all (p ∷ ps) → marking all i p ≡ next_marking p ps
same_marking all i p ps a c = ap (λ b. record { piece = p; begins_key = b }) (begins_next all i p ps a c)

next_marks : (all : List KeyedToken) (cs : List OpenBlock) (i : ℕ) (ps : List KeyedToken) → Adjacent i ps → Covers i all ps → marks all cs i ps ≡ marks_of cs i (next_markings ps)
next_marks all cs i [] a c = refl
next_marks all cs i (p ∷ ps) a c =
    let m = next_marking p ps in
    ap (λ m. marks_at m i cs ++ marks all (open_behind m cs) (suc i) ps) (same_marking all i p ps a c)
    ∙ ap (λ ws. marks_at m i cs ++ ws) (next_marks all (open_behind m cs) (suc i) ps a.1 (covers_next all i p ps a c) ∙ ap (λ n. marks_of (open_behind m cs) n (next_markings ps)) (sym (add-one i)))

next_open : (all : List KeyedToken) (cs : List OpenBlock) (i : ℕ) (ps : List KeyedToken) → Adjacent i ps → Covers i all ps → open_behind_all all cs i ps ≡ open_behind_each cs (next_markings ps)
next_open all cs i [] a c = refl
next_open all cs i (p ∷ ps) a c =
    ap (λ m. open_behind_all all (open_behind m cs) (suc i) ps) (same_marking all i p ps a c)
    ∙ next_open all (open_behind (next_marking p ps) cs) (suc i) ps a.1 (covers_next all i p ps a c)

next_facts : (all : List KeyedToken) (ahead : KeyFacts) (i : ℕ) (ps : List KeyedToken) → Adjacent i ps → Covers i all ps → facts_ahead ahead all i ps ≡ facts_of ahead (next_markings ps)
next_facts all ahead i [] a c = refl
next_facts all ahead i (p ∷ ps) a c =
    let m = next_marking p ps in
    ap (λ m. fact_by ahead m (slice_get ps 0) ∷ facts_ahead (next_ahead ahead m) all (suc i) ps) (same_marking all i p ps a c)
    ∙ ap (λ fs. single_fact ahead m ∷ fs) (next_facts all (next_ahead ahead m) (suc i) ps a.1 (covers_next all i p ps a c))

next_said : (all : List KeyedToken) (ahead : KeyFacts) (i : ℕ) (ps : List KeyedToken) → Adjacent i ps → Covers i all ps → ahead_of_all ahead all i ps ≡ ahead_of_each ahead (next_markings ps)
next_said all ahead i [] a c = refl
next_said all ahead i (p ∷ ps) a c =
    ap (λ m. ahead_of_all (next_ahead ahead m) all (suc i) ps) (same_marking all i p ps a c)
    ∙ next_said all (next_ahead ahead (next_marking p ps)) (suc i) ps a.1 (covers_next all i p ps a c)

next_latest : (latest : Option KeyedToken) (ps : List KeyedToken) → latest_of latest ps ≡ latest_marked latest (next_markings ps)
next_latest latest [] = refl
next_latest latest (p ∷ ps) = next_latest (Some p) ps

some_if : {A : Type 0} (b : Bool) (o : Option A) → is_some (cond b o None) ≡ (b && is_some o)
some_if true o = refl
some_if false o = refl

is_next : (count depth : ℕ) (latest : Option KeyedToken) (place : Option KeyStart) (xs : List Token) → has_key (slice_get (single_pieces count depth latest place xs) 0) ≡ is_key_next place xs
is_next count depth latest place [] = refl
is_next count depth latest place (x ∷ xs) = some_if (is_value x.kind) (key_at x.start.col place)

markings_are : (count depth : ℕ) (latest : Option KeyedToken) (place : Option KeyStart) (xs : List Token) →
    next_markings (single_pieces count depth latest place xs) ≡ single_markings count depth latest place xs
markings_are count depth latest place [] = refl
markings_are count depth latest place (x ∷ xs) =
    let p = keyed_token_at x depth latest place in
    let own = leaf_place count p in
    let deep = depth_behind x.kind depth in
    ap (λ b. record { piece = p; begins_key = b } ∷ next_markings (single_pieces (suc count) deep (Some p) own xs)) (is_next (suc count) deep (Some p) own xs)
    ∙ ap (λ ms. record { piece = p; begins_key = is_key_next own xs } ∷ ms)
    (markings_are (suc count) deep (Some p) own xs ∙ ap (λ n. single_markings n deep (Some p) own xs) (sym (add-one count)))

-- ---- a whole line

module _ (count depth : ℕ) (latest : Option KeyedToken) (xs : List Token) (single : has_single_keys false xs ≡ true) where
  abbrev all : List KeyedToken
  all = line_pieces count depth latest [] xs

  abbrev ps : List KeyedToken
  ps = single_pieces count depth latest None xs

  abbrev ms : List Marking
  ms = single_markings count depth latest None xs

  pieces_are : all ≡ ps
  pieces_are = sym (kept_suffices count depth latest [] xs) ∙ single_suffices count depth latest false None no_key_unit xs single (record { property = refl; unit = λ e. refl })

  adjacent : Adjacent count ps
  adjacent = single_adjacent count depth latest None xs (λ s e. cc)

  pub single_marks : (cs : List OpenBlock) → marks all cs count all ≡ marks_of cs count ms
  single_marks cs = ap (λ l. marks l cs count l) pieces_are ∙ next_marks ps cs count ps adjacent (λ k h. refl) ∙ ap (marks_of cs count) (markings_are count depth latest None xs)

  pub single_open : (cs : List OpenBlock) → open_behind_all all cs count all ≡ open_behind_each cs ms
  single_open cs = ap (λ l. open_behind_all l cs count l) pieces_are ∙ next_open ps cs count ps adjacent (λ k h. refl) ∙ ap (open_behind_each cs) (markings_are count depth latest None xs)

  pub single_facts : (ahead : KeyFacts) → facts_ahead ahead all count all ≡ facts_of ahead ms
  single_facts ahead = ap (λ l. facts_ahead ahead l count l) pieces_are ∙ next_facts ps ahead count ps adjacent (λ k h. refl) ∙ ap (facts_of ahead) (markings_are count depth latest None xs)

  pub single_said : (ahead : KeyFacts) → ahead_of_all ahead all count all ≡ ahead_of_each ahead ms
  single_said ahead = ap (λ l. ahead_of_all ahead l count l) pieces_are ∙ next_said ps ahead count ps adjacent (λ k h. refl) ∙ ap (ahead_of_each ahead) (markings_are count depth latest None xs)

  pub single_latest : latest_of latest all ≡ latest_marked latest ms
  single_latest = ap (latest_of latest) pieces_are ∙ next_latest latest ps ∙ ap (latest_marked latest) (markings_are count depth latest None xs)

abbrev same_value : ℕ → ℕ → Option KeyedToken → List OpenBlock → KeyFacts → KeyMarkerValue
same_value n d l cs a = record { marks = record { count = n; depth = d; latest = l; open_ones = cs }; ahead = a }

pub same_behind : {n n' d d' : ℕ} {l l' : Option KeyedToken} {cs cs' : List OpenBlock} {a a' : KeyFacts} → n ≡ n' → d ≡ d' → l ≡ l' → cs ≡ cs' → a ≡ a' →
    same_value n d l cs a ≡ same_value n' d' l' cs' a'
same_behind {n} {n'} {d} {d'} {l} {l'} {cs} {cs'} {a} {a'} en ed el ec ea =
    ap (λ x. same_value x d l cs a) en ∙ ap (λ x. same_value n' x l cs a) ed ∙ ap (λ x. same_value n' d' x cs a) el ∙ ap (λ x. same_value n' d' l' x a) ec ∙ ap (same_value n' d' l' cs') ea
