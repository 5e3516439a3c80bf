-- The facts of lexemes, by what is kept of those before them.
use Rattle.std.proofs.Common.{◌≡◌, ◌+◌, ◌<◌, ◌≤◌, ◌&&◌, ◌||◌, ℕ, suc, Bool, not, arith, List, [], ◌∷◌, ◌++◌, Option, length, map, drop, drop-cons, get_or, refl, sym, ◌∙◌, ap, add-one, append_assoc, append-nil, slice_get}
use Rattle.std.proofs.lemmas.List.{drop_all, length-map}
use Rattle.yl_lexeme.specs.Lexeme.{LexemeValue}
use Rattle.yl_marks.specs.declared.token.Token.{Token}
use Rattle.yl_marks.specs.declared.symbol.KeyedToken.{KeyedToken}
use Rattle.yl_marks.specs.declared.symbol.Marking.{Marking}
use Rattle.yl_marks.specs.declared.facts.KeyFacts.{KeyFacts}
use Rattle.yl_marks.specs.Keys.{keyed_token, keyed_tokens, token_of}
use Rattle.yl_marks.specs.Marks.{begins_key, marking}
use Rattle.yl_marks.specs.Facts.{facts_from, facts_at, is_value_next, end_in_tag, end_in_key, key_facts}
use Rattle.yl_marks.specs.FactsByLine.{ahead_of_all, fact_by, facts_ahead, has_key, next_ahead}

-- ---- what is kept suffices

value_next : (ps : List KeyedToken) → has_key (slice_get ps 0) ≡ is_value_next ps
value_next [] = refl
value_next (p ∷ ps) = refl

abbrev said_ahead : List Marking → KeyFacts
said_ahead before = record { is_key = end_in_key before; has_tag = end_in_tag before }

pub facts_kept : (all : List KeyedToken) (before : List Marking) (i : ℕ) (ps : List KeyedToken) → facts_ahead (said_ahead before) all i ps ≡ facts_from all before i ps
facts_kept all before i [] = refl
facts_kept all before i (p ∷ ps) =
    let m = marking all i p in
    ap (λ b. record { is_key = b || end_in_key before; has_tag = not m.begins_key && end_in_tag before }
    ∷ facts_ahead (next_ahead (said_ahead before) m) all (suc i) ps) (value_next ps)
    ∙ ap (λ fs. facts_at before m ps ∷ fs) (facts_kept all (m ∷ before) (suc i) ps)

-- ---- the lexemes of a line, one after another

pub all_told : (ahead : KeyFacts) (all : List KeyedToken) (i j : ℕ) (facts whole : List KeyFacts) → length all ≤ i → facts ++ facts_ahead ahead all j (drop i all) ≡ whole → facts ≡ whole
all_told ahead all i j facts whole h e = sym (append-nil facts) ∙ sym (ap (λ l. facts ++ facts_ahead ahead all j l) (drop_all i all h)) ∙ e

pub all_passed : (ahead behind : KeyFacts) (all : List KeyedToken) (i j : ℕ) → length all ≤ i → ahead_of_all ahead all j (drop i all) ≡ behind → ahead ≡ behind
all_passed ahead behind all i j h e = sym (ap (ahead_of_all ahead all j) (drop_all i all h)) ∙ e

-- one lexeme more
module _ (all : List KeyedToken) (ahead ahead' : KeyFacts) (first i : ℕ) (d : KeyedToken) (begins : Bool) (inside : i < length all) (begins_is : begins ≡ begins_key (first + i) all)
    (ahead_is : ahead' ≡ next_ahead ahead (record { piece = get_or all i d; begins_key = begins })) where
  abbrev m : Marking
  m = marking all (first + i) (get_or all i d)

  m_is : record { piece = get_or all i d; begins_key = begins } ≡ m
  m_is = ap (λ b. record { piece = get_or all i d; begins_key = b }) begins_is

  one_more : first + (i + 1) ≡ suc (first + i)
  one_more = omega arith

  here : facts_ahead ahead all (first + i) (drop i all) ≡ fact_by ahead m (slice_get (drop (i + 1) all) 0) ∷ facts_ahead ahead' all (first + (i + 1)) (drop (i + 1) all)
  here =
      ap (facts_ahead ahead all (first + i)) (drop-cons all i d inside)
      ∙ ap (λ n. fact_by ahead m (slice_get (drop n all) 0) ∷ facts_ahead (next_ahead ahead m) all (suc (first + i)) (drop n all)) (sym (add-one i))
      ∙ ap (λ n. fact_by ahead m (slice_get (drop (i + 1) all) 0) ∷ facts_ahead (next_ahead ahead m) all n (drop (i + 1) all)) (sym one_more)
      ∙ ap (λ a. fact_by ahead m (slice_get (drop (i + 1) all) 0) ∷ facts_ahead a all (first + (i + 1)) (drop (i + 1) all)) (sym (ahead_is ∙ ap (next_ahead ahead) m_is))

  pub facts_more : (next : Option KeyedToken) (fact : KeyFacts) (facts facts' whole : List KeyFacts) → next ≡ slice_get (drop (i + 1) all) 0 →
      fact ≡ fact_by ahead (record { piece = get_or all i d; begins_key = begins }) next → facts' ≡ facts ++ fact ∷ [] →
      facts ++ facts_ahead ahead all (first + i) (drop i all) ≡ whole → facts' ++ facts_ahead ahead' all (first + (i + 1)) (drop (i + 1) all) ≡ whole
  facts_more next fact facts facts' whole next_is fact_is facts_is e =
      let fact_here : fact ≡ fact_by ahead m (slice_get (drop (i + 1) all) 0) =
      fact_is ∙ ap (λ k. fact_by ahead k next) m_is ∙ ap (fact_by ahead m) next_is in
      ap (λ fs. fs ++ facts_ahead ahead' all (first + (i + 1)) (drop (i + 1) all)) facts_is
      ∙ append_assoc facts (fact ∷ []) _
      ∙ ap (λ f. facts ++ (f ∷ facts_ahead ahead' all (first + (i + 1)) (drop (i + 1) all))) fact_here
      ∙ ap (λ fs. facts ++ fs) (sym here)
      ∙ e

  pub ahead_more : (behind : KeyFacts) → ahead_of_all ahead all (first + i) (drop i all) ≡ behind → ahead_of_all ahead' all (first + (i + 1)) (drop (i + 1) all) ≡ behind
  ahead_more behind e =
      ap (λ a. ahead_of_all a all (first + (i + 1)) (drop (i + 1) all)) (ahead_is ∙ ap (next_ahead ahead) m_is)
      ∙ ap (λ n. ahead_of_all (next_ahead ahead m) all n (drop (i + 1) all)) one_more
      ∙ ap (λ n. ahead_of_all (next_ahead ahead m) all (suc (first + i)) (drop n all)) (add-one i)
      ∙ sym (ap (ahead_of_all ahead all (first + i)) (drop-cons all i d inside))
      ∙ e

-- ---- as many facts as lexemes

length-pieces : (before : List KeyedToken) (xs : List Token) → length (keyed_tokens before xs) ≡ length xs
length-pieces before [] = refl
length-pieces before (x ∷ xs) = ap suc (length-pieces (keyed_token x before ∷ before) xs)

length-facts_from : (all : List KeyedToken) (before : List Marking) (i : ℕ) (ps : List KeyedToken) → length (facts_from all before i ps) ≡ length ps
length-facts_from all before i [] = refl
length-facts_from all before i (p ∷ ps) = ap suc (length-facts_from all (marking all i p ∷ before) (suc i) ps)

pub length-key_facts : (xs : List LexemeValue) → length (key_facts xs) ≡ length xs
length-key_facts xs =
    length-facts_from (keyed_tokens [] (map token_of xs)) [] 0 (keyed_tokens [] (map token_of xs)) ∙ length-pieces [] (map token_of xs) ∙ length-map xs token_of
