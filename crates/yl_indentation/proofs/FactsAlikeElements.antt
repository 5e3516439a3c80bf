-- An element tells the same in two places where the same is held before it, and the same is held
-- after it.
use Rattle.std.proofs.Common.{◌≡◌, ◌+◌, ◌<◌, refl, sym, ◌∙◌, ap, arith, ℕ, Bool, true, false, cond, not, ◌&&◌, ◌||◌, List, [], ◌∷◌, map, Option, Some, None, option_map, option_to_list, IfSome}
use Rattle.std.specs.Prelude.{◌==◌, nat_lt}
use Rattle.std.specs.Option.{option_map_or}
use Rattle.std.proofs.lemmas.Bool.Decides.{nat_tests}
use Rattle.yl_lexeme.specs.declared.lexeme.Kind.{Kind}
use Rattle.yl_lexeme.specs.Directives.{is_directive}
use Rattle.yl_lexeme.specs.Lexeme.{is_document_marker, is_closing, is_comma, is_property, is_key, is_value}
use Rattle.yl_marks.specs.declared.token.Token.{Token}
use Rattle.yl_indentation.specs.declared.element.Site.{Site}
use Rattle.yl_indentation.specs.declared.element.Element.{Element}
use Rattle.yl_indentation.specs.declared.element.Element.TheVariants.{Opening, Closing, Marker, OpeningBracket, ClosingBracket, Other, Nothing}
use Rattle.yl_indentation.specs.declared.context.OpenCollection.{OpenCollection}
use Rattle.yl_indentation.specs.declared.context.OpenCollection.TheVariants.{Block, Brackets}
use Rattle.yl_indentation.specs.declared.fact.Expectation.{Expectation}
use Rattle.yl_indentation.specs.declared.fact.Expectation.TheVariants.{At, Beyond}
use Rattle.yl_indentation.specs.declared.fact.Fact.{Fact}
use Rattle.yl_indentation.specs.Expected.{expectation_of_items, expectation_in}
use Rattle.yl_indentation.specs.Facts.{fact_at}
use Rattle.yl_indentation.specs.Context.{ContextValue, open_after, latest_after, is_opening, after, around, fact_here, fact_in}
use Rattle.yl_indentation.specs.SymbolFacts.{facts_if, after_if}
use Rattle.yl_marks.specs.MarksAlike.{token_below}
use Rattle.yl_indentation.specs.FactsAlike.{fact_below, ContextState, context_state, IsAbove}
use Rattle.yl_indentation.proofs.FactsAlikeMoved.{site_below, element_below, same_order}

-- ---- what is held before the same lexemes, below so many lines and below as many others

-- the latest lexeme, if there is one, ends above this line
abbrev pub ends_above : ℕ → Option Token → Bool
ends_above line latest = option_map_or (λ l. nat_lt l.end_line line) latest true

abbrev pub kind_of : Option Token → Option Kind
kind_of latest = option_map (λ x. x.kind) latest

-- the same without lines, and no line of the rows tells them apart
pub record AreAlike (i j : ℕ) (a b : ContextValue) : Type 0 where
  pub state : context_state a ≡ context_state b
  pub ends : (line : ℕ) → ends_above (i + line) a.latest ≡ ends_above (j + line) b.latest

above_all : (n : ℕ) (latest : Option Token) (line : ℕ) → IfSome latest (λ x. x.end_line < n) → ends_above (n + line) latest ≡ true
above_all n None line h = refl
above_all n (Some x) line h = grind (arith, nat_tests)

pub alike_above : (i j : ℕ) (a b : ContextValue) → context_state a ≡ context_state b → IsAbove i a → IsAbove j b → AreAlike i j a b
alike_above i j a b e h g = record { state = e; ends = λ line. above_all i a.latest line h ∙ sym (above_all j b.latest line g) }

abbrev state : List OpenCollection → Option Kind → Bool → ContextState
state os latest just_opened = record { open_ones = os; latest = latest; just_opened = just_opened }

-- ---- what is expected

-- after the latest lexeme a lexeme in brackets may stand anywhere
abbrev is_free_after : Option Token → Bool
is_free_after latest = option_map_or (λ l. is_key l.kind || is_value l.kind || is_property l.kind) latest false

free_by_kind : (latest : Option Token) → is_free_after latest ≡ option_map_or (λ k. is_key k || is_value k || is_property k) (kind_of latest) false
free_by_kind None = refl
free_by_kind (Some x) = refl

same_free : (a b : Option Token) → kind_of a ≡ kind_of b → is_free_after a ≡ is_free_after b
same_free a b e =
    free_by_kind a ∙ ap (λ o. option_map_or (λ k. is_key k || is_value k || is_property k) o false) e ∙ sym (free_by_kind b)

same_expectation : (os : List OpenCollection) (a b : Option Token) (i j : ℕ) (x : Token) → kind_of a ≡ kind_of b
    → expectation_in os a (token_below i x) ≡ expectation_in os b (token_below j x)
same_expectation [] a b i j x e = refl
same_expectation (Block collection column in_entries ∷ os) a b i j x e = refl
same_expectation (Brackets indentation items ∷ os) a b i j x e =
    ap (λ free. cond (is_closing x.kind) (Some (At indentation)) (cond (is_comma x.kind || is_value x.kind || free) None (Some items)))
    (same_free a b e)

same_line : (n a b : ℕ) → (n + a == n + b) ≡ (a == b)
same_line n a b = grind (arith, nat_tests)

-- where the items of brackets are expected that open in this line with so many spaces, by the
-- lexeme after them
abbrev items_by : ℕ → ℕ → Option Token → Expectation
items_by line spaces next = option_map_or (λ y. cond (y.start.line == line) (At y.start.col) (Beyond spaces)) next (Beyond spaces)

items_moved : (n line spaces : ℕ) (next : Option Token) → items_by (n + line) spaces (option_map (token_below n) next) ≡ items_by line spaces next
items_moved n line spaces None = refl
items_moved n line spaces (Some y) = ap (λ b. cond b (At y.start.col) (Beyond spaces)) (same_line n y.start.line line)

same_items : (n : ℕ) (s : Site) → expectation_of_items (site_below n s) ≡ expectation_of_items s
same_items n s = items_moved n s.token.start.line s.indentation s.next

-- ---- the fact of a lexeme

abbrev fact : ℕ → ℕ → Expectation → Fact
fact line column e = record { line = line; column = column; expectation = e }

abbrev fact_if : Bool → ℕ → ℕ → Option Expectation → List Fact
fact_if checked line column o = cond checked (option_to_list (option_map (fact line column) o)) []

fact_moved : (i j : ℕ) (checked : Bool) (line column : ℕ) (o : Option Expectation)
    → map (fact_below j) (fact_if checked (i + line) column o) ≡ map (fact_below i) (fact_if checked (j + line) column o)
fact_moved i j false line column o = refl
fact_moved i j true line column None = refl
fact_moved i j true line column (Some e) =
    let there : j + (i + line) ≡ i + (j + line) = omega arith in
    ap (λ k. fact k column e ∷ []) there

same_fact : (os : List OpenCollection) (a b : Option Token) (i j : ℕ) (s : Site) → kind_of a ≡ kind_of b
    → ((line : ℕ) → ends_above (i + line) a ≡ ends_above (j + line) b)
    → map (fact_below j) (fact_at os a (site_below i s)) ≡ map (fact_below i) (fact_at os b (site_below j s))
same_fact os a b i j s e ends =
    let x = s.token in
    let line = x.start.line in
    let o = expectation_in os b (token_below j x) in
    let checked = λ (ended : Bool). s.counts && not (is_document_marker x.kind || is_directive x.kind) && ended in
    ap (λ p. map (fact_below j) (fact_if (checked (ends_above (i + line) a)) (i + line) x.start.col p)) (same_expectation os a b i j x e)
    ∙ ap (λ ended. map (fact_below j) (fact_if (checked ended) (i + line) x.start.col o)) (ends line)
    ∙ fact_moved i j (checked (ends_above (j + line) b)) line x.start.col o

-- ---- an element, where the same is held before it

module _ (i j : ℕ) (a b : ContextValue) (alike : AreAlike i j a b) where
  same_kind : kind_of a.latest ≡ kind_of b.latest
  same_kind = ap (λ (t : ContextState). t.latest) alike.state

  same_here : (s : Site) → map (fact_below j) (fact_here a (site_below i s)) ≡ map (fact_below i) (fact_here b (site_below j s))
  same_here s =
      ap (λ (t : ContextState). map (fact_below j) (fact_at (option_to_list (around t.just_opened t.open_ones)) a.latest (site_below i s))) alike.state
      ∙ same_fact (option_to_list (around b.just_opened b.open_ones)) a.latest b.latest i j s same_kind alike.ends

  same_facts : (e : Element) → map (fact_below j) (fact_in a (element_below i e)) ≡ map (fact_below i) (fact_in b (element_below j e))
  same_facts (Opening collection column) = refl
  same_facts Closing = refl
  same_facts (Marker s) = same_here s
  same_facts (OpeningBracket s) = same_here s
  same_facts (ClosingBracket s) = same_here s
  same_facts (Other s) = same_here s
  same_facts Nothing = refl

  -- ---- what is held after it

  open_moved : (n : ℕ) (e : Element) (os : List OpenCollection) → open_after (element_below n e) os ≡ open_after e os
  open_moved n (Opening collection column) os = refl
  open_moved n Closing os = refl
  open_moved n (Marker s) os = refl
  open_moved n (OpeningBracket s) os = ap (λ items. Brackets s.indentation items ∷ os) (same_items n s)
  open_moved n (ClosingBracket s) os = refl
  open_moved n (Other s) os = refl
  open_moved n Nothing os = refl

  kind_after : (e : Element) → kind_of (latest_after (element_below i e) a.latest) ≡ kind_of (latest_after (element_below j e) b.latest)
  kind_after (Opening collection column) = same_kind
  kind_after Closing = same_kind
  kind_after (Marker s) = refl
  kind_after (OpeningBracket s) = refl
  kind_after (ClosingBracket s) = refl
  kind_after (Other s) = refl
  kind_after Nothing = same_kind

  is_opening_moved : (n : ℕ) (e : Element) → is_opening (element_below n e) ≡ is_opening e
  is_opening_moved n (Opening collection column) = refl
  is_opening_moved n Closing = refl
  is_opening_moved n (Marker s) = refl
  is_opening_moved n (OpeningBracket s) = refl
  is_opening_moved n (ClosingBracket s) = refl
  is_opening_moved n (Other s) = refl
  is_opening_moved n Nothing = refl

  ends_moved : (x : Token) (line : ℕ) → ends_above (i + line) (Some (token_below i x)) ≡ ends_above (j + line) (Some (token_below j x))
  ends_moved x line = same_order i x.end_line line ∙ sym (same_order j x.end_line line)

  ends_after : (e : Element) (line : ℕ) → ends_above (i + line) (latest_after (element_below i e) a.latest) ≡ ends_above (j + line) (latest_after (element_below j e) b.latest)
  ends_after (Opening collection column) line = alike.ends line
  ends_after Closing line = alike.ends line
  ends_after (Marker s) line = ends_moved s.token line
  ends_after (OpeningBracket s) line = ends_moved s.token line
  ends_after (ClosingBracket s) line = ends_moved s.token line
  ends_after (Other s) line = ends_moved s.token line
  ends_after Nothing line = alike.ends line

  alike_after : (e : Element) → AreAlike i j (after (element_below i e) a) (after (element_below j e) b)
  alike_after e = record {
    state = ap (λ os. state os (kind_of (latest_after (element_below i e) a.latest)) (is_opening (element_below i e)))
        (open_moved i e a.open_ones ∙ ap (λ (t : ContextState). open_after e t.open_ones) alike.state ∙ sym (open_moved j e b.open_ones))
        ∙ ap (λ k. state (open_after (element_below j e) b.open_ones) k (is_opening (element_below i e))) (kind_after e)
        ∙ ap (state (open_after (element_below j e) b.open_ones) (kind_of (latest_after (element_below j e) b.latest)))
        (is_opening_moved i e ∙ sym (is_opening_moved j e));
    ends = ends_after e;
  }

  -- ---- an element, if there is one

  pub facts_alike : (o : Option Element) → map (fact_below j) (facts_if a (option_map (element_below i) o)) ≡ map (fact_below i) (facts_if b (option_map (element_below j) o))
  facts_alike None = refl
  facts_alike (Some e) = same_facts e

  pub alike_after_if : (o : Option Element) → AreAlike i j (after_if (option_map (element_below i) o) a) (after_if (option_map (element_below j) o) b)
  alike_after_if None = alike
  alike_after_if (Some e) = alike_after e
