-- What is kept of the elements before a place says what looking back over them says.
use Rattle.std.proofs.Common.{◌≡◌, refl, ◌∙◌, ap, false, List, [], ◌∷◌, ◌++◌, drop, Option}
use Rattle.std.specs.Prelude.{option_to_list}
use Rattle.std.specs.Option.{option_map_or}
use Rattle.yl_lexeme.specs.Kept.{all_but_first, first_of}
use Rattle.yl_lexeme.specs.declared.lexeme.Kind.{Kind}
use Rattle.yl_marks.specs.declared.token.Token.{Token}
use Rattle.yl_indentation.specs.declared.element.Site.{Site}
use Rattle.yl_indentation.specs.declared.element.Element.{Element}
use Rattle.yl_indentation.specs.declared.element.Element.TheVariants.{Opening, Closing, Marker, OpeningBracket, ClosingBracket, Other, Nothing}
use Rattle.yl_indentation.specs.declared.context.OpenCollection.{OpenCollection}
use Rattle.yl_indentation.specs.declared.context.OpenCollection.TheVariants.{Block, Brackets}
use Rattle.yl_indentation.specs.declared.fact.Fact.{Fact}
use Rattle.yl_indentation.specs.Facts.{site_of, latest_lexeme, behind_lexeme, left_open, open_around, fact_at, facts_after}
use Rattle.yl_indentation.specs.Context.{ContextValue, nothing_open, brackets, with_lexeme, after, around, fact_here, fact_in, facts_in}

-- what is kept of elements, the latest first
abbrev pub context : List Element → ContextValue
context [] = nothing_open
context (e ∷ es) = after e (context es)

with_lexeme_is : (kind : Kind) (os : List OpenCollection) → with_lexeme kind os ≡ behind_lexeme kind os
with_lexeme_is kind [] = refl
with_lexeme_is kind (Block collection column in_entries ∷ os) = refl
with_lexeme_is kind (Brackets indentation items ∷ os) = refl

all_but_first_is : (os : List OpenCollection) → all_but_first os ≡ drop 1 os
all_but_first_is [] = refl
all_but_first_is (o ∷ os) = refl

context_open : (es : List Element) → (context es).open_ones ≡ left_open es
context_open [] = refl
context_open (Opening collection column ∷ es) = ap (λ (os : List OpenCollection). Block collection column false ∷ os) (context_open es)
context_open (Closing ∷ es) = all_but_first_is (context es).open_ones ∙ ap (λ (os : List OpenCollection). drop 1 os) (context_open es)
context_open (Marker site ∷ es) = refl
context_open (OpeningBracket site ∷ es) = ap (λ (os : List OpenCollection). brackets site ∷ os) (context_open es)
context_open (ClosingBracket site ∷ es) = all_but_first_is (context es).open_ones ∙ ap (λ (os : List OpenCollection). drop 1 os) (context_open es)
context_open (Other site ∷ es) = with_lexeme_is site.token.kind (context es).open_ones ∙ ap (behind_lexeme site.token.kind) (context_open es)
context_open (Nothing ∷ es) = context_open es

context_latest : (es : List Element) → (context es).latest ≡ latest_lexeme es
context_latest [] = refl
context_latest (Opening collection column ∷ es) = context_latest es
context_latest (Closing ∷ es) = context_latest es
context_latest (Marker site ∷ es) = refl
context_latest (OpeningBracket site ∷ es) = refl
context_latest (ClosingBracket site ∷ es) = refl
context_latest (Other site ∷ es) = refl
context_latest (Nothing ∷ es) = context_latest es

context_around : (es : List Element) → around (context es).just_opened (context es).open_ones ≡ first_of (open_around es)
context_around [] = refl
context_around (Opening collection column ∷ es) = ap (λ (os : List OpenCollection). first_of os) (context_open es)
context_around (Closing ∷ es) = ap (λ (os : List OpenCollection). first_of os) (context_open (Closing ∷ es))
context_around (Marker site ∷ es) = refl
context_around (OpeningBracket site ∷ es) = refl
context_around (ClosingBracket site ∷ es) = ap (λ (os : List OpenCollection). first_of os) (context_open (ClosingBracket site ∷ es))
context_around (Other site ∷ es) = ap (λ (os : List OpenCollection). first_of os) (context_open (Other site ∷ es))
context_around (Nothing ∷ es) = ap (λ (os : List OpenCollection). first_of os) (context_open es)

-- the innermost collection suffices
innermost_suffices : (os : List OpenCollection) (latest : Option Token) (site : Site) → fact_at (option_to_list (first_of os)) latest site ≡ fact_at os latest site
innermost_suffices [] latest site = refl
innermost_suffices (Block collection column in_entries ∷ os) latest site = refl
innermost_suffices (Brackets indentation items ∷ os) latest site = refl

context_fact_here : (es : List Element) (site : Site) → fact_here (context es) site ≡ fact_at (open_around es) (latest_lexeme es) site
context_fact_here es site =
    ap (λ (o : Option OpenCollection). fact_at (option_to_list o) (context es).latest site) (context_around es)
    ∙ ap (λ (t : Option Token). fact_at (option_to_list (first_of (open_around es))) t site) (context_latest es)
    ∙ innermost_suffices (open_around es) (latest_lexeme es) site

context_fact : (es : List Element) (e : Element) → fact_in (context es) e ≡ option_map_or (fact_at (open_around es) (latest_lexeme es)) (site_of e) []
context_fact es (Opening collection column) = refl
context_fact es Closing = refl
context_fact es (Marker site) = context_fact_here es site
context_fact es (OpeningBracket site) = context_fact_here es site
context_fact es (ClosingBracket site) = context_fact_here es site
context_fact es (Other site) = context_fact_here es site
context_fact es Nothing = refl

context_facts : (before es : List Element) → facts_in (context before) es ≡ facts_after before es
context_facts before [] = refl
context_facts before (e ∷ es) =
    ap (λ (fs : List Fact). fs ++ facts_in (context (e ∷ before)) es) (context_fact before e)
    ∙ ap (λ (fs : List Fact). option_map_or (fact_at (open_around before) (latest_lexeme before)) (site_of e) [] ++ fs) (context_facts (e ∷ before) es)

pub facts_suffice : (es : List Element) → facts_in nothing_open es ≡ facts_after [] es
facts_suffice es = context_facts [] es
