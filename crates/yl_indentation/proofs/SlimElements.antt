-- What is left out of elements says nothing of the facts.
use Rattle.std.proofs.Common.{◌≡◌, refl, ◌∙◌, ap, List, [], ◌∷◌, ◌++◌, map}
use Rattle.yl_indentation.specs.declared.element.Element.{Element}
use Rattle.yl_indentation.specs.declared.element.Element.TheVariants.{Opening, Closing, Marker, OpeningBracket, ClosingBracket, Other, Nothing}
use Rattle.yl_indentation.specs.SlimElements.{slim_element}
use Rattle.yl_indentation.specs.Context.{ContextValue, fact_in, facts_in, after}

pub slim_fact : (c : ContextValue) (e : Element) → fact_in c (slim_element e) ≡ fact_in c e
slim_fact c (Opening collection column) = refl
slim_fact c Closing = refl
slim_fact c (Marker site) = refl
slim_fact c (OpeningBracket site) = refl
slim_fact c (ClosingBracket site) = refl
slim_fact c (Other site) = refl
slim_fact c Nothing = refl

pub slim_after : (c : ContextValue) (e : Element) → after (slim_element e) c ≡ after e c
slim_after c (Opening collection column) = refl
slim_after c Closing = refl
slim_after c (Marker site) = refl
slim_after c (OpeningBracket site) = refl
slim_after c (ClosingBracket site) = refl
slim_after c (Other site) = refl
slim_after c Nothing = refl

-- the facts of elements of which each is slim
pub slim_facts : {X : Type 0} (element : X → Element) (c : ContextValue) (xs : List X)
    → facts_in c (map (λ x. slim_element (element x)) xs) ≡ facts_in c (map element xs)
slim_facts element c [] = refl
slim_facts element c (x ∷ xs) =
    ap (λ fs. fs ++ facts_in (after (slim_element (element x)) c) (map (λ y. slim_element (element y)) xs))
    (slim_fact c (element x))
    ∙ ap (λ d. fact_in c (element x) ++ facts_in d (map (λ y. slim_element (element y)) xs))
    (slim_after c (element x))
    ∙ ap (λ fs. fact_in c (element x) ++ fs) (slim_facts element (after (element x) c) xs)
