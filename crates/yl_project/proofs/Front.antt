-- What stands after a character, as `strip_prefix` tells it.
use Rattle.std.proofs.Common.{◌≡◌, ◌≢◌, ℕ, Bool, true, false, cond, eqb, List, [], ◌∷◌, Option, Some, None, MatchOption, refl, ap, sym, ◌∙◌}
use Rattle.std.specs.Option.{option_map}
use Rattle.std.proofs.lemmas.Bool.{eq-eqb, eqb-true}
use denote.Ref.{Bor}
use Rattle.yl_project.specs.Paths.{after_byte}

differs : (b c : ℕ) (bs : List ℕ) (same : Bool) → eqb b c ≡ same → ((rest : List ℕ) → b ∷ bs ≢ c ∷ rest) → cond same (Some bs) None ≡ None
differs b c bs true is h = absurd (h bs (ap (λ x. x ∷ bs) (eqb-true b c is)))
differs b c bs false is h = refl

found : (c : ℕ) (rest : List ℕ) → after_byte c (c ∷ rest) ≡ Some rest
found c rest = rw (eq-eqb c c refl) refl

pub after : (c : ℕ) (path : List ℕ) (r : Option (Bor (List ℕ))) → MatchOption r ((rest : List ℕ) → path ≢ c ∷ rest) (λ x. path ≡ c ∷ x.now)
    → option_map (λ x. x.now) r ≡ after_byte c path
after c [] None h = refl
after c (b ∷ bs) None h = sym (differs b c bs (eqb b c) refl h)
after c path (Some x) h = sym (ap (after_byte c) h ∙ found c x.now)
