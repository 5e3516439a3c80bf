-- The members of a list that pass.
use Rattle.std.proofs.Common.{◌≡◌, Bool, true, false, List, [], ◌∷◌, refl, ap, sym, ◌∙◌, ◌⊎◌, inl, inr, cond}
use Rattle.std.specs.List.{AllByRecursion, filter}
use Rattle.yl_text.specs.Finding.{FindingValue}
use Rattle.yl_report.proofs.Unique.{In}

in_cond : (b : Bool) (f x : FindingValue) (ys : List FindingValue) → In f (cond b (x ∷ ys) ys) → ((f ≡ x) × (b ≡ true)) ⊎ In f ys
in_cond true f x ys (inl e) = inl (e, refl)
in_cond true f x ys (inr h) = inr h
in_cond false f x ys h = inr h

cond_in : (b : Bool) (f x : FindingValue) (ys : List FindingValue) → ((f ≡ x) × (b ≡ true)) ⊎ In f ys → In f (cond b (x ∷ ys) ys)
cond_in true f x ys (inl e) = inl e.0
cond_in true f x ys (inr h) = inr h
cond_in false f x ys (inl e) = absurd (cc)
cond_in false f x ys (inr h) = h

pub in_filter : (p : FindingValue → Bool) (f : FindingValue) (xs : List FindingValue) → In f (filter p xs) → In f xs × (p f ≡ true)
in_filter p f [] h = absurd h
in_filter p f (x ∷ xs) h = deeper (in_cond (p x) f x (filter p xs) h) (in_filter p f xs)
  where
    deeper : ((f ≡ x) × (p x ≡ true)) ⊎ In f (filter p xs) → (In f (filter p xs) → In f xs × (p f ≡ true)) → In f (x ∷ xs) × (p f ≡ true)
    deeper (inl e) b = (inl e.0, ap p e.0 ∙ e.1)
    deeper (inr g) b = let r = b g in (inr r.0, r.1)

pub filter_in : (p : FindingValue → Bool) (f : FindingValue) (xs : List FindingValue) → In f xs → p f ≡ true → In f (filter p xs)
filter_in p f [] h t = absurd h
filter_in p f (x ∷ xs) (inl e) t = cond_in (p x) f x (filter p xs) (inl (e, sym (ap p e) ∙ t))
filter_in p f (x ∷ xs) (inr h) t = cond_in (p x) f x (filter p xs) (inr (filter_in p f xs h t))

all_cond : (P : FindingValue → Type 0) (b : Bool) (x : FindingValue) (ys : List FindingValue) → P x → AllByRecursion P ys → AllByRecursion P (cond b (x ∷ ys) ys)
all_cond P true x ys p h = (p, h)
all_cond P false x ys p h = h

pub all_filter : (P : FindingValue → Type 0) (p : FindingValue → Bool) (xs : List FindingValue) → AllByRecursion P xs → AllByRecursion P (filter p xs)
all_filter P p [] h = tt
all_filter P p (x ∷ xs) h = all_cond P (p x) x (filter p xs) h.0 (all_filter P p xs h.1)
