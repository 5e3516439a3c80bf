-- Lists with the same members.
use Rattle.std.proofs.Common.{◌≡◌, List, [], ◌∷◌, ◌++◌, map, refl, sym, subst, inl, inr}
use Rattle.std.specs.List.{AllByRecursion}
use Rattle.yl_text.specs.Finding.{FindingValue}
use Rattle.yl_report.proofs.Unique.{In, in_from, from_in}
use Rattle.yl_lint.proofs.Arranged.{AreSame, in_behind, in_either, in_front}
use Rattle.yl_piece_reports.specs.Cuts.{HaveSameMembers}

-- as a clause says it, and as proofs do
pub are_same : (xs ys : List FindingValue) → HaveSameMembers xs ys → AreSame xs ys
are_same xs ys h = record {
  there = λ f i. in_from f ys (h.there f (from_in f xs i));
  back = λ f i. in_from f xs (h.back f (from_in f ys i));
}

pub have_same : (xs ys : List FindingValue) → AreSame xs ys → HaveSameMembers xs ys
have_same xs ys h = record {
  there = λ f i. from_in f ys (h.there f (in_from f xs i));
  back = λ f i. from_in f xs (h.back f (in_from f ys i));
}

pub same_is : (xs ys : List FindingValue) → xs ≡ ys → AreSame xs ys
same_is xs ys e = record {
  there = λ f h. subst (λ (zs : List FindingValue). In f zs) e h;
  back = λ f h. subst (λ (zs : List FindingValue). In f zs) (sym e) h;
}

pub same_then : (xs ys zs : List FindingValue) → AreSame xs ys → AreSame ys zs → AreSame xs zs
same_then xs ys zs s t = record {
  there = λ f h. t.there f (s.there f h);
  back = λ f h. s.back f (t.back f h);
}

pub same_turned : (xs ys : List FindingValue) → AreSame xs ys → AreSame ys xs
same_turned xs ys s = record { there = s.back; back = s.there }

-- one list behind another
either_there : (xs ys xs' ys' : List FindingValue) → ((f : FindingValue) → In f xs → In f xs') → ((f : FindingValue) → In f ys → In f ys') → (f : FindingValue) → In f (xs ++ ys) → In f (xs' ++ ys')
either_there xs ys xs' ys' s t f h = in_either f xs ys h (λ i. in_front f xs' ys' (s f i)) (λ i. in_behind f xs' ys' (t f i))

pub same_both : (xs ys xs' ys' : List FindingValue) → AreSame xs xs' → AreSame ys ys' → AreSame (xs ++ ys) (xs' ++ ys')
same_both xs ys xs' ys' s t = record {
  there = either_there xs ys xs' ys' s.there t.there;
  back = either_there xs' ys' xs ys s.back t.back;
}

-- of four lists the inner two change places
crossed : (ws xs ys zs : List FindingValue) (f : FindingValue) → In f ((ws ++ xs) ++ (ys ++ zs)) → In f ((ws ++ ys) ++ (xs ++ zs))
crossed ws xs ys zs f h =
    in_either f (ws ++ xs) (ys ++ zs) h
    (λ i. in_either f ws xs i (λ j. in_front f (ws ++ ys) (xs ++ zs) (in_front f ws ys j)) (λ j. in_behind f (ws ++ ys) (xs ++ zs) (in_front f xs zs j)))
    (λ i. in_either f ys zs i (λ j. in_front f (ws ++ ys) (xs ++ zs) (in_behind f ws ys j)) (λ j. in_behind f (ws ++ ys) (xs ++ zs) (in_behind f xs zs j)))

pub same_crossed : (ws xs ys zs : List FindingValue) → AreSame ((ws ++ xs) ++ (ys ++ zs)) ((ws ++ ys) ++ (xs ++ zs))
same_crossed ws xs ys zs = record { there = crossed ws xs ys zs; back = crossed ws ys xs zs }

-- what a function gives of each member
pub map_in : (g : FindingValue → FindingValue) (f : FindingValue) (xs : List FindingValue) → In f xs → In (g f) (map g xs)
map_in g f [] h = absurd h
map_in g f (x ∷ xs) (inl e) = inl (λ i. g (e i))
map_in g f (x ∷ xs) (inr h) = inr (map_in g f xs h)

pub in_map : (g : FindingValue → FindingValue) (f : FindingValue) (xs : List FindingValue) → In f (map g xs) → (x : FindingValue) × In x xs × (f ≡ g x)
in_map g f [] h = absurd h
in_map g f (x ∷ xs) (inl e) = (x, inl refl, e)
in_map g f (x ∷ xs) (inr h) = let r = in_map g f xs h in (r.0, inr r.1, r.2)

map_there : (g : FindingValue → FindingValue) (xs ys : List FindingValue) → ((f : FindingValue) → In f xs → In f ys) → (f : FindingValue) → In f (map g xs) → In f (map g ys)
map_there g xs ys s f h =
    let r = in_map g f xs h in
    subst (λ (z : FindingValue). In z (map g ys)) (sym r.2) (map_in g r.0 ys (s r.0 r.1))

pub same_map : (g : FindingValue → FindingValue) (xs ys : List FindingValue) → AreSame xs ys → AreSame (map g xs) (map g ys)
same_map g xs ys s = record { there = map_there g xs ys s.there; back = map_there g ys xs s.back }

-- what holds of each member
pub all_from_in : (P : FindingValue → Type 0) (xs : List FindingValue) → ((f : FindingValue) → In f xs → P f) → AllByRecursion P xs
all_from_in P [] h = tt
all_from_in P (x ∷ xs) h = (h x (inl refl), all_from_in P xs (λ f i. h f (inr i)))

pub in_from_all : (P : FindingValue → Type 0) (xs : List FindingValue) → AllByRecursion P xs → (f : FindingValue) → In f xs → P f
in_from_all P [] h f i = absurd i
in_from_all P (x ∷ xs) h f (inl e) = subst P (sym e) h.0
in_from_all P (x ∷ xs) h f (inr i) = in_from_all P xs h.1 f i
