-- Open collections that have the keys of others.
use Rattle.std.specs.Prelude.{if◌then◌else◌, ◌==◌}
use Rattle.std.proofs.Common.{◌≡◌, ℕ, suc, List, [], ◌∷◌, length, map, Bool, true, false, refl, ap}
use Rattle.yl_tree.specs.OpenNodes.{OpenCollection, OpenNodes, first_or_new, without_first}
use Rattle.yl_open_collections.specs.OpenBy.{keyless, without_keys}
use Rattle.yl_open_collections.specs.Counted.{what_counts, what_counts_of}
use Rattle.yl_pieces.specs.KeysOfRuns.{all_open, keys_at}

-- the collection with the keys of the other
abbrev with_keys_of : OpenCollection → OpenCollection → OpenCollection
with_keys_of o p = record { is_mapping = o.is_mapping; is_key_next = o.is_key_next; keys = p.keys }

abbrev all_with_keys_of : List OpenCollection → List OpenCollection → List OpenCollection
all_with_keys_of [] ps = []
all_with_keys_of (o ∷ os) [] = keyless o ∷ all_with_keys_of os []
all_with_keys_of (o ∷ os) (p ∷ ps) = with_keys_of o p ∷ all_with_keys_of os ps

abbrev pub with_other_keys : OpenNodes → OpenNodes → OpenNodes
with_other_keys s t = record { innermost = with_keys_of s.innermost t.innermost; outer = all_with_keys_of s.outer t.outer }

-- ---- without keys they are the ones

all_same : (os ps : List OpenCollection) → map keyless (all_with_keys_of os ps) ≡ map keyless os
all_same [] ps = refl
all_same (o ∷ os) [] = ap (λ qs. keyless o ∷ qs) (all_same os [])
all_same (o ∷ os) (p ∷ ps) = ap (λ qs. keyless o ∷ qs) (all_same os ps)

pub same_without_keys : (s t : OpenNodes) → without_keys (with_other_keys s t) ≡ without_keys s
same_without_keys s t = ap (λ os. record { innermost = keyless s.innermost; outer = os }) (all_same s.outer t.outer)

-- ---- and as mappings the others, where both are the same mappings but for keys

abbrev collection : Bool → Bool → List (List ℕ) → OpenCollection
collection is_mapping is_key_next keys = record { is_mapping = is_mapping; is_key_next = is_key_next; keys = keys }

one_other : (b c d e : Bool) (qs : List (List ℕ)) → what_counts_of (collection b c []) ≡ what_counts_of (collection d e [])
    → what_counts_of (collection b c qs) ≡ what_counts_of (collection d e qs)
one_other true c true e qs h = ap (λ n. collection true n qs) (ap (λ (o : OpenCollection). o.is_key_next) h)
one_other true c false e qs h = let no : true ≡ false = ap (λ (o : OpenCollection). o.is_mapping) h in absurd cc
one_other false c true e qs h = let no : false ≡ true = ap (λ (o : OpenCollection). o.is_mapping) h in absurd cc
one_other false c false e qs h = refl

abbrev AreLike : List OpenCollection → List OpenCollection → Type 0
AreLike os ps = map what_counts_of (map keyless os) ≡ map what_counts_of (map keyless ps)

head_like : (o p : OpenCollection) (os ps : List OpenCollection) → AreLike (o ∷ os) (p ∷ ps) → what_counts_of (keyless o) ≡ what_counts_of (keyless p)
head_like o p os ps h = ap first_or_new h

tail_like : (o p : OpenCollection) (os ps : List OpenCollection) → AreLike (o ∷ os) (p ∷ ps) → AreLike os ps
tail_like o p os ps h = ap without_first h

all_other : (os ps : List OpenCollection) → AreLike os ps → map what_counts_of (all_with_keys_of os ps) ≡ map what_counts_of ps
all_other [] [] h = refl
all_other [] (p ∷ ps) h = cc
all_other (o ∷ os) [] h = cc
all_other (o ∷ os) (p ∷ ps) h =
    λ i. one_other o.is_mapping o.is_key_next p.is_mapping p.is_key_next p.keys (head_like o p os ps h) i ∷ all_other os ps (tail_like o p os ps h) i

all_many : (os ps : List OpenCollection) → AreLike os ps → length (all_with_keys_of os ps) ≡ length ps
all_many [] [] h = refl
all_many [] (p ∷ ps) h = cc
all_many (o ∷ os) [] h = cc
all_many (o ∷ os) (p ∷ ps) h = ap suc (all_many os ps (tail_like o p os ps h))

keys_other : (h : ℕ) (os ps : List OpenCollection) → AreLike os ps → keys_at h (all_with_keys_of os ps) ≡ keys_at h ps
keys_other h [] [] like = refl
keys_other h [] (p ∷ ps) like = cc
keys_other h (o ∷ os) [] like = cc
keys_other h (o ∷ os) (p ∷ ps) like =
    λ i. if h == suc (all_many os ps (tail_like o p os ps like) i) then p.keys else keys_other h os ps (tail_like o p os ps like) i

module _ (s t : OpenNodes) (same : what_counts (without_keys s) ≡ what_counts (without_keys t)) where
  like : AreLike (all_open s) (all_open t)
  like = ap all_open same

  pub same_mappings : what_counts (with_other_keys s t) ≡ what_counts t
  same_mappings = ap (λ os. record { innermost = first_or_new os; outer = without_first os }) (all_other (all_open s) (all_open t) like)

  pub same_keys : (h : ℕ) → keys_at h (all_open (with_other_keys s t)) ≡ keys_at h (all_open t)
  same_keys h = keys_other h (all_open s) (all_open t) like
