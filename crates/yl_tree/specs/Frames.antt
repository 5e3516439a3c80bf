-- Bridge: what the code keeps of the open collections.
use Rattle.std.specs.Prelude.{ℕ, ◌≡◌, Bool, List, [], ◌∷◌, reverse}
use Rattle.std.specs.List.{list_any}
use Rattle.yl_events.specs.Event.{EventValue}
use Rattle.yl_tree.specs.OpenNodes.{OpenCollection, OpenNodes, collections_behind, open_at}
use Rattle.yl_tree.specs.declared.walk.Frame.{Frame}
use Rattle.yl_tree.specs.declared.walk.Walk.{Walk}

-- a frame represents an open collection
pub record Agrees (f : Frame) (o : OpenCollection) : Type 0 where
  pub mapping : f.is_mapping ≡ o.is_mapping
  pub next : f.is_key_next ≡ o.is_key_next

abbrev pub AllAgree : List Frame → List OpenCollection → Type 0
AllAgree [] [] = Unit {0}
AllAgree [] (o ∷ os) = Unit {0} → ⊥
AllAgree (f ∷ fs) [] = Unit {0} → ⊥
AllAgree (f ∷ fs) (o ∷ os) = Agrees f o × AllAgree fs os

-- which earlier key conflicts with which key, and whether a remembered key of an open collection
-- conflicts with a key
module _ {M : Type 0} (speaks_against : List ℕ → List ℕ → Bool) (is_against : M → ℕ → List ℕ
    → Bool) where
  -- for each open collection, a remembered key conflicts with a key exactly if one of its earlier
  -- keys does
  abbrev pub Remembers : M → OpenNodes → Type 0
  Remembers memory s = (n : ℕ) (q : List ℕ)
      → is_against memory n q ≡ list_any (λ key. speaks_against key q) (open_at n s).keys

  -- a walk at which these collections are open
  pub record StandsAt {A : Type 0} (w : Walk M A) (s : OpenNodes) : Type 0 where
    pub innermost : Agrees w.innermost s.innermost
    pub outer : AllAgree (reverse w.outer.items) s.outer
    pub memory : Remembers w.memory s

  -- a walk after these events, the latest first
  abbrev pub IsBehind : {A : Type 0} → Walk M A → List EventValue → Type 0
  IsBehind w before = StandsAt w (collections_behind before)
