-- Laws of the lines of a file between what begins and what ends them.
use Rattle.std.proofs.Common.{◌≡◌, ℕ, List, ◌++◌, Option, Result, Ok, Err, OnOk, refl, subst, append_assoc}
use Rattle.yl_devices.specs.Written.{AppendsFront, Passes}
use Rattle.yl_devices.proofs.Pieces.{front_more, passes_break, passes_go_on}

-- from one fact on a success to another
pub ok_then : {T E P Q : Type 0} (r : Result T E) → (P → Q) → OnOk r P → OnOk r Q
ok_then (Ok x) f p = f p
ok_then (Err e) f p = tt

-- what was to be put in front of the rest broke off
front_before : (a b : Option (List ℕ)) (p x y : List ℕ) → AppendsFront a b (p ++ x) → AppendsFront a b (p ++ (x ++ y))
front_before a b p x y h = subst (AppendsFront a b) (append_assoc p x y) (front_more a b (p ++ x) y h)

module _ (head lines end : List ℕ) (a b : Option (List ℕ)) (p : List ℕ) where
  pub head_break : AppendsFront a b (p ++ head) → AppendsFront a b (p ++ ((head ++ lines) ++ end))
  head_break h = front_before a b p (head ++ lines) end (front_before a b p head lines h)

  pub lines_break : (c : Option (List ℕ)) (q : List ℕ) → Passes a b p head q → AppendsFront b c (q ++ lines) → AppendsFront a c (p ++ ((head ++ lines) ++ end))
  lines_break c q h g = front_before a c p (head ++ lines) end (passes_break a b c p head q lines (head ++ lines) refl h g)

  pub end_breaks : (c d : Option (List ℕ)) (q r : List ℕ) → Passes a b p head q → Passes b c q lines r → AppendsFront c d (r ++ end) → AppendsFront a d (p ++ ((head ++ lines) ++ end))
  end_breaks c d q r h g f = passes_break a c d p (head ++ lines) r end _ refl (passes_go_on a b c p head q lines r _ refl h g) f

  pub all_passes : (c d : Option (List ℕ)) (q r s : List ℕ) → Passes a b p head q → Passes b c q lines r → Passes c d r end s → Passes a d p ((head ++ lines) ++ end) s
  all_passes c d q r s h g f = passes_go_on a c d p (head ++ lines) r end s _ refl (passes_go_on a b c p head q lines r _ refl h g) f
