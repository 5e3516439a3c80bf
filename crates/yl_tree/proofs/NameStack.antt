-- A level of a stack with one name more.
use Rattle.std.proofs.Common.{◌≡◌, ℕ, ◌-◌, ◌≤◌, arith, length, take, drop, List, [], ◌∷◌, ◌++◌, ◌∙◌, ap, length-append, true, false}
use Rattle.std.specs.Prelude.{slice_get}
use Rattle.std.proofs.lemmas.List.{take-append-le, take_rest, drop-append-le}
use Rattle.yl_tree.specs.declared.name_stack.Level.{Level}
use Rattle.yl_tree.specs.NameSets.{is_above}
use Rattle.yl_tree.specs.NameStack.{AreLevels}
use Rattle.yl_tree.proofs.Names.{run_goes_on, run_stays}

pub rest : (d xs : List (List ℕ)) (b : ℕ) → d ≡ xs → take (length d - b) (drop b d) ≡ drop b xs
rest d xs b d_is = take_rest d b ∙ ap (drop b) d_is

module _ (ls : List Level) (l : Level) (xs new : List (List ℕ)) (name : List ℕ) (h : AreLevels (l ∷ ls) xs) (new_is : new ≡ xs ++ name ∷ []) where
  dropped : drop l.begin new ≡ drop l.begin xs ++ name ∷ []
  dropped = ap (drop l.begin) new_is ∙ drop-append-le l.begin xs (name ∷ []) h.0

  taken : take l.begin new ≡ take l.begin xs
  taken = ap (take l.begin) new_is ∙ take-append-le l.begin xs (name ∷ []) h.0

  fits : l.begin ≤ length new
  fits = rw new_is (simp length-append (omega (arith, h.0)))

  -- a name that is greater than the greatest
  pub pushed_above : (place : ℕ) → place ≡ length (drop l.begin xs) → is_above (slice_get (drop l.begin xs) l.greatest) name ≡ true → AreLevels (record { begin = l.begin; greatest = place } ∷ ls) new
  pushed_above place place_is a = (fits, run_goes_on (drop l.begin xs) (drop l.begin new) l.greatest name h.1 dropped place place_is a, rw taken h.2)

  -- one that is not
  pub pushed_below : is_above (slice_get (drop l.begin xs) l.greatest) name ≡ false → AreLevels (l ∷ ls) new
  pushed_below n = (fits, run_stays (drop l.begin xs) (drop l.begin new) l.greatest name h.1 dropped n, rw taken h.2)
