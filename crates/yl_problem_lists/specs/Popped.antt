-- Bridge: the last problem of two lists, removed from them.
use Rattle.std.specs.Prelude.{◌≡◌, ℕ, ◌+◌, ◌-◌, ◌≤◌, true, false, List, [], ◌∷◌, ◌++◌, map, reverse, length, Option, Some, None, IfSome, slice_get}
use Rattle.std.specs.List.{AllByRecursion}
use Rattle.yl_report.specs.Report.{ProblemValue}
use Rattle.yl_problem_lists.specs.Order.{IsInOrder, merged}
use Rattle.yl_problem_lists.specs.Parts.{IsLow, above, behind, is_upto, shifted}

-- the last problem, if there is one, is in the first `line` lines
abbrev pub EndsUpto : ℕ → List ProblemValue → Type 0
EndsUpto line ps = IfSome (slice_get ps (length ps - 1)) (λ p. is_upto line p ≡ true)

-- the list `qs` is `ps` without its last problem, which is below the first `line` lines; or it is
-- `ps`, of which no last problem is below them
abbrev pub PopsBehind : ℕ → List ProblemValue → List ProblemValue → Option ProblemValue → Type 0
PopsBehind line ps qs None = (qs ≡ ps) × EndsUpto line ps
PopsBehind line ps qs (Some p) = (ps ≡ qs ++ p ∷ []) × (is_upto line p ≡ false)

-- no problem of the two lists is below the first `line` lines, and both lists stay
pub record NoneBehind (line : ℕ) (ss us ts vs : List ProblemValue) : Type 0 where
  pub shown : behind line ss ≡ []
  pub suppressed : behind line us ≡ []
  pub shown_stays : ts ≡ ss
  pub suppressed_stays : vs ≡ us

-- from the lists ss and us, which become ts and vs, the last problem below the first `line` lines
-- is removed
pub record LastGoes (line : ℕ) (ss us ts vs : List ProblemValue) (p : ProblemValue) : Type 0 where
  pub merged : merged (behind line ss) (behind line us) ≡ merged (behind line ts) (behind line vs) ++ p ∷ []
  pub shown_above : (n : ℕ) → n ≤ line → above n ts ≡ above n ss
  pub suppressed_above : (n : ℕ) → n ≤ line → above n vs ≡ above n us
  pub shown_in_order : IsInOrder ts
  pub suppressed_in_order : IsInOrder vs
  pub low : AllByRecursion IsLow ss → AllByRecursion IsLow us → AllByRecursion IsLow ts × AllByRecursion IsLow vs × IsLow p
  pub count : length ts + length vs + 1 ≡ length ss + length us

-- the last problem below the first `line` lines is removed from one of the two lists, or there is
-- none
abbrev pub PopsLast : ℕ → List ProblemValue → List ProblemValue → List ProblemValue → List ProblemValue → Option ProblemValue → Type 0
PopsLast line ss us ts vs None = NoneBehind line ss us ts vs
PopsLast line ss us ts vs (Some p) = LastGoes line ss us ts vs p

-- the lists ss and us become ts and vs, and the removed problems are in `spare`, moved, the last
-- one first
pub record IsTaken (line new_end : ℕ) (ss us ts vs spare : List ProblemValue) : Type 0 where
  pub taken : map (shifted line new_end) (merged (behind line ts) (behind line vs)) ++ reverse spare ≡ map (shifted line new_end) (merged (behind line ss) (behind line us))
  pub shown_above : (n : ℕ) → n ≤ line → above n ts ≡ above n ss
  pub suppressed_above : (n : ℕ) → n ≤ line → above n vs ≡ above n us
  pub shown_in_order : IsInOrder ts
  pub suppressed_in_order : IsInOrder vs
  pub shown_low : AllByRecursion IsLow ts
  pub suppressed_low : AllByRecursion IsLow vs
  pub count : length ts + length vs + length spare ≡ length ss + length us
