-- Bridge: what a change requires: room, and lists that are in order.
use Rattle.std.specs.Prelude.{◌≡◌, ℕ, ◌+◌, ◌≤◌, Bool, false, List, [], Option, Some, None, IfSome, IsSome, Vec, vec_len, vec_capacity}
use Rattle.std.specs.List.{AllByRecursion, filter}
use Rattle.yl_report.specs.Report.{ProblemValue}
use Rattle.yl_problem_lists.specs.declared.change.Change.{Change}
use Rattle.yl_problem_lists.specs.declared.change.Change.TheVariants.{Stay, Patch}
use Rattle.yl_problem_lists.specs.declared.change.FoundProblems.{FoundProblems}
use Rattle.yl_problem_lists.specs.declared.change.LinesPatch.{LinesPatch}
use Rattle.yl_problem_lists.specs.declared.change.Spare.{Spare}
use Rattle.yl_problem_lists.specs.Order.{IsInOrder}
use Rattle.yl_problem_lists.specs.Parts.{IsLow, PartsValue, is_no_fault, is_upto, stays_judged, without_fault}

-- the number of problems that may come from the other list, which has n: n or 0
abbrev pub crossing : {S : Type 0} → Option S → ℕ → ℕ
crossing None n = 0
crossing (Some s) n = n

-- 1 if there is a fault, else 0
abbrev pub fault_count : {P : Type 0} → Option P → ℕ
fault_count None = 0
fault_count (Some p) = 1

-- the number of problems of the rule indentation that are put in, or 0
abbrev pub count_anew : {A : Type 0} → Option (Vec ProblemValue A) → ℕ
count_anew None = 0
count_anew (Some new) = vec_len new

-- the list is empty and has room for n problems
pub record IsRoomFor {A : Type 0} (n : ℕ) (room : Vec ProblemValue A) : Type 0 where
  pub empty : room.items ≡ []
  pub enough : n ≤ vec_capacity room

-- both lists have room for what the patch puts in and for the text's fault, and `room` for what the
-- patch takes out and puts back
pub record HasRoomFor {A : Type 0} (f : FoundProblems A) (p : LinesPatch A) (room : Vec ProblemValue A) : Type 0 where
  pub shown : vec_len f.shown + vec_len p.shown + crossing p.below (vec_len f.suppressed + count_anew p.indentation) + fault_count p.fault ≤ vec_capacity f.shown
  pub suppressed : vec_len f.suppressed + count_anew p.indentation + vec_len p.suppressed + crossing p.below (vec_len f.shown) ≤ vec_capacity f.suppressed
  pub spare : IsRoomFor (crossing p.below (vec_len f.shown + (vec_len f.suppressed + count_anew p.indentation))) room

-- the room that a change requires
abbrev pub HasRoom : {A : Type 0} → FoundProblems A → Change A → Spare A → Type 0
HasRoom f Stay spare = Unit {0}
HasRoom f (Patch p) spare = HasRoomFor f p spare.taken

-- both lists are in order, and their lines are small enough that a number of lines may be added
pub record AreOrdered (ps : PartsValue) : Type 0 where
  pub shown_in_order : IsInOrder ps.shown
  pub suppressed_in_order : IsInOrder ps.suppressed
  pub shown_low : AllByRecursion IsLow ps.shown
  pub suppressed_low : AllByRecursion IsLow ps.suppressed

-- if `had_fault` is false, no fault is shown
abbrev pub ToldFault : Bool → List ProblemValue → Type 0
ToldFault had_fault ps = had_fault ≡ false → filter is_no_fault ps ≡ ps

-- problems of the rule indentation below the first `line` lines, in order
pub record IsIndentation (line : ℕ) (new : List ProblemValue) : Type 0 where
  pub in_order : IsInOrder new
  pub low : AllByRecursion IsLow new
  pub behind : AllByRecursion (λ q. is_upto line q ≡ false) new
  pub apart : AllByRecursion (λ q. stays_judged line q ≡ false) new

-- if indentation is judged again, the problems below the lines are split again
pub record IsJudgedReady {A : Type 0} (p : LinesPatch A) : Type 0 where
  pub indentation : IfSome p.indentation (λ new. IsIndentation p.old_end new.items)
  pub below : IsSome p.indentation → IsSome p.below

-- what a patch requires of both lists: without the text's fault they are in order
pub record IsReadyFor {A : Type 0} (p : LinesPatch A) (ps : PartsValue) : Type 0 where
  pub lines : p.first ≤ p.old_end
  pub judged : IsJudgedReady p
  pub ordered : AreOrdered (without_fault ps)
  pub fault : ToldFault p.had_fault ps.shown

-- what a change requires of both lists
abbrev pub IsReady : {A : Type 0} → Change A → PartsValue → Type 0
IsReady Stay ps = Unit {0}
IsReady (Patch p) ps = IsReadyFor p ps
