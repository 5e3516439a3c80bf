-- Meaning: laws of what an edit makes of the problems that are found in a text.
use Rattle.std.specs.Prelude.{◌≡◌, ℕ, ◌≤◌, Bool, true, false, not, List, [], ◌∷◌, ◌++◌, Option, Some, None, IfSome, IsSome, slice_get}
use Rattle.std.specs.List.{AllByRecursion, filter}
use Rattle.yl_text.specs.declared.finding.RuleId.{RuleId}
use Rattle.yl_text.specs.Finding.{FindingValue}
use Rattle.yl_rules.specs.Levels.{LevelTable}
use Rattle.yl_report.specs.Report.{ProblemValue, is_syntax, report_of}
use Rattle.yl_problem_lists.specs.Changes.{PatchValue, moved, patched}
use Rattle.yl_problem_lists.specs.Order.{IsInOrder}
use Rattle.yl_problem_lists.specs.Parts.{PartsValue, above, behind, is_no_fault, parted, shifted, stays_judged, with_fault, without_fault}

-- ---- parts follow

-- what is shown of the problems below the lines: without a `below` it is what was shown of them,
-- else it is what `below` says
abbrev pub FollowsBelow : Option (ProblemValue → Bool) → (ProblemValue → Bool) → (ProblemValue → Bool) → PatchValue → List ProblemValue → Type 0
FollowsBelow None now was p found = AllByRecursion (λ q. now (shifted p.old_end p.new_end q) ≡ was q) (behind p.old_end found)
FollowsBelow (Some below) now was p found = AllByRecursion (λ q. below q ≡ now q) (moved p found)

-- `all` is `found`, except for the indentation below the first `line` lines, which is `new` if it
-- is judged again
abbrev pub IsJudgedAgain : ℕ → Option (List ProblemValue) → List ProblemValue → List ProblemValue → Type 0
IsJudgedAgain line None found all = all ≡ found
IsJudgedAgain line (Some new) found all = IsInOrder all × (filter (stays_judged line) all ≡ filter (stays_judged line) found) × (new ≡ filter (λ q. not (stays_judged line q)) all)

-- `was` says what was shown of all problems before the edit, and `now` what is shown of all
-- problems after it; `found` are the problems before the edit, `all` the same with the indentation
-- that is judged again, and `new` those in the edited lines
pub record Follows (now was : ProblemValue → Bool) (found all new : List ProblemValue) (p : PatchValue) : Type 0 where
  pub in_order : IsInOrder found
  pub lines : p.first ≤ p.old_end
  pub judged : IsJudgedAgain p.old_end p.indentation found all
  pub told : IsSome p.indentation → IsSome p.below
  pub shown : p.shown ≡ filter now new
  pub suppressed : p.suppressed ≡ filter (λ q. not (now q)) new
  pub above : AllByRecursion (λ q. now q ≡ was q) (above p.first all)
  pub below : FollowsBelow p.below now was p all

-- all problems after the edit
abbrev pub found_after : PatchValue → List ProblemValue → List ProblemValue → List ProblemValue
found_after p new all = above p.first all ++ (new ++ moved p all)

-- a patch of both lists gives the two lists of all problems after the edit
abbrev pub PartsFollow : Type 0
PartsFollow = (now was : ProblemValue → Bool) (found all new : List ProblemValue) (p : PatchValue) → Follows now was found all new p → parted now (found_after p new all) ≡ patched p (parted was found)

-- ---- the text's fault

-- if a fault is put into lists without one and then taken out, both lists are as before
abbrev pub FaultGoes : Type 0
FaultGoes = (fault : Option ProblemValue) (ps : PartsValue) → filter is_no_fault ps.shown ≡ ps.shown → IfSome fault (λ p. is_syntax p.rule ≡ true) → without_fault (with_fault fault ps) ≡ ps

-- the findings are of rules, and none is the text's fault
abbrev pub AreRules : List FindingValue → Type 0
AreRules xs = AllByRecursion (λ f. is_syntax f.rule ≡ false) xs

-- the report of a fault among other findings is the report of these, with the fault in its place;
-- what is silenced where the fault is reported alone does not matter
abbrev pub FaultComes : Type 0
FaultComes = (levels : LevelTable) (is_file_silenced : Bool) (silenced other : RuleId → ℕ → Bool) (fault : FindingValue) (before behind : List FindingValue) (ps : PartsValue)
    → is_syntax fault.rule ≡ true → AreRules before → AreRules behind → ps.shown ≡ report_of levels is_file_silenced silenced (before ++ behind)
    → report_of levels is_file_silenced silenced (before ++ fault ∷ behind) ≡ (with_fault (slice_get (report_of levels is_file_silenced other (fault ∷ [])) 0) ps).shown

-- ---- order

-- a report is in order
abbrev pub ReportIsInOrder : Type 0
ReportIsInOrder = (levels : LevelTable) (is_file_silenced : Bool) (silenced : RuleId → ℕ → Bool) (found : List FindingValue) → IsInOrder (report_of levels is_file_silenced silenced found)

-- if a list is in order, both parts of it are in order
abbrev pub PartsAreInOrder : Type 0
PartsAreInOrder = (f : ProblemValue → Bool) (ps : List ProblemValue) → IsInOrder ps → IsInOrder (parted f ps).shown × IsInOrder (parted f ps).suppressed

-- the shown problems are in order after the text's fault is put in, if there was no fault among
-- them
abbrev pub WithFaultIsInOrder : Type 0
WithFaultIsInOrder = (fault : Option ProblemValue) (ps : PartsValue) → IsInOrder ps.shown → filter is_no_fault ps.shown ≡ ps.shown → IfSome fault (λ p. is_syntax p.rule ≡ true) → IsInOrder (with_fault fault ps).shown
