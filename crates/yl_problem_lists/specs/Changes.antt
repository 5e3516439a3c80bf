-- Meaning: what an edit makes of the problems that are found in a text.
use Rattle.std.specs.Prelude.{ℕ, Bool, not, List, ◌++◌, map, Option, Some, None}
use Rattle.std.specs.List.{filter}
use Rattle.std.specs.Option.{option_map}
use Rattle.yl_report.specs.Report.{ProblemValue}
use Rattle.yl_problem_lists.specs.declared.change.Change.{Change}
use Rattle.yl_problem_lists.specs.declared.change.Change.TheVariants.{Stay, Patch}
use Rattle.yl_problem_lists.specs.declared.change.LinesPatch.{LinesPatch}
use Rattle.yl_problem_lists.specs.declared.change.FoundProblems.{FoundProblems}
use Rattle.yl_problem_lists.specs.Order.{merged}
use Rattle.yl_problem_lists.specs.Parts.{PartsValue, above, behind, judged_again, shifted, with_fault, without_fault}
use Rattle.yl_problem_lists.specs.Showing.{is_shown_by}

-- both lists as a value
abbrev pub parts_in : {A : Type 0} → FoundProblems A → PartsValue
parts_in f = record { shown = f.shown.items; suppressed = f.suppressed.items }

-- what an edit makes of the problems in some lines and below them: those in the lines after the
-- first `first`, up to `old_end`, are replaced by `shown` and `suppressed`, and those below move up
-- by `old_end` lines and down by `new_end` lines. `indentation` replaces the indentation below, if
-- it is judged again, and `below` says which of the problems below are shown, if that changes. The
-- text's fault is put in last
pub record PatchValue : Type 0 where
  pub first : ℕ
  pub old_end : ℕ
  pub new_end : ℕ
  pub shown : List ProblemValue
  pub suppressed : List ProblemValue
  pub indentation : Option (List ProblemValue)
  pub below : Option (ProblemValue → Bool)
  pub fault : Option ProblemValue

-- a patch as a value
abbrev pub patch_in : {A : Type 0} → LinesPatch A → PatchValue
patch_in p = record {
  first = p.first;
  old_end = p.old_end;
  new_end = p.new_end;
  shown = p.shown.items;
  suppressed = p.suppressed.items;
  indentation = option_map (λ v. v.items) p.indentation;
  below = option_map (λ s. is_shown_by s) p.below;
  fault = p.fault;
}

-- the problems below the edited lines, at their lines after the edit
abbrev pub moved : PatchValue → List ProblemValue → List ProblemValue
moved p ps = map (shifted p.old_end p.new_end) (behind p.old_end ps)

-- the problems of both lists below the edited lines, in order, at their lines after the edit
abbrev pub all_moved : PatchValue → PartsValue → List ProblemValue
all_moved p ps = map (shifted p.old_end p.new_end) (merged (behind p.old_end ps.shown) (behind p.old_end ps.suppressed))

-- the problems below that are shown: each stays in its list, or all are split again
abbrev pub shown_below : Option (ProblemValue → Bool) → PatchValue → PartsValue → List ProblemValue
shown_below None p ps = moved p ps.shown
shown_below (Some f) p ps = filter f (all_moved p ps)

-- the problems below that are suppressed
abbrev pub suppressed_below : Option (ProblemValue → Bool) → PatchValue → PartsValue → List ProblemValue
suppressed_below None p ps = moved p ps.suppressed
suppressed_below (Some f) p ps = filter (λ q. not (f q)) (all_moved p ps)

-- both lists after the edit of the lines
abbrev pub patched_lines : PatchValue → PartsValue → PartsValue
patched_lines p ps = record {
  shown = above p.first ps.shown ++ (p.shown ++ shown_below p.below p ps);
  suppressed = above p.first ps.suppressed ++ (p.suppressed ++ suppressed_below p.below p ps);
}

-- both lists after the edit of the lines and of the indentation below
abbrev pub patched : PatchValue → PartsValue → PartsValue
patched p ps = patched_lines p (judged_again p.old_end p.indentation ps)

-- what a change makes of both lists, with the text's fault among the shown problems
abbrev pub renewed : {A : Type 0} → Change A → PartsValue → PartsValue
renewed Stay ps = ps
renewed (Patch p) ps = with_fault p.fault (patched (patch_in p) (without_fault ps))
