-- Meaning: problems in the order of a report.
use Rattle.std.specs.Prelude.{Bool, if◌then◌else◌, List, [], ◌∷◌}
use Rattle.std.specs.Ordering.{is_lt}
use Rattle.std.specs.declared.cmp.Ordering.{Ordering}
use Rattle.std.specs.List.Sorted.{IsStrictlySortedBy}
use Rattle.yl_report.specs.Report.{ProblemValue, finding_order}
use Rattle.yl_report.specs.Told.{finding_told}

-- by line, column, rule name and message
abbrev pub problem_order : ProblemValue → ProblemValue → Ordering
problem_order p q = finding_order (finding_told p) (finding_told q)

-- the former comes before the latter
abbrev pub comes_before : ProblemValue → ProblemValue → Bool
comes_before p q = is_lt (problem_order p q)

-- each comes before the next
abbrev pub IsInOrder : List ProblemValue → Type 0
IsInOrder ps = IsStrictlySortedBy problem_order ps

-- the list with p before the first problem that does not come before p
abbrev pub put_in : ProblemValue → List ProblemValue → List ProblemValue
put_in p [] = p ∷ []
put_in p (q ∷ qs) = if comes_before q p then q ∷ put_in p qs else p ∷ q ∷ qs

-- the problems of two lists that are in order, in one list that is in order
abbrev pub merged : List ProblemValue → List ProblemValue → List ProblemValue
merged [] qs = qs
merged (p ∷ ps) qs = put_in p (merged ps qs)
