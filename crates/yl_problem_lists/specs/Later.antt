-- Bridge: which of two lists ends with the later problem.
use Rattle.std.specs.Prelude.{◌-◌, Bool, true, false, List, length, Option, Some, None, slice_get}
use Rattle.yl_report.specs.Report.{ProblemValue}
use Rattle.yl_problem_lists.specs.Order.{comes_before}

-- there is a former problem, and it comes after the latter, if there is a latter
abbrev pub is_later : Option ProblemValue → Option ProblemValue → Bool
is_later None o = false
is_later (Some p) None = true
is_later (Some p) (Some q) = comes_before q p

-- the last problem of the former list is the later one
abbrev pub ends_later : List ProblemValue → List ProblemValue → Bool
ends_later ps qs = is_later (slice_get ps (length ps - 1)) (slice_get qs (length qs - 1))
