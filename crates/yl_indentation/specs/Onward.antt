-- Meaning: the problems of the rule indentation, each from the measure of the facts up to its
-- place.
use Rattle.std.specs.Prelude.{◌≡◌, List, [], ◌∷◌, ◌++◌, None}
use Rattle.yl_text.specs.Finding.{FindingValue}
use Rattle.yl_indentation.specs.declared.fact.Fact.{Fact}
use Rattle.yl_indentation.specs.declared.measure.Measure.{Measure}
use Rattle.yl_indentation.specs.declared.options.IndentationOptions.{IndentationOptions}
use Rattle.yl_indentation.specs.Measures.{and_later, measure_at, is_flush}
use Rattle.yl_indentation.specs.Problems.{finding_at}

-- if there was no entry in a mapping, the steps with and without entries are the same. This is true
-- of each measure of facts
abbrev pub CountsEntriesOnceSeen : Measure → Type 0
CountsEntriesOnceSeen m = m.flush ≡ None → m.step ≡ m.step_with_entries

-- the problems of facts that follow facts of the measure `before`, each from the measure of the
-- facts up to it alone
abbrev pub onward_problems : IndentationOptions → Measure → List Fact → List FindingValue
onward_problems options before [] = []
onward_problems options before (f ∷ fs) =
    let here = and_later before (measure_at f.column f.expectation) in
    finding_at options here (is_flush here) f ++ onward_problems options here fs

-- these facts have the same problems after facts of either measure, under any options
abbrev pub AreJudgedAlike : Measure → Measure → List Fact → Type 0
AreJudgedAlike one other fs =
    (options : IndentationOptions) → onward_problems options one fs ≡ onward_problems options other fs
