-- Meaning: laws of the measure and of the problems of a text.
use Rattle.std.specs.Prelude.{◌≡◌, List, ◌++◌}
use Rattle.yl_indentation.specs.declared.fact.Fact.{Fact}
use Rattle.yl_indentation.specs.declared.measure.Measure.{Measure}
use Rattle.yl_indentation.specs.declared.options.IndentationOptions.{IndentationOptions}
use Rattle.yl_indentation.specs.Measures.{empty_measure, and_later, measure_at, measure_of, is_flush}
use Rattle.yl_indentation.specs.Problems.{finding_at, indent_problems, facts_of_all, text_problems, document_problems}
use Rattle.yl_indentation.specs.Onward.{CountsEntriesOnceSeen, onward_problems}

-- the measure of facts followed by later facts is their two measures, joined
abbrev pub MeasureIsLocal : Type 0
MeasureIsLocal = (earlier later : List Fact) → measure_of (earlier ++ later)
    ≡ and_later (measure_of earlier) (measure_of later)

-- the problems of a text, from the facts of all its documents, are those of its documents, one
-- after another
abbrev pub ProblemsAreByDocuments : Type 0
ProblemsAreByDocuments = (options : IndentationOptions) (documents : List (List Fact))
    → text_problems options (facts_of_all documents)
    ≡ document_problems options empty_measure (measure_of (facts_of_all documents)) documents

-- in each measure of facts, the steps with and without entries are equal if there is no entry in a
-- mapping
abbrev pub FactsCountEntriesOnceSeen : Type 0
FactsCountEntriesOnceSeen = (fs : List Fact) → CountsEntriesOnceSeen (measure_of fs)

-- if this is true of two measures, it is true of the two joined
abbrev pub BothCountEntriesOnceSeen : Type 0
BothCountEntriesOnceSeen = (earlier later : Measure) → CountsEntriesOnceSeen earlier
    → CountsEntriesOnceSeen later → CountsEntriesOnceSeen (and_later earlier later)

-- what is found at a place does not depend on the facts after it
abbrev pub FindingLooksBack : Type 0
FindingLooksBack = (options : IndentationOptions) (before later : Measure) (f : Fact)
    → CountsEntriesOnceSeen before
    → let here = and_later before (measure_at f.column f.expectation) in
    finding_at options here (is_flush (and_later here later)) f
    ≡ finding_at options here (is_flush here) f

-- the problems of facts do not depend on the facts after them, and each depends only on the measure
-- of the facts up to it
abbrev pub ProblemsLookBack : Type 0
ProblemsLookBack = (options : IndentationOptions) (before later : Measure) (fs : List Fact)
    → CountsEntriesOnceSeen before
    → indent_problems options before (and_later (and_later before (measure_of fs)) later) fs
    ≡ onward_problems options before fs

-- the problems of some facts of a text depend only on these facts and the earlier ones
abbrev pub ProblemsOfSomeLookBack : Type 0
ProblemsOfSomeLookBack = (options : IndentationOptions) (earlier fs later : List Fact)
    → indent_problems options (measure_of earlier) (measure_of (earlier ++ (fs ++ later))) fs
    ≡ indent_problems options (measure_of earlier) (measure_of (earlier ++ fs)) fs

-- the problems of a text do not depend on the measure of the whole text
abbrev pub TextProblemsGoOnward : Type 0
TextProblemsGoOnward = (options : IndentationOptions) (fs : List Fact)
    → text_problems options fs ≡ onward_problems options empty_measure fs

-- the problems of a text up to a place are those of the facts up to that place
abbrev pub TextProblemsLookBack : Type 0
TextProblemsLookBack = (options : IndentationOptions) (fs later : List Fact)
    → text_problems options (fs ++ later)
    ≡ text_problems options fs
    ++ indent_problems options (measure_of fs) (measure_of (fs ++ later)) later
